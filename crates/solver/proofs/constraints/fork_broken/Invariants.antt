use Prim.Native.Nat.{ℕ, ◌<◌}
use Rattle.solver.specs.Laws.Findings.{Quiet}
use Rattle.solver.specs.Flat.{tables_in}
use Rattle.solver.proofs.constraints.fork_broken.Given as goal

abbrev pub invariant-loop-held : goal.invariant-loop-held
invariant-loop-held l = (j : ℕ) → j < l.held → Quiet (tables_in l.grades) l.u j
