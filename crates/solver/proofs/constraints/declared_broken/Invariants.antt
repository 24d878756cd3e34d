use Prim.Native.Nat.{ℕ, ◌≤◌, ◌<◌}
use Rattle.meaning.specs.Meaning.{root_table}
use Rattle.meaning.specs.Lowest.{declared_table}
use Rattle.solver.specs.Flat.{program_in, tables_in}
use Rattle.solver.proofs.constraints.declared_broken.Given as goal

abbrev pub invariant-loop-h : goal.invariant-loop-h
invariant-loop-h l = (j : ℕ) → j < l.h → root_table (program_in l.method.tables.now) (tables_in l.grades) l.method.number j ≤ declared_table (program_in l.method.tables.now) l.method.number j
