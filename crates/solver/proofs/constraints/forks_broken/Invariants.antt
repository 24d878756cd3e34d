use mathlib.Core.Path.{◌≡◌}
use Prim.Native.Nat.{◌-◌}
use Rattle.frames.specs.Links.{node_count}
use Rattle.frames.specs.Tables.{cell}
use Rattle.meaning.specs.Constraints.{first_broken, forks_of}
use Rattle.solver.specs.Laws.Findings.{lists_from, fork_of}
use Rattle.solver.specs.Flat.{program_in, tables_in}
use Rattle.solver.proofs.constraints.forks_broken.Given as goal

abbrev pub invariant-loop-node : goal.invariant-loop-node
invariant-loop-node l =
    first_broken (program_in l.method.tables.now) (tables_in l.grades) (forks_of (program_in l.method.tables.now) l.method.number)
    ≡ first_broken (program_in l.method.tables.now) (tables_in l.grades) (lists_from (fork_of (program_in l.method.tables.now) l.method.number) l.node (node_count (cell l.method.tables.now) l.method.number - l.node))
