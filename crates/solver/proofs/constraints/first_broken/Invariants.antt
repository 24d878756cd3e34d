use mathlib.Core.Path.{◌≡◌}
use Prim.Native.Nat.{◌-◌}
use Rattle.frames.specs.Frames.{methods_in}
use Rattle.frames.specs.Tables.{cell}
use Rattle.counting.specs.Counting.{up_to}
use Rattle.meaning.specs.Constraints.{first_broken, closed_of, finding}
use Rattle.solver.specs.Laws.Findings.{lists_from}
use Rattle.solver.specs.Flat.{program_in, tables_in}
use Rattle.solver.proofs.constraints.first_broken.Given as goal

abbrev pub invariant-loop-m : goal.invariant-loop-m
invariant-loop-m l =
    finding (program_in l.placed.tables.now) (tables_in l.grades) (up_to (methods_in (cell l.placed.tables.now)))
    ≡ first_broken (program_in l.placed.tables.now) (tables_in l.grades) (lists_from (closed_of (program_in l.placed.tables.now)) l.m (methods_in (cell l.placed.tables.now) - l.m))
