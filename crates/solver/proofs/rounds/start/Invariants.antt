use Prim.Native.Nat.{◌*◌}
use Rattle.frames.specs.Layout.{layout}
use Rattle.solver.specs.Flat.{blank}
use Rattle.solver.specs.Code.Rounds.{Done, start_tables}
use Rattle.solver.proofs.rounds.start.Given as goal

abbrev pub invariant-loop-m : goal.invariant-loop-m
invariant-loop-m l = Done (layout.grades * l.m) (start_tables l.tables) blank l.new
