use Prim.Native.Nat.{◌*◌}
use Rattle.frames.specs.Layout.{layout}
use Rattle.solver.specs.Code.Rounds.{Done, round_tables}
use Rattle.solver.proofs.rounds.round.Given as goal

abbrev pub invariant-loop-m : goal.invariant-loop-m
invariant-loop-m l = Done (layout.grades * l.m) (round_tables l.placed.tables.now l.old) l.old l.new
