use Prim.Native.Nat.{◌+◌, ◌*◌}
use Rattle.frames.specs.Layout.{layout}
use Rattle.solver.specs.Flat.{blank}
use Rattle.solver.specs.Code.Rounds.{Done, start_tables}
use Rattle.solver.proofs.rounds.start_method.Given as goal

abbrev pub invariant-loop-h : goal.invariant-loop-h
invariant-loop-h l = Done (layout.grades * l.m + l.h) (start_tables l.tables) blank l.new
