use Prim.Native.Nat.{◌+◌, ◌*◌}
use Rattle.frames.specs.Layout.{layout}
use Rattle.solver.specs.Code.Rounds.{Done, round_tables}
use Rattle.solver.proofs.rounds.round_method.Given as goal

abbrev pub invariant-loop-h : goal.invariant-loop-h
invariant-loop-h l = Done (layout.grades * l.method.number + l.h) (round_tables l.method.tables.now l.old) l.old l.new
