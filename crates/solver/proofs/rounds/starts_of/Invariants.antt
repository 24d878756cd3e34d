use mathlib.Core.Path.{◌≡◌}
use Prim.Native.Nat.{◌+◌, ◌*◌, ◌≤◌}
use Rattle.frames.specs.Tables.{cell, first_frame}
use Rattle.solver.specs.Code.Rounds.{Starts}
use Rattle.solver.proofs.rounds.starts_of.Given as goal

abbrev pub invariant-loop-m : goal.invariant-loop-m
invariant-loop-m l = (l.at ≡ first_frame (cell l.tables) l.m) × (l.at ≤ 512 + 65536 * l.m) × Starts l.tables l.m l.starts
