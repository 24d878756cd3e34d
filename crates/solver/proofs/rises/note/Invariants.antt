use mathlib.Core.Path.{◌≡◌}
use Prim.Native.Nat.{◌*◌}
use lib.ListN.{length}
use Rattle.frames.specs.Layout.{layout}
use Rattle.solver.specs.Rises.{rises_length}
use Rattle.solver.specs.Code.Rises.{Noted}
use Rattle.solver.proofs.rises.note.Given as goal

abbrev pub invariant-loop-e : goal.invariant-loop-e
invariant-loop-e l = (length l.rises ≡ rises_length) × Noted (layout.most_grade * l.e) l.old l.new l.n l.initial.rises l.rises
