use mathlib.Core.Path.{◌≡◌}
use Rattle.std.proofs.Common.{min}
use lib.ListN.{length}
use Rattle.frames.specs.Layout.{layout}
use Rattle.solver.specs.Rises.{rises_length}
use Rattle.solver.specs.Code.Rises.{NotedAt}
use Rattle.solver.proofs.rises.note_entry.Given as goal

abbrev pub invariant-loop-below : goal.invariant-loop-below
invariant-loop-below l = (length l.rises ≡ rises_length) × NotedAt l.e (min l.below layout.most_grade) l.old l.new l.n l.initial.rises l.rises
