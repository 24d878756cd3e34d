-- The rises of no round are noted: those of the tables that the rounds start from.
-- Assumes nothing.
use mathlib.Core.Path.{subst₂}
use Prim.Native.Nat.{ℕ, ◌*◌}
use mathlib.Core.List.{List}
use lib.ListN.{replicate}
use Rattle.frames.specs.Layout.{layout}
use Rattle.solver.specs.Flat.{blank}
use Rattle.solver.specs.Rises.{never, rises_length}
use Rattle.solver.specs.Code.Rises.{Noted}
use Rattle.solver.specs.Laws.Rises.{rises-start}
use Rattle.solver.proofs.rises.ArrayU16RISESNotes.begin.Goals as goal

pub returns : goal.returns
returns c = let to = c.note.new.rises in
    rises-start c.args.tables.now c.requires.fits to
    (subst₂ (λ (n : ℕ) (x : List ℕ). Noted (layout.most_grade * (layout.grades * n)) blank x 0 (replicate rises_length never) to) c.methods-used.ensures.is c.requires.start (unfold blank in c.note.ensures))
