-- The rises of one round more are noted.
-- Assumes nothing.
use mathlib.Core.Path.{◌≡◌, sym, ap, ◌∙◌, subst, subst₂}
use Prim.Native.Nat.{ℕ, ◌+◌, ◌*◌}
use mathlib.Core.List.{List}
use native.Mathlib.Numerals.{add-one}
use Rattle.frames.specs.Layout.{layout}
use Rattle.frames.specs.Frames.{methods_in}
use Rattle.frames.specs.Tables.{cell}
use Rattle.solver.specs.Flat.{program_in, flat}
use Rattle.solver.specs.Rises.{rises_after}
use Rattle.solver.specs.Code.Rounds.{Fits}
use Rattle.solver.specs.Code.Rises.{Noted}
use Rattle.solver.specs.Laws.Rises.{rises_next}
use Rattle.solver.specs.Laws.Rounds.{after_rounds}
use Rattle.solver.proofs.rises.ArrayU16RISESNotes.next.Goals as goal

next-noted : (t : List ℕ) → Fits t → (methods n : ℕ) (old new from to : List ℕ) → methods ≡ methods_in (cell t) → old ≡ flat (after_rounds t n)
    → new ≡ flat (after_rounds t (n + 1)) → from ≡ rises_after (program_in t) n
    → Noted (layout.most_grade * (layout.grades * methods)) old new (n + 1) from to → to ≡ rises_after (program_in t) (n + 1)
next-noted t fits methods n old new from to m o e f s =
    rises_next t fits n to
    (subst₂ (λ (x : ℕ) (y : List ℕ). Noted (layout.most_grade * (layout.grades * methods_in (cell t))) (flat (after_rounds t n)) (flat (after_rounds t x)) x y to) (add-one n) f
    (subst (λ (x : ℕ). Noted (layout.most_grade * (layout.grades * x)) (flat (after_rounds t n)) (flat (after_rounds t (n + 1))) (n + 1) from to) m
    (subst₂ (λ (x y : List ℕ). Noted (layout.most_grade * (layout.grades * methods)) x y (n + 1) from to) o e s)))
    ∙ ap (rises_after (program_in t)) (sym (add-one n))

pub returns : goal.returns
returns c = let a = c.args in
    let given = c.requires in
    next-noted a.tables.now given.fits c.methods-used.result a.n a.old.now a.new.now a.self.now c.note.new.rises c.methods-used.ensures.is given.old given.new given.kept c.note.ensures
