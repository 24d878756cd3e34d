-- `solver::rises::note_entry` meets its contract.
-- Assumes nothing.
use mathlib.Core.Path.{◌≡◌, refl, ap, ◌∙◌, subst}
use native.Mathlib.Omega.{arith}
use native.Mathlib.Decide.{dec_lt}
use Prim.Native.Nat.{ℕ, ◌+◌, ◌*◌, ◌<◌, ◌≤◌}
use Rattle.std.proofs.Common.{min}
use mathlib.Core.List.{List}
use lib.ListN.{length, get_or, set, length-set}
use lib.Seq.{get_or-set_same, get_or-set_other}
use Rattle.frames.specs.Layout.{layout}
use Rattle.solver.specs.Code.Rises.{noted, NotedAt}
use Rattle.solver.specs.Laws.Rises.{not-risen, risen-past}
use Rattle.solver.proofs.rises.note_entry.Goals as goal

-- one grade more is noted
more : (e g old new n v : ℕ) (from to : List ℕ) → NotedAt e g old new n from to → layout.most_grade * e + g < length to
    → v ≡ noted (get_or to (layout.most_grade * e + g) 0) old new g n → NotedAt e (g + 1) old new n from (set to (layout.most_grade * e + g) v)
more e g old new n v from to s h is =
    record {
      size = length-set to (layout.most_grade * e + g) v ∙ s.size;
      done = λ j l. go j l (dec_lt j g);
      before = λ i l. get_or-set_other to (layout.most_grade * e + g) i v 0 (λ same. absurd (omega arith)) ∙ s.before i l;
      rest = λ i l. get_or-set_other to (layout.most_grade * e + g) i v 0 (λ same. absurd (omega arith)) ∙ s.rest i (omega arith);
    }
  where
    go : (j : ℕ) → j < g + 1 → Dec (j < g)
        → get_or (set to (layout.most_grade * e + g) v) (layout.most_grade * e + j) 0 ≡ noted (get_or from (layout.most_grade * e + j) 0) old new j n
    go j l (yes k) = get_or-set_other to (layout.most_grade * e + g) (layout.most_grade * e + j) v 0 (λ same. absurd (omega arith)) ∙ s.done j k
    go j l (no k) =
        let same : g ≡ j = omega arith in
        subst (λ (x : ℕ). get_or (set to (layout.most_grade * e + g) v) (layout.most_grade * e + x) 0 ≡ noted (get_or from (layout.most_grade * e + x) 0) old new x n) same
        (get_or-set_same to (layout.most_grade * e + g) v 0 h ∙ is ∙ ap (λ (x : ℕ). noted x old new g n) (s.rest (layout.most_grade * e + g) (omega arith)))

-- where the rises end, all grades are noted
ended : (e b old new n : ℕ) (from to : List ℕ) → old ≤ b → min new layout.most_grade ≤ b → NotedAt e (min b layout.most_grade) old new n from to
    → NotedAt e layout.most_grade old new n from to
ended e b old new n from to h l s =
    record { size = s.size; done = λ g k. go g k (dec_lt g b); before = s.before; rest = λ i k. s.rest i (omega arith) }
  where
    go : (g : ℕ) → g < layout.most_grade → Dec (g < b)
        → get_or to (layout.most_grade * e + g) 0 ≡ noted (get_or from (layout.most_grade * e + g) 0) old new g n
    go g k (yes m) = s.done g (omega arith)
    go g k (no m) = s.rest (layout.most_grade * e + g) (omega arith) ∙ not-risen _ old new g n (λ _. omega arith)

pub loop-below-init : goal.loop-below-init
loop-below-init c = let a = c.args in (
  c.requires.0,
  record { size = refl; done = λ g l. not-risen _ a.old a.new g a.n (λ h. absurd (omega arith)); before = λ i l. refl; rest = λ i l. refl },
)

pub loop-below-preserved : goal.loop-below-preserved
loop-below-preserved c = let at = c.loop-below in
    let a = c.args in
    let place = layout.most_grade * a.e + at.below in
    let here : min at.below layout.most_grade ≡ at.below = omega (arith, c.min-below-end.ensures) in
    let next : at.below + 1 ≡ min (at.below + 1) layout.most_grade = omega (arith, c.min-below-end.ensures) in (
      length-set at.rises place a.n ∙ at.invariant.0,
      subst (λ (b : ℕ). NotedAt a.e b a.old a.new a.n a.rises.now (set at.rises place a.n)) next
          (more a.e at.below a.old a.new a.n a.n a.rises.now at.rises (subst (λ (b : ℕ). NotedAt a.e b a.old a.new a.n a.rises.now at.rises) here at.invariant.1)
          (omega (arith, at.invariant.0, c.requires.1, c.min-below-end.ensures)) (risen-past _ a.old a.new at.below a.n (omega arith) (omega (arith, c.min-below-end.ensures)))),
    )

pub returns : goal.returns
returns c = let at = c.loop-below in
    let a = c.args in
    ended a.e at.below a.old a.new a.n a.rises.now at.rises (omega arith) (omega (arith, c.min-below-end.ensures)) at.invariant.1
