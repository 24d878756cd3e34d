-- `explainer::before::entry_before` meets its contract.
-- Assumes nothing.
use mathlib.Core.Path.{◌≡◌, ap, ◌∙◌}
use native.Mathlib.Omega.{arith}
use Prim.Native.Nat.{ℕ, ◌+◌, ◌*◌}
use mathlib.Core.List.{List}
use mathlib.Core.Bool.{cond}
use lib.Dec.{ltb}
use lib.ListN.{get_or}
use Rattle.frames.specs.Layout.{layout}
use Rattle.explainer.specs.Code.Before.{risen_past, risen_count}
use Rattle.explainer.proofs.before.entry_before.Goals as goal

-- the four rises of an entry together
summed : (rises : List ℕ) (e round : ℕ) (one two three four : ℕ)
    → one ≡ cond (ltb (get_or rises (layout.most_grade * e) 0) round) 1 0 → two ≡ risen_past rises e round 1 → three ≡ risen_past rises e round 2 → four ≡ risen_past rises e round 3
    → one + two + (three + four) ≡ risen_count rises e round
unfolding risen_count risen_past
summed rises e round one two three four p q r s =
    let none : layout.most_grade * e ≡ layout.most_grade * e + 0 = omega arith in
    omega (arith, p ∙ ap (λ (i : ℕ). cond (ltb (get_or rises i 0) round) 1 0) none, q, r, s)

pub returns : goal.returns
unfolding risen_past
returns c = let one = c.risen_before.ensures in
    let two = c.risen_before-2.ensures in
    let three = c.risen_before-3.ensures in
    let four = c.risen_before-4.ensures in
    let a = c.args in
    (summed a.rises.now a.e a.round _ _ _ _ one.0 two.0 three.0 four.0, omega arith)
