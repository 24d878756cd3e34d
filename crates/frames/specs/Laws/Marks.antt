-- The marks say what the definitions say: a node is marked exactly if it has been named.
-- Assumes nothing.
use Rattle.std.specs.Prelude.{ℕ, ◌≤◌, ◌<◌, ◌≡◌, refl, Bool, not, ◌&&◌, ◌||◌, List, [], ◌∷◌, ◌⊎◌, ltb, eqb, length, get_or, set}
use Rattle.std.proofs.Common.{ap, ◌∙◌, inl, inr, arith, length-set, get_or-set_same, get_or-set_other, lt-ltb, le-ltb, eq-eqb, ne_eqb}
use Rattle.std.proofs.Math.Decide.{ℕ_discrete}
use Rattle.counting.specs.Laws.Lists.{get_or-zeros, length-zeros}
use Rattle.frames.specs.Layout.{layout}
use Rattle.frames.specs.Links.{fresh, naming}
use Rattle.frames.specs.Code.Marks.{unmarked, fresh_in, marked}
use Rattle.frames.specs.Code.Steps.{marks_of}
use Rattle.counting.specs.Counting.{member}
use Rattle.counting.specs.Laws.Tests.{lt-or-le}

pub length-marks : (xs : List ℕ) → length (marks_of xs) ≡ layout.most_nodes
unfolding marks_of
length-marks [] = length-zeros layout.most_nodes
length-marks (x ∷ xs) = length-set (marks_of xs) x 1 ∙ length-marks xs

pub marks-member : (xs : List ℕ) (c : ℕ) → c < layout.most_nodes → eqb (get_or (marks_of xs) c 0) 1 ≡ member c xs
unfolding marks_of member
marks-member [] c h = rw (get_or-zeros layout.most_nodes c)
marks-member (x ∷ xs) c h = go (ℕ_discrete c x) (marks-member xs c h)
  where
    go : Dec (c ≡ x) → eqb (get_or (marks_of xs) c 0) 1 ≡ member c xs → eqb (get_or (set (marks_of xs) x 1) c 0) 1 ≡ (eqb c x || member c xs)
    go (yes e) r = rw (e, get_or-set_same (marks_of xs) x 1 0 (omega (arith, length-marks xs)), eq-eqb x x refl)
    go (no d) r = rw (get_or-set_other (marks_of xs) x c 1 0 d, ne_eqb c x d) r

pub marks-fresh : (n : ℕ) (xs cs : List ℕ) → n ≤ layout.most_nodes → fresh_in n (marks_of xs) cs ≡ fresh n xs cs
unfolding fresh_in fresh marks_of
marks-fresh n xs [] h = refl
marks-fresh n xs (c ∷ cs) h = go (lt-or-le c n) (marks-fresh n (c ∷ xs) cs h)
  where
    go : (c < n) ⊎ (n ≤ c) → fresh_in n (marks_of (c ∷ xs)) cs ≡ fresh n (c ∷ xs) cs
        → (unmarked n (marks_of xs) c && fresh_in n (set (marks_of xs) c 1) cs) ≡ (ltb c n && (not (member c xs) && fresh n (c ∷ xs) cs))
    go (inl l) r = rw (lt-ltb c n l, marks-member xs c (omega arith)) (ap (λ (b : Bool). not (member c xs) && b) r)
    go (inr g) r = rw (le-ltb c n g)

pub marks-naming : (xs cs : List ℕ) → marked (marks_of xs) cs ≡ marks_of (naming xs cs)
unfolding marked naming marks_of
marks-naming xs [] = refl
marks-naming xs (c ∷ cs) = marks-naming (c ∷ xs) cs
