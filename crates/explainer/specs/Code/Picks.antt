-- The part that a step goes on to, by its number among the node's parts.
-- Assumes nothing.
use Rattle.std.specs.Prelude.{ℕ, ◌≤◌, ◌<◌, Bool, not, List, ◌≡◌, Option, Some, None, T, eqb, get_or}
use Rattle.counting.specs.Counting.{first}
use Rattle.grades.specs.Grades.{atomic, cmpd}
use Rattle.meaning.specs.Meaning.{Part, own}
use Rattle.reasons.specs.Steps as steps
use Rattle.reasons.specs.Steps.{picked, none}
use Rattle.explainer.specs.declared.picks.Pick.{Pick}

-- the last number below n that passes
pub record LastOf (n : ℕ) (f : ℕ → Bool) (r : ℕ) : Type 0 where
  pub bound : r < n
  pub passes : T (f r)
  pub later : (j : ℕ) → r < j → j < n → T (not (f j))

-- no number below n passes
abbrev pub NoneOf : (n : ℕ) (f : ℕ → Bool) → Type 0
NoneOf n f = (j : ℕ) → j < n → T (not (f j))

-- of n parts, by their grades: the first that has the whole's, or the last atomic one
pub data PickedAt (whole : ℕ) (grade : ℕ → ℕ) (n : ℕ) : Option Pick → Type 0 where
  same : (part : ℕ) → part ≡ first n (λ i. eqb (grade i) whole) → part < n → PickedAt whole grade n (Some (record { part = part; added = 0 }))
  twice : (part : ℕ) → n ≤ first n (λ i. eqb (grade i) whole) → whole ≡ cmpd → LastOf n (λ i. eqb (grade i) atomic) part
      → PickedAt whole grade n (Some (record { part = part; added = 8 }))
  nothing : n ≤ first n (λ i. eqb (grade i) whole) → (whole ≡ cmpd → NoneOf n (λ i. eqb (grade i) atomic)) → PickedAt whole grade n None

-- a part by its number
unfoldable pub part_at : List Part → (i : ℕ) → Part
part_at parts i = get_or parts i (own 0)

-- what was picked, among the parts
abbrev pub pick_in : List Part → Option Pick → steps.Pick
pick_in parts None = none
pick_in parts (Some p) = picked (part_at parts p.part) p.added
