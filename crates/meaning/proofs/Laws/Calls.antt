-- What is known of a callee's entry. Each law goes over the caller's names, one at a time: a name puts its bit before the sets of the others, and
-- FF puts either bit.
-- Assumes nothing.
use Rattle.std.specs.Prelude.{ℕ, suc, ◌+◌, ◌*◌, ◌^◌, ◌≤◌, ◌<◌, max, Bool, false, cond, ◌≡◌, eqb, length, take}
use Rattle.std.proofs.Math.Bool.{true}
use mathlib.Core.List.{List, [], ◌∷◌, map}
use Rattle.std.proofs.Math.Path.{refl, ap}
use Rattle.std.proofs.Common.{◌∙◌, subst, lt_of_lt_of_le, length-take, pow_mono, pow_pos}
use native.Mathlib.Omega.{arith}
use Rattle.grades.specs.HeldSets.{entries, held, Within, no_name, packed}
use Rattle.grades.proofs.Laws.HeldSets.{within-refl, bit_below, bit-respects}
use Rattle.counting.specs.Counting.{together}
use Rattle.meaning.specs.Meaning.{allowed, choices, matching, largest, callee_entry}

-- a set with a bit put before it
abbrev pub with_bit : Bool → ℕ → ℕ
with_bit b S = cond b 1 0 + S * 2

-- a table at the sets with a bit put before them
abbrev pub behind : Bool → (ℕ → ℕ) → ℕ → ℕ
behind b table S = table (with_bit b S)

-- the largest entry over the sets that match some names
abbrev pub over : (ℕ → ℕ) → (names : List ℕ) → (H : ℕ) → ℕ
over table names H = largest table (matching names H)

-- ---- one name more

module _ (table : ℕ → ℕ) where
  one_answer : (b : Bool) (chosen : List (List Bool))
      → largest table (map packed (together (λ c. map (λ a. a ∷ c) (b ∷ [])) chosen)) ≡ largest (behind b table) (map packed chosen)
  unfolding largest packed
  one_answer b [] = refl
  one_answer b (c ∷ chosen) = ap (max (table (with_bit b (packed c)))) (one_answer b chosen)

  two-answers : (chosen : List (List Bool))
      → largest table (map packed (together (λ c. map (λ a. a ∷ c) (false ∷ true ∷ [])) chosen))
      ≡ max (largest (behind false table) (map packed chosen)) (largest (behind true table) (map packed chosen))
  unfolding largest packed
  two-answers [] = refl
  two-answers (c ∷ chosen) = omega (arith, two-answers chosen)

  pub over_none : (H : ℕ) → over table [] H ≡ table 0
  unfolding largest matching choices packed
  over_none H = omega arith

  -- FF: both answers
  pub over-unnamed : (t : ℕ) (names : List ℕ) (H : ℕ) → eqb t no_name ≡ true
      → over table (t ∷ names) H ≡ max (over (behind false table) names H) (over (behind true table) names H)
  unfolding matching choices allowed
  over-unnamed t names H e =
      ap (λ (b : Bool). largest table (map packed (together (λ c. map (λ a. a ∷ c) (cond b (false ∷ true ∷ []) (held H t ∷ []))) (choices (map (allowed H) names))))) e
      ∙ two-answers (choices (map (allowed H) names))

  -- a name: "held exactly if Tj is in H"
  pub over-named : (t : ℕ) (names : List ℕ) (H : ℕ) → eqb t no_name ≡ false
      → over table (t ∷ names) H ≡ over (behind (held H t) table) names H
  unfolding matching choices allowed
  over-named t names H e =
      ap (λ (b : Bool). largest table (map packed (together (λ c. map (λ a. a ∷ c) (cond b (false ∷ true ∷ []) (held H t ∷ []))) (choices (map (allowed H) names))))) e
      ∙ one_answer (held H t) (choices (map (allowed H) names))

-- ---- the order of entries

-- R relates callers' sets H and H' and callees' sets alike: a bit put before related sets, the same one or a name's, gives related sets
module _ (R : ℕ → ℕ → Type 0)
    (none : R 0 0)
    (same_bit : (b : Bool) (S S' : ℕ) → R S S' → R (with_bit b S) (with_bit b S'))
    (H H' : ℕ)
    (name-bit : (t S S' : ℕ) → R S S' → R (with_bit (held H t) S) (with_bit (held H' t) S'))
  where
    -- t' is nowhere above t, at related sets of n names
    abbrev Ordered : (n : ℕ) → (t t' : ℕ → ℕ) → Type 0
    Ordered n t t' = (S S' : ℕ) → S < 2 ^ n → S' < 2 ^ n → R S S' → t' S' ≤ t S

    more : (n : ℕ) (t t' : ℕ → ℕ) (b b' : Bool) → ((S S' : ℕ) → R S S' → R (with_bit b S) (with_bit b' S'))
        → Ordered (suc n) t t' → Ordered n (behind b t) (behind b' t')
    more n t t' b b' f h S S' s s' r = h (with_bit b S) (with_bit b' S') (bit_below n b S s) (bit_below n b' S' s') (f S S' r)

    over-order : (names : List ℕ) (t t' : ℕ → ℕ) → Ordered (length names) t t' → over t' names H' ≤ over t names H
    over-order [] t t' h = omega (arith, over_none t H, over_none t' H', h 0 0 (pow_pos 0) (pow_pos 0) none)
    over-order (x ∷ names) t t' h =
        go (λ b b' f. over-order names (behind b t) (behind b' t') (more (length names) t t' b b' f h)) (eqb x no_name) refl
      where
        go : ((b b' : Bool) → ((S S' : ℕ) → R S S' → R (with_bit b S) (with_bit b' S')) → over (behind b' t') names H' ≤ over (behind b t) names H)
            → (b : Bool) → eqb x no_name ≡ b → over t' (x ∷ names) H' ≤ over t (x ∷ names) H
        go rest true e =
            omega
            (arith, over-unnamed t x names H e, over-unnamed t' x names H' e, rest false false (same_bit false), rest true true (same_bit true))
        go rest false e = omega (arith, over-named t x names H e, over-named t' x names H' e, rest (held H x) (held H' x) (name-bit x))

-- every matching set is one of the callee's held sets
pub entries-few : (k : ℕ) (names : List ℕ) (S : ℕ) → S < 2 ^ length (take k names) → S < entries k
unfolding entries
entries-few k names S h =
    let short : length (take k names) ≤ k = simp length-take (omega arith) in lt_of_lt_of_le h (pow_mono short)

-- an entry grows with the table
pub over-grows : (names : List ℕ) (H : ℕ) (t t' : ℕ → ℕ) → ((S : ℕ) → S < 2 ^ length names → t' S ≤ t S) → over t' names H ≤ over t names H
over-grows names H t t' h =
    over-order ◌≡◌ refl (λ b S S'. ap (with_bit b)) H H (λ x S S'. ap (with_bit (held H x))) names t t'
    (λ S S' s s' e. subst (λ (F : ℕ). t' F ≤ t S) e (h S s))

pub entry-grows : (k : ℕ) (names : List ℕ) (H : ℕ) (t t' : ℕ → ℕ) → ((S : ℕ) → S < entries k → t' S ≤ t S)
    → callee_entry k t' names H ≤ callee_entry k t names H
unfolding callee_entry
entry-grows k names H t t' h = over-grows (take k names) H t t' (λ S s. h S (entries-few k names S s))

-- an entry falls as more is held, where the table does
pub entry-falls : (k : ℕ) (names : List ℕ) (H H' : ℕ) (t t' : ℕ → ℕ)
    → ((S S' : ℕ) → S < entries k → S' < entries k → Within S S' → t' S' ≤ t S) → Within H H' → callee_entry k t' names H' ≤ callee_entry k t names H
unfolding callee_entry
entry-falls k names H H' t t' h w =
    over-order Within (within-refl 0) (λ b S S'. bit-respects b b S S' (λ x. x)) H H'
    (λ x S S'. bit-respects (held H x) (held H' x) S S' (w x)) (take k names) t t'
    (λ S S' s s'. h S S' (entries-few k names S s) (entries-few k names S' s'))
