-- The rule of `Meaning` for FF at one call, beside document 01's: it is nowhere below, and the same where no name is FF or the table falls.
-- Assumes nothing.
use Rattle.std.specs.Prelude.{ℕ, zero, suc, ◌^◌, ◌≤◌, ◌<◌, max, Bool, true, false, not, ◌&&◌, cond, List, [], ◌∷◌, map, ◌≡◌, refl, eqb, length, take}
use Rattle.std.proofs.Common.{sym, ap, ◌∙◌, subst, le_refl, le_of_eq, le_antisymm, arith, ne_eqb}
use Rattle.grades.specs.HeldSets.{held, Within, no_name, packed}
use Rattle.grades.proofs.Laws.HeldSets.{within-refl, bit_below, bit-respects}
use Rattle.counting.specs.Counting.{All}
use Rattle.meaning.specs.Meaning.{callee_entry}
use Rattle.meaning.specs.NotHeld.{counts_as_held, entry_not_held, EntriesCompared, called_by}
use Rattle.meaning.proofs.Laws.Calls.{with_bit, behind, over, over_none, over-unnamed, over-named, entries-few, over-grows}

-- ---- one call

-- 01's set of some names
abbrev set01 : (names : List ℕ) → (H : ℕ) → ℕ
set01 names H = packed (map (counts_as_held H) names)

-- 01's answer for FF, and for a name
counts-unnamed : (H t : ℕ) → eqb t no_name ≡ true → counts_as_held H t ≡ false
counts-unnamed H t e = ap (λ (b : Bool). (not b && held H t)) e

counts-named : (H t : ℕ) → eqb t no_name ≡ false → counts_as_held H t ≡ held H t
counts-named H t e = ap (λ (b : Bool). (not b && held H t)) e

-- 01's set, with the first name's answer
at01 : (t : ℕ → ℕ) (x : ℕ) (names : List ℕ) (H : ℕ) (b : Bool) → counts_as_held H x ≡ b → t (set01 (x ∷ names) H) ≡ behind b t (set01 names H)
unfolding packed
at01 t x names H b e = ap (λ (c : Bool). t (with_bit c (set01 names H))) e

-- 01's set is one of those that match
not-below : (t : ℕ → ℕ) (names : List ℕ) (H : ℕ) → t (set01 names H) ≤ over t names H
unfolding packed
not-below t [] H = le_of_eq (sym (over_none t H))
not-below t (x ∷ names) H = go (λ b. not-below (behind b t) names H) (eqb x no_name) refl
  where
    go : ((b : Bool) → behind b t (set01 names H) ≤ over (behind b t) names H) → (b : Bool) → eqb x no_name ≡ b
        → t (set01 (x ∷ names) H) ≤ over t (x ∷ names) H
    go rest true e = omega (arith, over-unnamed t x names H e, at01 t x names H false (counts-unnamed H x e), rest false)
    go rest false e = omega (arith, over-named t x names H e, at01 t x names H (held H x) (counts-named H x e), rest (held H x))

-- and the only one, where no name is FF
only-named : (t : ℕ → ℕ) (names : List ℕ) (H : ℕ) → All (λ x. x ≡ no_name → ⊥) names → over t names H ≡ t (set01 names H)
unfolding packed
only-named t [] H h = over_none t H
only-named t (x ∷ names) H h =
    let named : eqb x no_name ≡ false = ne_eqb x no_name h.0 in
    over-named t x names H named ∙ only-named (behind (held H x) t) names H h.1 ∙ sym (at01 t x names H (held H x) (counts-named H x named))

-- where the table falls, its entry is the largest: what FF adds is no larger
not-above : (t : ℕ → ℕ) (names : List ℕ) (H : ℕ)
    → ((S S' : ℕ) → S < 2 ^ length names → S' < 2 ^ length names → Within S S' → t S' ≤ t S) → over t names H ≤ t (set01 names H)
unfolding packed
not-above t [] H h = le_of_eq (over_none t H)
not-above t (x ∷ names) H h =
    go
    (λ b. not-above (behind b t) names H
    (λ S S' s s' w. h (with_bit b S) (with_bit b S') (bit_below (length names) b S s) (bit_below (length names) b S' s') (bit-respects b b S S' (λ y. y) w)))
    (eqb x no_name) refl
  where
    less : over (behind true t) names H ≤ over (behind false t) names H
    less =
        over-grows names H (behind false t) (behind true t)
        (λ S s. h (with_bit false S) (with_bit true S) (bit_below (length names) false S s) (bit_below (length names) true S s) (bit-respects false true S S (λ y. tt) (within-refl S)))

    go : ((b : Bool) → over (behind b t) names H ≤ behind b t (set01 names H)) → (b : Bool) → eqb x no_name ≡ b
        → over t (x ∷ names) H ≤ t (set01 (x ∷ names) H)
    go rest true e = omega (arith, over-unnamed t x names H e, at01 t x names H false (counts-unnamed H x e), rest false, less)
    go rest false e = omega (arith, over-named t x names H e, at01 t x names H (held H x) (counts-named H x e), rest (held H x))

pub entries-compared : (k : ℕ) (table : ℕ → ℕ) (names : List ℕ) (H : ℕ) → EntriesCompared k table names H
unfolding callee_entry entry_not_held
entries-compared k table names H =
    record {
      nowhere_below = not-below table (take k names) H;
      where_named = only-named table (take k names) H;
      where_falling = λ h.
          le_antisymm
          (not-above table (take k names) H (λ S S' s s'. h S S' (entries-few k names S s) (entries-few k names S' s')))
          (not-below table (take k names) H);
    }

-- ---- FF as a name that is not held

-- with l for FF the matching set is 01's, where l is not held
called-set : (l : ℕ) → (l ≡ no_name → ⊥) → (t : ℕ → ℕ) (names : List ℕ) (H : ℕ) → held H l ≡ false → over t (called_by l names) H ≡ t (set01 names H)
unfolding packed
called-set l n t [] H f = over_none t H
called-set l n t (x ∷ names) H f = go (λ b. called-set l n (behind b t) names H f) (eqb x no_name) refl
  where
    go : ((b : Bool) → over (behind b t) (called_by l names) H ≡ behind b t (set01 names H)) → (b : Bool) → eqb x no_name ≡ b
        → over t (called_by l (x ∷ names)) H ≡ t (set01 (x ∷ names) H)
    go rest true e =
        ap (λ (b : Bool). over t (cond b l x ∷ called_by l names) H) e
        ∙ over-named t l (called_by l names) H (ne_eqb l no_name n)
        ∙ ap (λ (b : Bool). over (behind b t) (called_by l names) H) f ∙ rest false ∙ sym (at01 t x names H false (counts-unnamed H x e))
    go rest false e =
        ap (λ (b : Bool). over t (cond b l x ∷ called_by l names) H) e
        ∙ over-named t x (called_by l names) H e ∙ rest (held H x) ∙ sym (at01 t x names H (held H x) (counts-named H x e))

-- any name for FF, held or not, is one of FF's choices
called-below : (l : ℕ) → (l ≡ no_name → ⊥) → (t : ℕ → ℕ) (names : List ℕ) (H : ℕ) → over t (called_by l names) H ≤ over t names H
called-below l n t [] H = le_refl _
called-below l n t (x ∷ names) H = go (λ b. called-below l n (behind b t) names H) (eqb x no_name) refl
  where
    either : (b : Bool) → ((c : Bool) → over (behind c t) (called_by l names) H ≤ over (behind c t) names H)
        → over (behind b t) (called_by l names) H ≤ max (over (behind false t) names H) (over (behind true t) names H)
    either true rest = omega (arith, rest true)
    either false rest = omega (arith, rest false)

    go : ((b : Bool) → over (behind b t) (called_by l names) H ≤ over (behind b t) names H) → (b : Bool) → eqb x no_name ≡ b
        → over t (called_by l (x ∷ names)) H ≤ over t (x ∷ names) H
    go rest true e =
        omega (
          arith,
          ap (λ (b : Bool). over t (cond b l x ∷ called_by l names) H) e,
          over-named t l (called_by l names) H (ne_eqb l no_name n),
          over-unnamed t x names H e,
          either (held H l) rest,
        )
    go rest false e =
        omega (
          arith,
          ap (λ (b : Bool). over t (cond b l x ∷ called_by l names) H) e,
          over-named t x (called_by l names) H e,
          over-named t x names H e,
          rest (held H x),
        )

take-called : (l k : ℕ) (names : List ℕ) → take k (called_by l names) ≡ called_by l (take k names)
take-called l zero names = refl
take-called l (suc k) [] = refl
take-called l (suc k) (x ∷ names) = ap (λ (rest : List ℕ). cond (eqb x no_name) l x ∷ rest) (take-called l k names)

pub entry-reads : (l : ℕ) → (l ≡ no_name → ⊥) → (k : ℕ) (table : ℕ → ℕ) (names : List ℕ) (H : ℕ) → held H l ≡ false
    → callee_entry k table (called_by l names) H ≡ entry_not_held k table names H
unfolding callee_entry entry_not_held
entry-reads l n k table names H f = ap (λ (ns : List ℕ). over table ns H) (take-called l k names) ∙ called-set l n table (take k names) H f

pub entry-below : (l : ℕ) → (l ≡ no_name → ⊥) → (k : ℕ) (table : ℕ → ℕ) (names : List ℕ) (H : ℕ)
    → callee_entry k table (called_by l names) H ≤ callee_entry k table names H
unfolding callee_entry
entry-below l n k table names H =
    subst (λ (ns : List ℕ). over table ns H ≤ over table (take k names) H) (sym (take-called l k names)) (called-below l n table (take k names) H)
