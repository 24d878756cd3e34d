-- Where a call goes: the callee's set is one of its held sets, matches the caller's names, and has the call's own part, the largest entry.
-- Assumes nothing.
use Rattle.std.specs.Prelude.{ℕ, ◌^◌, ◌≤◌, ◌<◌, max, Bool, true, false, not, cond, ◌&&◌, ◌||◌, List, [], ◌∷◌, ◌≡◌, refl, T, eqb, ltb, length, take}
use Rattle.std.proofs.Common.{⊎_elim, sym, ap, ◌∙◌, subst, le_refl, arith, eqb→eq, T_not, lt→ltb, le-ltb}
use Rattle.std.proofs.Math.Decide.{dec_lt}
use Rattle.std.proofs.Math.Dec.{eqb_refl}
use Rattle.counting.specs.Counting.{first, member}
use Rattle.counting.specs.Laws.Tests.{lt-or-le, both_left, both_right, both_of, cond_yes, cond_no}
use Rattle.counting.specs.Laws.Counting.{first_passes, first-least}
use Rattle.grades.specs.HeldSets.{entries, no_name}
use Rattle.frames.specs.Program.{Node, Program, method_at}
use Rattle.meaning.specs.Meaning.{Assignment, matching, largest, callee_entry}
use Rattle.meaning.specs.Lowest.{entry_count}
use Rattle.meaning.proofs.Laws.Calls.{over, over_none, over-unnamed, over-named, over-grows, entries-few}
use Rattle.reasons.specs.Steps.{callee_set}

-- ---- the largest of some entries

pub largest-most : (table : ℕ → ℕ) (sets : List ℕ) (z : ℕ) → ((S : ℕ) → table S ≤ z) → largest table sets ≤ z
unfolding largest
largest-most table [] z h = omega arith
largest-most table (S ∷ sets) z h = omega (arith, h S, largest-most table sets z h)

pub largest-least : (table : ℕ → ℕ) (sets : List ℕ) (S : ℕ) → T (member S sets) → table S ≤ largest table sets
unfolding largest member
largest-least table [] S t = absurd t
largest-least table (x ∷ sets) S t = go (eqb S x) refl t (largest-least table sets S)
  where
    go : (b : Bool) → eqb S x ≡ b → T (b || member S sets) → (T (member S sets) → table S ≤ largest table sets) → table S ≤ max (table x) (largest table sets)
    go true e s ih = omega (arith, ap table (eqb→eq S x (subst T (sym e) tt)))
    go false e s ih = omega (arith, ih s)

-- a set at which it is attained
pub record Attained (table : ℕ → ℕ) (sets : List ℕ) : Type 0 where
  pub set : ℕ
  pub among : T (member set sets)
  pub largest : table set ≡ largest table sets

attained : (table : ℕ → ℕ) (S : ℕ) (sets : List ℕ) → Attained table (S ∷ sets)
unfolding largest member
attained table S [] = record { set = S; among = here (eqb S S) (eqb_refl S); largest = omega arith }
  where
    here : (b : Bool) → T b → T (b || false)
    here true t = tt
    here false t = t
attained table S (x ∷ sets) = go (attained table x sets)
  where
    here : (b c : Bool) → T b → T (b || c)
    here true c t = tt
    here false c t = absurd t

    there : (b c : Bool) → T c → T (b || c)
    there true c t = tt
    there false c t = t

    go : Attained table (x ∷ sets) → Attained table (S ∷ x ∷ sets)
    go later =
        ⊎_elim
        (λ (l : table S < largest table (x ∷ sets)).
        record { set = later.set; among = there (eqb later.set S) (member later.set (x ∷ sets)) later.among; largest = omega (arith, later.largest) })
        (λ (l : largest table (x ∷ sets) ≤ table S).
        record { set = S; among = here (eqb S S) (member S (x ∷ sets)) (eqb_refl S); largest = omega arith })
        (lt-or-le (table S) (largest table (x ∷ sets)))

-- ---- the sets that match some names

-- there is one
some-match : (names : List ℕ) (H : ℕ) → over (λ S. 1) names H ≡ 1
some-match [] H = over_none (λ S. 1) H
some-match (x ∷ names) H = go (eqb x no_name) refl (some-match names H)
  where
    go : (b : Bool) → eqb x no_name ≡ b → over (λ S. 1) names H ≡ 1 → over (λ S. 1) (x ∷ names) H ≡ 1
    go true e ih = omega (arith, over-unnamed (λ S. 1) x names H e)
    go false e ih = over-named (λ S. 1) x names H e ∙ ih

pub match-attained : (table : ℕ → ℕ) (names : List ℕ) (H : ℕ) → Attained table (matching names H)
unfolding largest
match-attained table names H = go (matching names H) (some-match names H)
  where
    go : (sets : List ℕ) → largest (λ S. 1) sets ≡ 1 → Attained table sets
    go [] e = absurd (omega arith)
    go (S ∷ sets) e = attained table S sets

-- each is a set of as many names
pub match-below : (names : List ℕ) (H S : ℕ) → T (member S (matching names H)) → S < 2 ^ length names
match-below names H S t = go (dec_lt S (2 ^ length names))
  where
    past : ℕ → ℕ
    past F = cond (ltb F (2 ^ length names)) 0 1

    none : over past names H ≤ over (λ F. 0) names H
    none = over-grows names H (λ F. 0) past (λ F l. omega (arith, cond_yes (ltb F (2 ^ length names)) 0 1 (lt→ltb F (2 ^ length names) l)))

    go : Dec (S < 2 ^ length names) → S < 2 ^ length names
    go (yes l) = l
    go (no l) =
        absurd (over-it (cond_no (ltb S (2 ^ length names)) 0 1 (subst (λ (b : Bool). T (not b)) (sym (le-ltb S (2 ^ length names) (omega arith))) tt))
        (largest-least past (matching names H) S t) none (largest-most (λ F. 0) (matching names H) 0 (λ F. le_refl 0)))
      where
        over-it : {x y z : ℕ} → x ≡ 1 → x ≤ y → y ≤ z → z ≤ 0 → ⊥
        over-it a b c d = omega arith

-- ---- the callee's set

-- what passes somewhere passes first somewhere
first-most : (n : ℕ) (f : ℕ → Bool) (i : ℕ) → i < n → T (f i) → first n f < n
first-most n f i h t = go (dec_lt i (first n f))
  where
    go : Dec (i < first n f) → first n f < n
    go (yes l) = absurd (T_not (f i) (first-least n f i l) t)
    go (no l) = omega arith

-- at the callee's set, which matches, is the entry g
pub record CalleeSet (p : Program) (a : Assignment) (node : Node) (H g : ℕ) : Type 0 where
  pub set : callee_set p a node H g < entry_count p node.U
  pub matches : T (member (callee_set p a node H g) (matching (take (method_at p node.U).k node.names) H))
  pub has : a node.U (callee_set p a node H g) ≡ g

pub callee-set : (p : Program) (a : Assignment) (node : Node) (H : ℕ)
    → CalleeSet p a node H (callee_entry (method_at p node.U).k (a node.U) node.names H)
unfolding callee_set callee_entry entry_count
callee-set p a node H = found (first-most count test it.set below passes)
  where
    k : ℕ
    k = (method_at p node.U).k

    sets : List ℕ
    sets = matching (take k node.names) H

    g : ℕ
    g = largest (a node.U) sets

    it : Attained (a node.U) sets
    it = match-attained (a node.U) (take k node.names) H

    test : ℕ → Bool
    test S = member S sets && eqb (a node.U S) g

    count : ℕ
    count = entries k

    below : it.set < count
    below = entries-few k node.names it.set (match-below (take k node.names) H it.set it.among)

    passes : T (test it.set)
    passes =
        both_of (member it.set sets) (eqb (a node.U it.set) g) it.among
        (subst (λ (x : ℕ). T (eqb (a node.U it.set) x)) it.largest (eqb_refl (a node.U it.set)))

    found : first count test < count → CalleeSet p a node H g
    found l =
        let t : T (test (first count test)) = first_passes count test l in
        record {
          set = l;
          matches = both_left (member (first count test) sets) (eqb (a node.U (first count test)) g) t;
          has = eqb→eq _ g (both_right (member (first count test) sets) (eqb (a node.U (first count test)) g) t);
        }
