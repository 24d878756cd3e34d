-- Which part accounts for a node's grade. One test, computed over all triples of grades, says that some part does, but for a plain value, a lock
-- newly taken over 0 or 1, and an assert over 3.
-- Assumes nothing.
use Rattle.std.specs.Prelude.{ℕ, ◌≤◌, ◌<◌, Bool, true, false, not, cond, ◌&&◌, ◌||◌, List, [], ◌∷◌, map, ◌≡◌, refl, T, eqb, ltb}
use Rattle.std.proofs.Common.{sym, subst, arith, eqb→eq, ltb→lt, eqb-true, ne_eqb}
use Rattle.std.proofs.Math.Dec.{eqb_refl}
use Rattle.std.proofs.lemmas.Bool.{eqb-false}
use Rattle.counting.specs.Counting.{every, member, All}
use Rattle.counting.specs.Laws.Tests.{both_left, both_right}
use Rattle.counting.specs.Laws.Counting.{every-at}
use Rattle.grades.specs.Grades.{atomic, cmpd, error, cap, composition, compose, join, closure, assert_atomic, lock_taken}
use Rattle.meaning.specs.Meaning.{Part}
use Rattle.reasons.specs.Steps.{Pick, picked, none, or_else, first_part, last_atomic, pick_of}

-- ---- a pick by cases

-- what is to be known of a part, where it is the first of the grade
abbrev pub Firsts : (P : Pick → Type 0) (grade : Part → ℕ) (g : ℕ) → List Part → Type 0
Firsts P grade g [] = Unit {0}
Firsts P grade g (x ∷ xs) = (grade x ≡ g → P (picked x 0)) × ((grade x ≡ g → ⊥) → Firsts P grade g xs)

-- and where it is one of grade 2
abbrev pub Atomics : (P : Pick → Type 0) (grade : Part → ℕ) → List Part → Type 0
Atomics P grade [] = Unit {0}
Atomics P grade (x ∷ xs) = (grade x ≡ atomic → P (picked x 8)) × Atomics P grade xs

first_part_lem : (P : Pick → Type 0) (grade : Part → ℕ) (g : ℕ) (xs : List Part) → Firsts P grade g xs → (T (not (member g (map grade xs))) → P none) → P (first_part grade g xs)
unfolding first_part member
first_part_lem P grade g [] h n = n tt
first_part_lem P grade g (x ∷ xs) h n = go (λ k m. first_part_lem P grade g xs k m) (eqb (grade x) g) refl
  where
    go : (Firsts P grade g xs → (T (not (member g (map grade xs))) → P none) → P (first_part grade g xs))
        → (b : Bool) → eqb (grade x) g ≡ b → P (cond b (picked x 0) (first_part grade g xs))
    go ih true e = h.0 (eqb-true (grade x) g e)
    go ih false e =
        let other : (grade x ≡ g → ⊥) = eqb-false (grade x) g e in
        ih (h.1 other)
        (λ t. n (subst (λ (b : Bool). T (not (b || member g (map grade xs)))) (sym (ne_eqb g (grade x) (λ d. other (sym d)))) t))

last-atomic : (P : Pick → Type 0) (grade : Part → ℕ) (xs : List Part) → Atomics P grade xs → (T (not (member atomic (map grade xs))) → P none) → P (last_atomic grade xs)
unfolding last_atomic member
last-atomic P grade [] h n = n tt
last-atomic P grade (x ∷ xs) h n =
    last-atomic (λ k. P (or_else k (cond (eqb (grade x) atomic) (picked x 8) none))) grade xs (later xs h.1) (λ t. go t (eqb (grade x) atomic) refl)
  where
    later : (ys : List Part) → Atomics P grade ys → Atomics (λ k. P (or_else k (cond (eqb (grade x) atomic) (picked x 8) none))) grade ys
    later [] k = tt
    later (y ∷ ys) k = (k.0, later ys k.1)

    go : T (not (member atomic (map grade xs))) → (b : Bool) → eqb (grade x) atomic ≡ b → P (cond b (picked x 8) none)
    go t true e = h.0 (eqb-true (grade x) atomic e)
    go t false e =
        n (subst (λ (b : Bool). T (not (b || member atomic (map grade xs)))) (sym (ne_eqb atomic (grade x) (λ d. eqb-false (grade x) atomic e (sym d)))) t)

other : (b c : Bool) → T (b || c) → T (not b) → T c
other true c s t = absurd t
other false c s t = s

-- some part has the whole's grade, or the whole is 3 and some part has 2
unfoldable pub accounted : (whole : ℕ) → (grades : List ℕ) → Bool
accounted w gs = member w gs || (eqb w cmpd && member atomic gs)

pub pick-cases : (P : Pick → Type 0) (w : ℕ) (grade : Part → ℕ) (xs : List Part)
    → Firsts P grade w xs → (w ≡ cmpd → Atomics P grade xs) → (T (not (accounted w (map grade xs))) → P none) → P (pick_of w grade xs)
unfolding pick_of accounted
pick-cases P w grade xs h k n =
    first_part_lem (λ x. P (or_else x (cond (eqb w cmpd) (last_atomic grade xs) none))) grade w xs (later xs h) (λ t. go t (eqb w cmpd) refl)
  where
    later : (ys : List Part) → Firsts P grade w ys → Firsts (λ x. P (or_else x (cond (eqb w cmpd) (last_atomic grade xs) none))) grade w ys
    later [] f = tt
    later (y ∷ ys) f = (f.0, λ o. later ys (f.1 o))

    no-first : (b c : Bool) → T (not b) → T (not c) → T (not (b || c))
    no-first true c s t = s
    no-first false c s t = t

    go : T (not (member w (map grade xs))) → (b : Bool) → eqb w cmpd ≡ b → P (cond b (last_atomic grade xs) none)
    go t true e =
        last-atomic P grade xs (k (eqb-true w cmpd e))
        (λ s. n (no-first (member w (map grade xs)) (eqb w cmpd && member atomic (map grade xs)) t (subst (λ (b : Bool). T (not (b && member atomic (map grade xs)))) (sym e) s)))
    go t false e =
        n (no-first (member w (map grade xs)) (eqb w cmpd && member atomic (map grade xs)) t (subst (λ (b : Bool). T (not (b && member atomic (map grade xs)))) (sym e) tt))

-- ---- the test

abbrev claims : (x y z : ℕ) → List Bool
claims x y z =
    accounted (compose x y) (x ∷ y ∷ [])
    ∷ accounted (compose (compose x y) z) (x ∷ y ∷ z ∷ [])
    ∷ accounted (compose x (join y z)) (x ∷ y ∷ z ∷ [])
    ∷ accounted (compose x (closure (compose y x))) (x ∷ y ∷ [])
    ∷ (accounted (lock_taken x) (x ∷ []) || ltb x atomic)
    ∷ (accounted (assert_atomic x) (x ∷ []) || eqb x cmpd)
    ∷ []

pass : List Bool → Bool
pass [] = true
pass (b ∷ bs) = b && pass bs

passed : (bs : List Bool) → T (pass bs) → All T bs
unfolding pass
passed [] t = tt
passed (b ∷ bs) t = (both_left b (pass bs) t, passed bs (both_right b (pass bs) t))

computed : T (every 5 (λ x. every 5 (λ y. every 5 (λ z. pass (claims x y z)))))
unfolding every pass accounted member compose composition cap join closure assert_atomic lock_taken
computed = tt

tested : (x y z : ℕ) → x ≤ error → y ≤ error → z ≤ error → All T (claims x y z)
tested x y z h k l =
    passed (claims x y z)
    (every-at 5 (λ c. pass (claims x y c))
    (every-at 5 (λ b. every 5 (λ c. pass (claims x b c)))
    (every-at 5 (λ a. every 5 (λ b. every 5 (λ c. pass (claims a b c)))) computed x (omega arith)) y (omega arith))
    z (omega arith))

module _ (x y : ℕ) (h : x ≤ error) (k : y ≤ error) where
  pub compose-accounted : T (accounted (compose x y) (x ∷ y ∷ []))
  compose-accounted = (tested x y 0 h k (omega arith)).0

  pub loop-accounted : T (accounted (compose x (closure (compose y x))) (x ∷ y ∷ []))
  loop-accounted = (tested x y 0 h k (omega arith)).1.1.1.0

  module _ (z : ℕ) (l : z ≤ error) where
    pub twice-accounted : T (accounted (compose (compose x y) z) (x ∷ y ∷ z ∷ []))
    twice-accounted = (tested x y z h k l).1.0

    pub choice-accounted : T (accounted (compose x (join y z)) (x ∷ y ∷ z ∷ []))
    choice-accounted = (tested x y z h k l).1.1.0

-- a lock newly taken that no part accounts for: over 0 or 1
pub lock-unaccounted : (x : ℕ) → x ≤ error → T (not (accounted (lock_taken x) (x ∷ []))) → x < atomic
lock-unaccounted x h t =
    ltb→lt x atomic (other (accounted (lock_taken x) (x ∷ [])) (ltb x atomic) (tested x 0 0 h (omega arith) (omega arith)).1.1.1.1.0 t)

-- an assert: over 3
pub assert-unaccounted : (x : ℕ) → x ≤ error → T (not (accounted (assert_atomic x) (x ∷ []))) → x ≡ cmpd
assert-unaccounted x h t =
    eqb→eq x cmpd (other (accounted (assert_atomic x) (x ∷ [])) (eqb x cmpd) (tested x 0 0 h (omega arith) (omega arith)).1.1.1.1.1.0 t)

-- a grade alone accounts for itself
pub self-accounted : (x : ℕ) → T (accounted x (x ∷ []))
unfolding accounted member
self-accounted x = either-of (eqb x x) (eqb_refl x)
  where
    either-of : (b : Bool) → T b → T ((b || false) || (eqb x cmpd && (eqb atomic x || false)))
    either-of true t = tt
    either-of false t = absurd t
