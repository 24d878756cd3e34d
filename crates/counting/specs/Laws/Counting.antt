-- The laws of counting below a bound.
-- Assumes nothing.
use Rattle.std.specs.Prelude.{ℕ, zero, suc, ◌+◌, ◌*◌, ◌≤◌, ◌<◌, Bool, true, false, not, ◌&&◌, cond, List, [], ◌∷◌, ◌++◌, ◌≡◌, refl, T}
use Rattle.std.proofs.Common.{⊎_elim, sym, ap, ap₂, ◌∙◌, subst, not-suc-le-zero, le_of_suc-le-suc, le_refl, add-one, arith}
use Rattle.std.proofs.Math.Decide.{dec_lt, ℕ_discrete}
use Rattle.counting.specs.Counting.{every, first, numbers, up_to, total, together, All, only_if}
use Rattle.counting.specs.Laws.Tests.{lt-or-le, and-false, both_left, both_right, both_of, chosen, cond-most}

-- ---- the first that passes

pub first-bound : (n : ℕ) (f : ℕ → Bool) → first n f ≤ n
unfolding first
first-bound zero f = le_refl zero
first-bound (suc n) f = cond-most (f zero) _ _ _ (λ t. omega arith) (λ t. omega (arith, first-bound n (λ i. f (suc i))))

pub first_passes : (n : ℕ) (f : ℕ → Bool) → first n f < n → T (f (first n f))
unfolding first
first_passes zero f = λ h. absurd (not-suc-le-zero h)
first_passes (suc n) f =
    chosen (λ (r : ℕ). r < suc n → T (f r)) (f zero) zero (suc (first n (λ i. f (suc i)))) (λ t h. t)
    (λ t h. first_passes n (λ i. f (suc i)) (le_of_suc-le-suc h))

pub first-least : (n : ℕ) (f : ℕ → Bool) (i : ℕ) → i < first n f → T (not (f i))
unfolding first
first-least zero f i = λ h. absurd (not-suc-le-zero h)
first-least (suc n) f i =
    chosen (λ (r : ℕ). i < r → T (not (f i))) (f zero) zero (suc (first n (λ j. f (suc j)))) (λ t h. absurd (not-suc-le-zero h))
    (λ t h. later i t h (λ j. first-least n (λ j. f (suc j)) j))
  where
    later : (i : ℕ) → T (not (f zero)) → i < suc (first n (λ j. f (suc j))) → ((j : ℕ) → j < first n (λ j. f (suc j)) → T (not (f (suc j)))) → T (not (f i))
    later zero t h ih = t
    later (suc j) t h ih = ih j (le_of_suc-le-suc h)

-- it is the only number that passes after numbers that do not
pub first-unique : (n : ℕ) (f : ℕ → Bool) (i : ℕ) → i < n → T (f i) → ((j : ℕ) → j < i → T (not (f j))) → first n f ≡ i
first-unique n f i h t least = go (dec_lt i (first n f)) (dec_lt (first n f) i)
  where
    clash : (b : Bool) → T b → T (not b) → ⊥
    clash true t u = u
    clash false t u = t

    go : Dec (i < first n f) → Dec (first n f < i) → first n f ≡ i
    go (yes g) d = absurd (clash (f i) t (first-least n f i g))
    go (no g) (yes l) = absurd (clash (f (first n f)) (first_passes n f (omega arith)) (least (first n f) l))
    go (no g) (no l) = omega arith

-- none passes
pub first-none : (n : ℕ) (f : ℕ → Bool) → ((i : ℕ) → i < n → f i ≡ false) → first n f ≡ n
first-none n f h = go (dec_lt (first n f) n)
  where
    go : Dec (first n f < n) → first n f ≡ n
    go (yes l) = absurd (subst T (h (first n f) l) (first_passes n f l))
    go (no l) = omega (arith, first-bound n f)

-- one number more, which passes
pub first_more : (n : ℕ) (f : ℕ → Bool) → T (f n) → first (suc n) f ≡ first n f
first_more n f here =
    first-unique (suc n) f (first n f) (omega (arith, first-bound n f)) (go (dec_lt (first n f) n)) (λ j l. first-least n f j l)
  where
    go : Dec (first n f < n) → T (f (first n f))
    go (yes l) = first_passes n f l
    go (no l) = let same : n ≡ first n f = omega (arith, first-bound n f) in subst (λ (i : ℕ). T (f i)) same here

-- tests that agree below n pass first at one number
pub first-same : (n : ℕ) (f g : ℕ → Bool) → ((i : ℕ) → i < n → f i ≡ g i) → first n f ≡ first n g
unfolding first
first-same zero f g h = refl
first-same (suc n) f g h =
    ap₂ (λ (b : Bool) (later : ℕ). cond b zero (suc later)) (h zero (omega arith))
    (first-same n (λ i. f (suc i)) (λ i. g (suc i)) (λ i l. h (suc i) (omega arith)))

-- ---- tests at each number below n

pub every_more : (n : ℕ) (f : ℕ → Bool) → every n f ≡ true → f n ≡ true → every (n + 1) f ≡ true
unfolding every
every_more n f e h = rw (add-one n) (simp (e, h))

pub every-fails : (n : ℕ) (f : ℕ → Bool) (i : ℕ) → i < n → f i ≡ false → every n f ≡ false
unfolding every
every-fails zero f i h e = absurd (not-suc-le-zero h)
every-fails (suc n) f i h e =
    ⊎_elim
    (λ (l : i < n). rw (every-fails n f i l e))
    (λ (g : n ≤ i). and-false (every n f) (f n) (ap f (omega arith) ∙ e))
    (lt-or-le i n)

-- a test of every number, at one of them
pub every-at : (n : ℕ) (f : ℕ → Bool) → T (every n f) → (i : ℕ) → i < n → T (f i)
unfolding every
every-at zero f t i h = absurd (not-suc-le-zero h)
every-at (suc n) f t i h =
    ⊎_elim
    (λ (l : i < n). every-at n f (both_left (every n f) (f n) t) i l)
    (λ (g : n ≤ i). let e : n ≡ i = omega arith in subst (λ (j : ℕ). T (f j)) e (both_right (every n f) (f n) t))
    (lt-or-le i n)

pub every_of : (n : ℕ) (f : ℕ → Bool) → ((i : ℕ) → i < n → T (f i)) → T (every n f)
unfolding every
every_of zero f h = tt
every_of (suc n) f h = both_of (every n f) (f n) (every_of n f (λ i g. h i (omega arith))) (h n (le_refl (suc n)))

-- a test that fails somewhere: where
pub somewhere : (n : ℕ) (f : ℕ → Bool) → T (not (every n f)) → (i : ℕ) × (i < n) × T (not (f i))
unfolding every
somewhere zero f t = absurd t
somewhere (suc n) f t = go (f n) refl (every n f) refl t (λ s. somewhere n f s)
  where
    go : (b : Bool) → f n ≡ b → (a : Bool) → every n f ≡ a → T (not (a && b)) → (T (not (every n f)) → (i : ℕ) × (i < n) × T (not (f i)))
        → (i : ℕ) × (i < suc n) × T (not (f i))
    go false e a q t ih = (n, le_refl (suc n), subst (λ (b : Bool). T (not b)) (sym e) tt)
    go true e true q t ih = absurd t
    go true e false q t ih =
        let w = ih (subst (λ (b : Bool). T (not b)) (sym q) tt) in
        (w.0, omega (arith, w.1), w.2)

-- ---- sums

pub total-grows : (n : ℕ) (f g : ℕ → ℕ) → ((i : ℕ) → i < n → f i ≤ g i) → total n f ≤ total n g
total-grows zero f g h = le_refl zero
total-grows (suc n) f g h = omega (arith, h n (le_refl (suc n)), total-grows n f g (λ i l. h i (omega arith)))

pub total-rises : (n : ℕ) (f g : ℕ → ℕ) → ((i : ℕ) → i < n → f i ≤ g i) → (i : ℕ) → i < n → f i < g i → total n f < total n g
total-rises zero f g h i l s = absurd (not-suc-le-zero l)
total-rises (suc n) f g h i l s =
    go (ℕ_discrete i n) (λ k. total-rises n f g (λ j q. h j (omega arith)) i k s) (total-grows (suc n) f g h)
    (total-grows n f g (λ j q. h j (omega arith))) (h n (le_refl (suc n)))
  where
    go : Dec (i ≡ n) → (i < n → total n f < total n g) → total (suc n) f ≤ total (suc n) g → total n f ≤ total n g → f n ≤ g n → total (suc n) f < total (suc n) g
    go (yes e) ih q r u = omega (arith, subst (λ (j : ℕ). f j < g j) e s)
    go (no m) ih q r u = omega (arith, ih (omega arith))

-- a sum of which each part is at most four times another's
pub total-fourfold : (n : ℕ) (f g : ℕ → ℕ) → ((i : ℕ) → i < n → f i ≤ 4 * g i) → total n f ≤ 4 * total n g
total-fourfold zero f g h = le_refl zero
total-fourfold (suc n) f g h = omega (arith, h n (le_refl (suc n)), total-fourfold n f g (λ i l. h i (omega arith)))

pub total-ones : (n : ℕ) → total n (λ i. 1) ≡ n
total-ones zero = refl
total-ones (suc n) = omega (arith, total-ones n)

pub total-none : (n : ℕ) (f : ℕ → ℕ) → ((i : ℕ) → i < n → f i ≡ 0) → total n f ≡ 0
total-none zero f h = refl
total-none (suc n) f h = omega (arith, h n (le_refl (suc n)), total-none n f (λ i l. h i (omega arith)))

-- ---- lists

pub all_append : {A : Type 0} (P : A → Type 0) (xs ys : List A) → All P xs → All P ys → All P (xs ++ ys)
all_append P [] ys h g = g
all_append P (x ∷ xs) ys h g = (h.0, all_append P xs ys h.1 g)

pub all_left : {A : Type 0} (P : A → Type 0) (xs ys : List A) → All P (xs ++ ys) → All P xs
all_left P [] ys h = tt
all_left P (x ∷ xs) ys h = (h.0, all_left P xs ys h.1)

pub all_right : {A : Type 0} (P : A → Type 0) (xs ys : List A) → All P (xs ++ ys) → All P ys
all_right P [] ys h = h
all_right P (x ∷ xs) ys h = all_right P xs ys h.1

pub all_map : {A : Type 0} (P Q : A → Type 0) (xs : List A) → ((x : A) → P x → Q x) → All P xs → All Q xs
all_map P Q [] f h = tt
all_map P Q (x ∷ xs) f h = (f x h.0, all_map P Q xs f h.1)

pub all-together : {A B : Type 0} (P : B → Type 0) (f : A → List B) (xs : List A) → All (λ x. All P (f x)) xs → All P (together f xs)
all-together P f [] h = tt
all-together P f (x ∷ xs) h = all_append P (f x) (together f xs) h.0 (all-together P f xs h.1)

pub together-all : {A B : Type 0} (P : B → Type 0) (f : A → List B) (xs : List A) → All P (together f xs) → All (λ x. All P (f x)) xs
together-all P f [] h = tt
together-all P f (x ∷ xs) h =
    (all_left P (f x) (together f xs) h, together-all P f xs (all_right P (f x) (together f xs) h))

pub all-numbers : (P : ℕ → Type 0) (i n : ℕ) → ((j : ℕ) → i ≤ j → j < i + n → P j) → All P (numbers i n)
all-numbers P i zero h = tt
all-numbers P i (suc n) h = (h i (omega arith) (omega arith), all-numbers P (suc i) n (λ j l u. h j (omega arith) (omega arith)))

pub numbers-all : (P : ℕ → Type 0) (i n : ℕ) → All P (numbers i n) → (j : ℕ) → i ≤ j → j < i + n → P j
numbers-all P i zero h j l u = absurd (omega arith)
numbers-all P i (suc n) h j l u = go (ℕ_discrete i j) (λ k. numbers-all P (suc i) n h.1 j k (omega arith))
  where
    go : Dec (i ≡ j) → (suc i ≤ j → P j) → P j
    go (yes e) ih = subst P e h.0
    go (no m) ih = ih (omega arith)

pub all-up_to : (P : ℕ → Type 0) (n : ℕ) → ((j : ℕ) → j < n → P j) → All P (up_to n)
all-up_to P n h = all-numbers P zero n (λ j l u. h j (omega arith))

pub up_to-all : (P : ℕ → Type 0) (n : ℕ) → All P (up_to n) → (j : ℕ) → j < n → P j
up_to-all P n h j l = numbers-all P zero n h j (omega arith) (omega arith)

pub all-only_if : {A : Type 0} (P : A → Type 0) (b : Bool) (x : A) → (T b → P x) → All P (only_if b x)
all-only_if P true x h = (h tt, tt)
all-only_if P false x h = tt

pub only_if-all : {A : Type 0} (P : A → Type 0) (b : Bool) (x : A) → All P (only_if b x) → T b → P x
only_if-all P true x h t = h.0
only_if-all P false x h t = absurd t
