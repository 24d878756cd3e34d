-- Numbers below a bound: a test at each of them, the first that passes, all of them in order, their sum. Lists by number, and lists joined into one.
-- Assumes nothing.
use Rattle.std.specs.Prelude.{ℕ, zero, suc, ◌+◌, Bool, true, false, cond, ◌&&◌, ◌||◌, List, [], ◌∷◌, ◌++◌, eqb}

-- ---- numbers below n

-- the test passes at every number below n
unfoldable pub every : ℕ → (ℕ → Bool) → Bool
every zero f = true
every (suc n) f = every n f && f n

-- the least number below n that passes, and n if none does
unfoldable pub first : ℕ → (ℕ → Bool) → ℕ
first zero f = zero
first (suc n) f =
    let later = suc (first n (λ i. f (suc i))) in
    cond (f zero) zero later

-- n numbers in order, from i on
abbrev pub numbers : (i n : ℕ) → List ℕ
numbers i zero = []
numbers i (suc n) = i ∷ numbers (suc i) n

-- the numbers below n in order
abbrev pub up_to : ℕ → List ℕ
up_to n = numbers zero n

-- the sum of f at the numbers below n
abbrev pub total : ℕ → (ℕ → ℕ) → ℕ
total zero f = zero
total (suc n) f = f n + total n f

-- ---- lists

-- f 0, f 1, .., f (n - 1)
unfoldable pub tabulate {ℓ} : {A : Type ℓ} → ℕ → (ℕ → A) → List A
tabulate zero f = []
tabulate (suc n) f = f zero ∷ tabulate n (λ i. f (suc i))

-- n zeros
unfoldable pub zeros : ℕ → List ℕ
zeros zero = []
zeros (suc n) = 0 ∷ zeros n

-- x is one of the list
unfoldable pub member : ℕ → List ℕ → Bool
member x [] = false
member x (y ∷ ys) = eqb x y || member x ys

-- the lists of all members, one behind the other
abbrev pub together : {A B : Type 0} → (A → List B) → List A → List B
together f [] = []
together f (x ∷ xs) = f x ++ together f xs

-- P holds of each member
abbrev pub All : {A : Type 0} → (A → Type 0) → List A → Type 0
All P [] = Unit {0}
All P (x ∷ xs) = P x × All P xs

-- the list of x alone, if the test passes
abbrev pub only_if : {A : Type 0} → Bool → A → List A
only_if true x = x ∷ []
only_if false x = []
