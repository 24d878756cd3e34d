-- The laws of tests and of choices by a test. `T b` and `b ≡ true` both say that a test passes: the first is what a computed test gives, the second
-- what rewriting takes.
-- Assumes nothing.
use Rattle.std.specs.Prelude.{ℕ, zero, suc, ◌≤◌, ◌<◌, Bool, true, false, cond, not, ◌&&◌, ◌⊎◌, ◌≡◌, refl, T}
use Rattle.std.proofs.Common.{zero-le, suc-le-suc, inl, inr, ⊎_elim}

-- which of two numbers is larger
pub lt-or-le : (a b : ℕ) → (a < b) ⊎ (b ≤ a)
lt-or-le a zero = inr zero-le
lt-or-le zero (suc b) = inl (suc-le-suc zero-le)
lt-or-le (suc a) (suc b) = ⊎_elim (λ p. inl (suc-le-suc p)) (λ q. inr (suc-le-suc q)) (lt-or-le a b)

-- ---- both of two

pub and_left : (a b : Bool) → (a && b) ≡ true → a ≡ true
and_left true b e = refl
and_left false b e = e

pub and_right : (a b : Bool) → (a && b) ≡ true → b ≡ true
and_right true b e = e
and_right false b e = cc

pub and-false : (a b : Bool) → b ≡ false → (a && b) ≡ false
and-false true b f = f
and-false false b f = refl

pub both_left : (a b : Bool) → T (a && b) → T a
both_left true b t = tt
both_left false b t = t

pub both_right : (a b : Bool) → T (a && b) → T b
both_right true b t = t
both_right false b t = absurd t

pub both_of : (a b : Bool) → T a → T b → T (a && b)
both_of true b s t = t
both_of false b s t = s

-- ---- a choice

-- what holds of each of two numbers where it is chosen holds of the choice
pub chosen : (P : ℕ → Type 0) (c : Bool) (x y : ℕ) → (T c → P x) → (T (not c) → P y) → P (cond c x y)
chosen P true x y h g = h tt
chosen P false x y h g = g tt

pub cond_yes : (c : Bool) (x y : ℕ) → T c → cond c x y ≡ x
cond_yes true x y t = refl
cond_yes false x y t = absurd t

pub cond_no : (c : Bool) (x y : ℕ) → T (not c) → cond c x y ≡ y
cond_no true x y t = absurd t
cond_no false x y t = refl

pub cond-order : (c : Bool) (x y x' y' : ℕ) → (T c → x ≤ x') → (T (not c) → y ≤ y') → cond c x y ≤ cond c x' y'
cond-order true x y x' y' h g = h tt
cond-order false x y x' y' h g = g tt

pub cond-grows : (c : Bool) (x y x' y' : ℕ) → x ≤ x' → y ≤ y' → cond c x y ≤ cond c x' y'
cond-grows c x y x' y' h g = cond-order c x y x' y' (λ t. h) (λ t. g)

pub cond-most : (c : Bool) (x y z : ℕ) → (T c → x ≤ z) → (T (not c) → y ≤ z) → cond c x y ≤ z
cond-most c x y z = chosen (λ (r : ℕ). r ≤ z) c x y

pub cond-least : (c : Bool) (x y z : ℕ) → z ≤ x → z ≤ y → z ≤ cond c x y
cond-least c x y z h g = chosen (λ (r : ℕ). z ≤ r) c x y (λ t. h) (λ t. g)

-- a test passes or fails
pub either-passes : (P : Type 0) (c : Bool) → (T c → P) → (T (not c) → P) → P
either-passes P true h g = h tt
either-passes P false h g = g tt
