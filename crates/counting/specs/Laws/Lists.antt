-- The laws of lists by number.
-- Assumes nothing.
use Rattle.std.specs.Prelude.{ℕ, zero, suc, ◌≤◌, ◌<◌, List, ◌∷◌, ◌≡◌, refl, length, get_or, replicate}
use Rattle.std.proofs.Common.{ap, le_of_suc-le-suc, not-suc-le-zero}
use Rattle.std.proofs.Math.ListN.{get_or-eq_default}
use Rattle.counting.specs.Counting.{tabulate, zeros}

pub length-tabulate {ℓ} : {A : Type ℓ} (n : ℕ) (f : ℕ → A) → length (tabulate n f) ≡ n
unfolding tabulate
length-tabulate zero f = refl
length-tabulate (suc n) f = ap suc (length-tabulate n (λ i. f (suc i)))

pub get_or-tabulate {ℓ} : {A : Type ℓ} (n : ℕ) (f : ℕ → A) (i : ℕ) (d : A) → i < n → get_or (tabulate n f) i d ≡ f i
unfolding tabulate
get_or-tabulate zero f i d h = absurd (not-suc-le-zero h)
get_or-tabulate (suc n) f zero d h = refl
get_or-tabulate (suc n) f (suc i) d h = get_or-tabulate n (λ i. f (suc i)) i d (le_of_suc-le-suc h)

pub get_or-past-tabulate {ℓ} : {A : Type ℓ} (n : ℕ) (f : ℕ → A) (i : ℕ) (d : A) → n ≤ i → get_or (tabulate n f) i d ≡ d
get_or-past-tabulate n f i d h = get_or-eq_default (tabulate n f) d (rw (length-tabulate n f) h)

pub zeros-are : (n : ℕ) → replicate n 0 ≡ zeros n
unfolding zeros
zeros-are zero = refl
zeros-are (suc n) = ap (λ (l : List ℕ). 0 ∷ l) (zeros-are n)

pub length-zeros : (n : ℕ) → length (zeros n) ≡ n
unfolding zeros
length-zeros zero = refl
length-zeros (suc n) = ap suc (length-zeros n)

pub get_or-zeros : (n i : ℕ) → get_or (zeros n) i 0 ≡ 0
unfolding zeros
get_or-zeros zero i = refl
get_or-zeros (suc n) zero = refl
get_or-zeros (suc n) (suc i) = get_or-zeros n i
