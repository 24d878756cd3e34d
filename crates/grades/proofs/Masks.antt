-- What the shifts and masks of `src/held.rt` come to, in the words of `HeldSets`.
-- Assumes nothing.
use Prim.Native.Nat.{ℕ, zero, suc, ◌+◌, ◌*◌, ◌/◌, ◌%◌, ◌^◌, ◌<◌, max}
use mathlib.Core.Path.{◌≡◌, ap, ap₂, ◌∙◌}
use native.Mathlib.Nat.{pow-suc, one-mul, max-zero, mod-lt, mod-eq_of_lt}
use native.Mathlib.Omega.{arith}
use lib.Bits.{bit_and, bit_or, and_mask, or_step, or_zero_r}
use lib.Dec.{eqb}
use lib.Pow.{pow_pos, pow-lt}
use Rattle.grades.specs.HeldSets.{held, add}
use Rattle.grades.proofs.Laws.HeldSets.{from_halves, add-zero-half, add-zero-odd, add-suc-half, add-suc-odd}

-- the lowest bit of a shifted set
pub shifted-bit : (H j : ℕ) → eqb (bit_and (H / 2 ^ j) 1) 1 ≡ held H j
unfolding held
shifted-bit H j = ap (λ (n : ℕ). eqb n 1) (and_mask (H / 2 ^ j) 1)

-- a single bit, shifted within its width w
pub one_bit : (w j : ℕ) → j < w → (1 * 2 ^ j) % 2 ^ w ≡ 2 ^ j
one_bit w j h = ap (λ (n : ℕ). n % 2 ^ w) (one-mul (2 ^ j)) ∙ mod-eq_of_lt (pow-lt h)

-- a set with a bit put in is the set with that name added
pub or-bit : (H l : ℕ) → bit_or H (2 ^ l) ≡ add H l
or-bit H zero =
    let low : max (H % 2) 1 ≡ 1 = omega (arith, mod-lt H (pow_pos 1)) in
    or_step H 1 ∙ ap₂ (λ (m n : ℕ). m * 2 + n) (or_zero_r (H / 2)) low
    ∙ from_halves (H / 2 * 2 + 1) (add H 0) (omega (arith, add-zero-half H)) (omega (arith, add-zero-odd H))
or-bit H (suc l) =
    let e : 2 ^ suc l ≡ 2 ^ l * 2 = pow-suc 2 l in
    let half : 2 ^ suc l / 2 ≡ 2 ^ l = omega arith in
    let even : 2 ^ suc l % 2 ≡ 0 = omega arith in
    or_step H (2 ^ suc l)
    ∙ ap₂ (λ (m n : ℕ). bit_or (H / 2) m * 2 + max (H % 2) n) half even
    ∙ ap₂ (λ (m n : ℕ). m * 2 + n) (or-bit (H / 2) l) (max-zero (H % 2))
    ∙ from_halves (add (H / 2) l * 2 + H % 2) (add H (suc l)) (omega (arith, add-suc-half H l)) (omega (arith, add-suc-odd H l))
