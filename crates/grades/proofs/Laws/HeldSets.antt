-- The laws of held sets, over any number of names. Everything is said by membership, and proved a bit at a time.
-- Assumes nothing.
use Rattle.std.specs.Prelude.{ℕ, zero, suc, ◌+◌, ◌*◌, ◌/◌, ◌%◌, ◌^◌, ◌≤◌, ◌<◌, Bool, true, false, ◌||◌, cond, List, [], ◌∷◌, ◌≡◌, refl, T, eqb, get_or}
use Rattle.std.proofs.Common.{sym, ap, ap₂, ◌∙◌, subst, le_of_suc-le-suc, not-suc-le-zero, pow-suc, div-one, mod-lt, lt_of_lt_of_le, arith, eqb→eq, pow_pos, pow_mono}
use Rattle.std.proofs.Math.Nat.{pow-succ', div-eq_of_lt, div-div-eq-div-mul}
use Rattle.std.proofs.Math.Arith.{bin_ind}
use Rattle.std.proofs.Math.Dec.{eqb_refl, eqb-zero-suc, eqb-suc-zero, eqb-suc-suc}
use Rattle.std.proofs.lemmas.Bool.{eqb-false}
use Rattle.grades.specs.HeldSets.{held, Within, add, no_name, packed}

-- ---- membership, a bit at a time

pub held_first : (H : ℕ) → held H 0 ≡ eqb (H % 2) 1
unfolding held
held_first H = ap (λ (n : ℕ). eqb (n % 2) 1) (div-one H)

pub held_next : (H j : ℕ) → held H (suc j) ≡ held (H / 2) j
unfolding held
held_next H j = ap (λ (n : ℕ). eqb (n % 2) 1) (ap (λ (n : ℕ). H / n) (pow-succ' 2 j) ∙ sym (div-div-eq-div-mul H 2 (2 ^ j)))

-- a set of k names has none past them
pub held-past : (k H j : ℕ) → H < 2 ^ k → k ≤ j → held H j ≡ false
unfolding held
held-past k H j h g = ap (λ (n : ℕ). eqb (n % 2) 1) (div-eq_of_lt (lt_of_lt_of_le h (pow_mono g)))

pub none-held : (j : ℕ) → held 0 j ≡ false
none-held j = held-past 0 0 j (pow_pos 0) (omega arith)

-- FF is in no set
pub no-name-held : (k H : ℕ) → H < 2 ^ k → k ≤ no_name → held H no_name ≡ false
no-name-held k H h g = held-past k H no_name h g

-- ---- two sets with the same names are one number

odd-same : (a b : ℕ) → eqb (a % 2) 1 ≡ eqb (b % 2) 1 → a % 2 ≡ b % 2
odd-same a b e = digits (a % 2) (b % 2) (mod-lt a (pow_pos 1)) (mod-lt b (pow_pos 1)) e
  where
    digits : (m n : ℕ) → m < 2 → n < 2 → eqb m 1 ≡ eqb n 1 → m ≡ n
    digits zero zero h g e = refl
    digits zero (suc zero) h g e = absurd (subst T (sym e) tt)
    digits (suc zero) zero h g e = absurd (subst T e tt)
    digits (suc zero) (suc zero) h g e = refl
    digits zero (suc (suc n)) h g e = absurd (not-suc-le-zero (le_of_suc-le-suc (le_of_suc-le-suc g)))
    digits (suc zero) (suc (suc n)) h g e = absurd (not-suc-le-zero (le_of_suc-le-suc (le_of_suc-le-suc g)))
    digits (suc (suc m)) n h g e = absurd (not-suc-le-zero (le_of_suc-le-suc (le_of_suc-le-suc h)))

Same : ℕ → ℕ → Type 0
Same H H' = (j : ℕ) → held H j ≡ held H' j

same_first : (H H' : ℕ) → Same H H' → H % 2 ≡ H' % 2
unfolding Same
same_first H H' s = odd-same H H' (sym (held_first H) ∙ s 0 ∙ held_first H')

same_half : (H H' : ℕ) → Same H H' → Same (H / 2) (H' / 2)
unfolding Same
same_half H H' s j = sym (held_next H j) ∙ s (suc j) ∙ held_next H' j

pub from_halves : (H H' : ℕ) → H / 2 ≡ H' / 2 → H % 2 ≡ H' % 2 → H ≡ H'
from_halves H H' h g = omega arith

same-as-none : (H : ℕ) → Same 0 H → 0 ≡ H
same-as-none =
    bin_ind (λ (n : ℕ). Same 0 n → 0 ≡ n) (λ s. refl)
    (λ n ih s. from_halves 0 n (ih (same_half 0 n s)) (same_first 0 n s))

same_set : (H H' : ℕ) → Same H H' → H ≡ H'
same_set =
    bin_ind (λ (n : ℕ). (H' : ℕ) → Same n H' → n ≡ H') same-as-none
    (λ n ih H' s. from_halves n H' (ih (H' / 2) (same_half n H' s)) (same_first n H' s))

-- ---- the order of sets

pub within-refl : (H : ℕ) → Within H H
within-refl H j t = t

pub within-trans : (F G H : ℕ) → Within F G → Within G H → Within F H
within-trans F G H p q j t = q j (p j t)

either_way : (a b : Bool) → (T a → T b) → (T b → T a) → a ≡ b
either_way true true p q = refl
either_way true false p q = absurd (p tt)
either_way false true p q = absurd (q tt)
either_way false false p q = refl

pub within-antisym : (H H' : ℕ) → Within H H' → Within H' H → H ≡ H'
unfolding Same
within-antisym H H' p q = same_set H H' (λ j. either_way (held H j) (held H' j) (p j) (q j))

pub within_none : (H : ℕ) → Within 0 H
within_none H j t = absurd (subst T (none-held j) t)

-- ---- a name added

-- a set with name 0 added: its first bit is set, the others stay
add-first : (b : Bool) (H : ℕ) → eqb (H % 2) 1 ≡ b → (cond b H (H + 2 ^ 0) / 2 ≡ H / 2) × (cond b H (H + 2 ^ 0) % 2 ≡ 1)
add-first true H e = (refl, eqb→eq (H % 2) 1 (subst T (sym e) tt))
add-first false H e = let even : (H % 2 ≡ 1 → ⊥) = eqb-false (H % 2) 1 e in (omega arith, omega arith)

pub add-zero-half : (H : ℕ) → add H 0 / 2 ≡ H / 2
unfolding add
add-zero-half H = (add-first (held H 0) H (sym (held_first H))).0

pub add-zero-odd : (H : ℕ) → add H 0 % 2 ≡ 1
unfolding add
add-zero-odd H = (add-first (held H 0) H (sym (held_first H))).1

-- a set with a later name added: its first bit stays, and the name before that one is added to the others
add-next : (b : Bool) (H l : ℕ)
    → (cond b H (H + 2 ^ suc l) / 2 ≡ cond b (H / 2) (H / 2 + 2 ^ l)) × (cond b H (H + 2 ^ suc l) % 2 ≡ H % 2)
add-next true H l = (refl, refl)
add-next false H l = let e : 2 ^ suc l ≡ 2 ^ l * 2 = pow-suc 2 l in (omega arith, omega arith)

pub add-suc-half : (H l : ℕ) → add H (suc l) / 2 ≡ add (H / 2) l
unfolding add
add-suc-half H l =
    (add-next (held H (suc l)) H l).0 ∙ ap (λ (b : Bool). cond b (H / 2) (H / 2 + 2 ^ l)) (held_next H l)

pub add-suc-odd : (H l : ℕ) → add H (suc l) % 2 ≡ H % 2
unfolding add
add-suc-odd H l = (add-next (held H (suc l)) H l).1

-- after adding l, exactly l and the names held before are held
pub held-add : (H l j : ℕ) → held (add H l) j ≡ (eqb j l || held H j)
held-add H zero zero = held_first (add H 0) ∙ ap (λ (n : ℕ). eqb n 1) (add-zero-odd H)
held-add H zero (suc j) =
    held_next (add H 0) j ∙ ap (λ (n : ℕ). held n j) (add-zero-half H) ∙ sym (held_next H j)
    ∙ ap (λ (b : Bool). (b || held H (suc j))) (sym (eqb-suc-zero j))
held-add H (suc l) zero =
    held_first (add H (suc l)) ∙ ap (λ (n : ℕ). eqb n 1) (add-suc-odd H l) ∙ sym (held_first H)
    ∙ ap (λ (b : Bool). (b || held H 0)) (sym (eqb-zero-suc l))
held-add H (suc l) (suc j) =
    held_next (add H (suc l)) j ∙ ap (λ (n : ℕ). held n j) (add-suc-half H l) ∙ held-add (H / 2) l j
    ∙ ap₂ ◌||◌ (sym (eqb-suc-suc j l)) (sym (held_next H j))

-- a lock already held is not taken anew
pub add-held : (H l : ℕ) → held H l ≡ true → add H l ≡ H
unfolding add
add-held H l e = ap (λ (b : Bool). cond b H (H + 2 ^ l)) e

pub add_free : (H l : ℕ) → held H l ≡ false → add H l ≡ H + 2 ^ l
unfolding add
add_free H l e = ap (λ (b : Bool). cond b H (H + 2 ^ l)) e

half-below : (k H : ℕ) → H < 2 ^ suc k → H / 2 < 2 ^ k
half-below k H h = let e : 2 ^ suc k ≡ 2 ^ k * 2 = pow-suc 2 k in omega arith

below_half : (k H : ℕ) → H / 2 < 2 ^ k → H < 2 ^ suc k
below_half k H h = let e : 2 ^ suc k ≡ 2 ^ k * 2 = pow-suc 2 k in omega arith

-- of k names one was added: a set of k names
pub add-below : (k H l : ℕ) → H < 2 ^ k → l < k → add H l < 2 ^ k
add-below zero H l h g = absurd (not-suc-le-zero g)
add-below (suc k) H zero h g =
    below_half k (add H 0) (subst (λ (n : ℕ). n < 2 ^ k) (sym (add-zero-half H)) (half-below k H h))
add-below (suc k) H (suc l) h g =
    below_half k (add H (suc l))
    (subst (λ (n : ℕ). n < 2 ^ k) (sym (add-suc-half H l)) (add-below k (H / 2) l (half-below k H h) (le_of_suc-le-suc g)))

-- ---- adding respects the order of sets

either_left : (a b : Bool) → T a → T (a || b)
either_left true b t = tt
either_left false b t = absurd t

either-right : (a b : Bool) → T b → T (a || b)
either-right true b t = tt
either-right false b t = t

either-of : (a b : Bool) (P : Type 0) → (T a → P) → (T b → P) → T (a || b) → P
either-of true b P p q t = p tt
either-of false b P p q t = q t

pub added-held : (H l : ℕ) → T (held (add H l) l)
added-held H l = subst T (sym (held-add H l l)) (either_left (eqb l l) (held H l) (eqb_refl l))

pub within-add : (H l : ℕ) → Within H (add H l)
within-add H l j t = subst T (sym (held-add H l j)) (either-right (eqb j l) (held H j) t)

-- what has H's names, and l, has those of H with l added
pub add-within : (H H' l : ℕ) → Within H H' → T (held H' l) → Within (add H l) H'
add-within H H' l p h j t =
    either-of (eqb j l) (held H j) (T (held H' j)) (λ e. subst (λ (n : ℕ). T (held H' n)) (sym (eqb→eq j l e)) h) (p j)
    (subst T (held-add H l j) t)

pub add-respects : (H H' l : ℕ) → Within H H' → Within (add H l) (add H' l)
add-respects H H' l p =
    add-within H (add H' l) l (within-trans H H' (add H' l) p (within-add H' l)) (added-held H' l)

-- ---- answers packed into a set

-- a bit before a set: the set is its half, the bit its lowest
pub bit-before : (b : Bool) (n : ℕ) → ((cond b 1 0 + n * 2) / 2 ≡ n) × ((cond b 1 0 + n * 2) % 2 ≡ cond b 1 0)
bit-before true n = (omega arith, omega arith)
bit-before false n = (omega arith, omega arith)

bit-held : (b : Bool) → eqb (cond b 1 0) 1 ≡ b
bit-held true = refl
bit-held false = refl

pub held-bit-first : (b : Bool) (S : ℕ) → held (cond b 1 0 + S * 2) 0 ≡ b
held-bit-first b S = held_first (cond b 1 0 + S * 2) ∙ ap (λ (n : ℕ). eqb n 1) (bit-before b S).1 ∙ bit-held b

pub held-bit-next : (b : Bool) (S j : ℕ) → held (cond b 1 0 + S * 2) (suc j) ≡ held S j
held-bit-next b S j = held_next (cond b 1 0 + S * 2) j ∙ ap (λ (n : ℕ). held n j) (bit-before b S).0

-- what `packed` is for: a name is held exactly if its answer says so
pub held-packed : (answers : List Bool) (j : ℕ) → held (packed answers) j ≡ get_or answers j false
unfolding packed
held-packed [] j = none-held j
held-packed (b ∷ answers) zero = held-bit-first b (packed answers)
held-packed (b ∷ answers) (suc j) = held-bit-next b (packed answers) j ∙ held-packed answers j

-- of one name more
pub bit_below : (k : ℕ) (b : Bool) (S : ℕ) → S < 2 ^ k → cond b 1 0 + S * 2 < 2 ^ suc k
bit_below k b S h = below_half k (cond b 1 0 + S * 2) (subst (λ (n : ℕ). n < 2 ^ k) (sym (bit-before b S).0) h)

pub bit-respects : (b b' : Bool) (S S' : ℕ) → (T b → T b') → Within S S' → Within (cond b 1 0 + S * 2) (cond b' 1 0 + S' * 2)
bit-respects b b' S S' f w zero t = subst T (sym (held-bit-first b' S')) (f (subst T (held-bit-first b S) t))
bit-respects b b' S S' f w (suc j) t = subst T (sym (held-bit-next b' S' j)) (w j (subst T (held-bit-next b S j) t))
