-- What is known of an access without looking at its rules.
-- Assumes nothing.
use Rattle.std.specs.Prelude.{ℕ, zero, suc, ◌≤◌, Bool, true, false, cond, ◌≡◌, [], ◌∷◌}
use Rattle.std.proofs.Common.{le_trans, arith, lit≤}
use Rattle.std.proofs.Math.ListN.{get_or-eq_default}
use Rattle.grades.specs.Grades.{mover, error}
use Rattle.grades.specs.Access.{unprotected, guarded, by_guard, read_access, write_access, access}

pub unprotected-error : (w : ℕ) → unprotected w ≤ error
unfolding unprotected
unprotected-error zero = lit≤ tt
unprotected-error (suc zero) = lit≤ tt
unprotected-error (suc (suc w)) = lit≤ tt

pub mover-unprotected : (w : ℕ) → mover ≤ unprotected w
unfolding unprotected
mover-unprotected zero = lit≤ tt
mover-unprotected (suc zero) = lit≤ tt
mover-unprotected (suc (suc w)) = lit≤ tt

-- a guard past the last permits nothing
pub by_guard-other : (g a b c d : ℕ) → 4 ≤ g → by_guard g a b c d ≡ error
by_guard-other g a b c d h = get_or-eq_default (a ∷ b ∷ c ∷ d ∷ []) error h

cond-error : (held : Bool) (a b : ℕ) → a ≤ error → b ≤ error → cond held a b ≤ error
cond-error true a b p q = p
cond-error false a b p q = q

guarded-error : (held : Bool) → guarded held ≤ error
unfolding guarded
guarded-error held = cond-error held mover error (lit≤ tt) (lit≤ tt)

guarded-held : guarded true ≤ guarded false
unfolding guarded
guarded-held = lit≤ tt

-- what grows at each guard grows at the guard in hand
by_guard-grows : (g a b c d a' b' c' d' : ℕ) → a ≤ a' → b ≤ b' → c ≤ c' → d ≤ d' → by_guard g a b c d ≤ by_guard g a' b' c' d'
by_guard-grows zero a b c d a' b' c' d' p q r s = p
by_guard-grows (suc zero) a b c d a' b' c' d' p q r s = q
by_guard-grows (suc (suc zero)) a b c d a' b' c' d' p q r s = r
by_guard-grows (suc (suc (suc zero))) a b c d a' b' c' d' p q r s = s
by_guard-grows (suc (suc (suc (suc g)))) a b c d a' b' c' d' p q r s = omega arith

all-errors : (g : ℕ) → by_guard g error error error error ≤ error
all-errors zero = lit≤ tt
all-errors (suc zero) = lit≤ tt
all-errors (suc (suc zero)) = lit≤ tt
all-errors (suc (suc (suc zero))) = lit≤ tt
all-errors (suc (suc (suc (suc g)))) = lit≤ tt

by_guard-error : (g a b c d : ℕ) → a ≤ error → b ≤ error → c ≤ error → d ≤ error → by_guard g a b c d ≤ error
by_guard-error g a b c d p q r s = le_trans (by_guard-grows g a b c d error error error error p q r s) (all-errors g)

pub access-error : (w g : ℕ) (write held : Bool) → access w g write held ≤ error
unfolding access read_access write_access
access-error w g true held =
    by_guard-error g _ _ _ _ (lit≤ tt) (guarded-error held)
    (cond-error held (unprotected w) error (unprotected-error w) (lit≤ tt)) (unprotected-error w)
access-error w g false held =
    by_guard-error g _ _ _ _ (lit≤ tt) (guarded-error held)
    (cond-error held mover (unprotected w) (lit≤ tt) (unprotected-error w)) (unprotected-error w)

-- with the lock held an access is no worse than without
pub access-held : (w g : ℕ) (write : Bool) → access w g write true ≤ access w g write false
unfolding access read_access write_access
access-held w g true = by_guard-grows g _ _ _ _ _ _ _ _ (lit≤ tt) guarded-held (unprotected-error w) (omega arith)
access-held w g false = by_guard-grows g _ _ _ _ _ _ _ _ (lit≤ tt) guarded-held (mover-unprotected w) (omega arith)
