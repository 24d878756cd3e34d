-- `grades::access::unprotected` meets its contract: width 0 is narrow, and any other reads as wide.
-- Assumes nothing.
use Prim.Native.Nat.{ℕ, zero, suc}
use mathlib.Core.Path.{◌≡◌, refl}
use Rattle.grades.specs.Grades.{cmpd}
use Rattle.grades.specs.Access.{unprotected}
use Rattle.grades.proofs.access.unprotected.Goals as goal

wide : (w : ℕ) → (w ≡ 0 → ⊥) → cmpd ≡ unprotected w
unfolding unprotected
wide zero h = absurd (h refl)
wide (suc zero) h = refl
wide (suc (suc w)) h = refl

pub returns-then-width-eq0 : goal.returns-then-width-eq0
unfolding unprotected
returns-then-width-eq0 c = rw c.if-width-eq0.true

pub returns-else-width-eq0 : goal.returns-else-width-eq0
returns-else-width-eq0 c = wide c.args.width c.if-width-eq0.false
