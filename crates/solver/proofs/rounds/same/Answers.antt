-- `solver::rounds::same` meets its contract: slices that differ do so at some place.
-- Assumes nothing.
use Rattle.std.proofs.Common.{◌≡◌, sym, ◌<◌, ◌≤◌, ℕ, zero, suc, length, ◌&&◌, List, [], ◌∷◌, take, get_or, subst, arith}
use Rattle.std.proofs.Math.Dec.{T, eqb}
use Rattle.std.proofs.Math.Decide.{ℕ_discrete}
use Rattle.std.proofs.lemmas.Bool.{eq-eqb}
use borrow.Author.Tests.{ne_eqb}
use lib.Pointwise.{pointwise}
use Rattle.solver.specs.Code.Rounds.{SameTo}
use Rattle.solver.proofs.rounds.same.Goals as goal

-- one place more, in front
one_more : (n x y : ℕ) (old new : List ℕ) → SameTo n old new (pointwise eqb (take n old) (take n new))
    → Dec (x ≡ y) → SameTo (suc n) (x ∷ old) (y ∷ new) (eqb x y && pointwise eqb (take n old) (take n new))
one_more n x y old new rest (yes e) = rw (eq-eqb x y e) (record { yes = each; no = λ t. let d = rest.no t in (suc d.0, omega (arith, d.1), d.2) })
  where
    each : T (pointwise eqb (take n old) (take n new)) → (i : ℕ) → i < suc n → get_or (x ∷ old) i 0 ≡ get_or (y ∷ new) i 0
    each t zero l = e
    each t (suc i) l = rest.yes t i (omega arith)
one_more n x y old new rest (no d) = rw (ne_eqb x y d) (record { yes = λ t. absurd t; no = λ t. (0, omega arith, d) })

compared : (n : ℕ) (old new : List ℕ) → n ≤ length old → n ≤ length new → SameTo n old new (pointwise eqb (take n old) (take n new))
compared zero old new f g = record { yes = λ t i l. absurd (omega arith); no = λ t. absurd t }
compared (suc n) [] new f g = absurd (omega arith)
compared (suc n) (x ∷ old) [] f g = absurd (omega arith)
compared (suc n) (x ∷ old) (y ∷ new) f g = one_more n x y old new (compared n old new (omega arith) (omega arith)) (ℕ_discrete x y)

pub returns : goal.returns
returns c = let a = c.args in
    subst (SameTo a.n a.old.now a.new.now) (sym c.eq.ensures)
    (compared a.n a.old.now a.new.now (omega (arith, c.told-old, c.requires)) (omega (arith, c.told-new, c.requires)))
