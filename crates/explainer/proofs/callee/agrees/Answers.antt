-- `explainer::callee::agrees` meets its contract.
-- Assumes nothing.
use Rattle.std.proofs.Common.{◌≡◌, ℕ, eqb, subst, Bool, true, false, not, cond, refl, ap₂, ◌∙◌, eq-eqb, ne_eqb}
use Rattle.std.proofs.Math.Bool.{beq}
use Rattle.grades.specs.HeldSets.{no_name}
use Rattle.explainer.specs.Code.Callee.{agrees}
use Rattle.explainer.proofs.callee.agrees.Goals as goal

same : (r h : Bool) → beq r h ≡ cond h r (not r)
same true true = refl
same true false = refl
same false true = refl
same false false = refl

pub returns-then-name-eq-NO_NAME : goal.returns-then-name-eq-NO_NAME
unfolding agrees
returns-then-name-eq-NO_NAME c = let name = c.name-name in
    subst (λ (n : ℕ). eqb name.result no_name ≡ agrees c.args.set c.args.inside c.args.i n) name.ensures.is (rw (eq-eqb name.result no_name c.if-name-eq-NO_NAME.true) refl)

pub returns-else-name-eq-NO_NAME : goal.returns-else-name-eq-NO_NAME
unfolding agrees
returns-else-name-eq-NO_NAME c = let name = c.name-name in
    let other = c.holds-else-name-eq-NO_NAME in
    subst (λ (n : ℕ). beq c.holds.result other.result ≡ agrees c.args.set c.args.inside c.args.i n) name.ensures.is
    (rw (ne_eqb name.result no_name c.if-name-eq-NO_NAME.false) (same c.holds.result other.result ∙ ap₂ (λ (r h : Bool). cond h r (not r)) c.holds.ensures other.ensures))
