-- `explainer::picks::picked_part` meets its contract.
-- Assumes nothing.
use Rattle.std.proofs.Common.{sym, subst}
use Rattle.explainer.specs.Code.Picks.{PickedAt, same, twice, nothing}
use Rattle.explainer.proofs.picks.picked_part.Goals as goal

pub returns-in-Some : goal.returns-in-Some
returns-in-Some c = same c.in-Some.part c.in-Some.ensures.0 c.in-Some.ensures.1

pub returns-then-whole-ne3 : goal.returns-then-whole-ne3
returns-then-whole-ne3 c = nothing c.in_default.ensures (λ three. absurd (c.if-whole-ne3.true three))

pub returns-in_err-part : goal.returns-in_err-part
returns-in_err-part c = subst (PickedAt c.args.whole _ _) (sym c.from_residual.ensures) (nothing c.in_default.ensures (λ _. c.in_err-part.ensures))

pub returns : goal.returns
returns c = twice c.in_ok-part.part c.in_default.ensures c.if-whole-ne3.false c.in_ok-part.ensures
