-- `explainer::walk::give` meets its contract.
-- Assumes nothing.
use Rattle.std.proofs.Common.{◌≡◌, sym, subst, Option, option_map, IfSome, rules}
use Rattle.explainer.specs.declared.walk.Walk.{Walk}
use Rattle.explainer.specs.Code.Walk.{Entered, GivenAt}
use Rattle.explainer.proofs.Laws.Walk.{given-asked, walk_to, given-step, entered-next}
use Rattle.explainer.proofs.walk.give.Goals as goal

pub returns-then-at-eq0 : goal.returns-then-at-eq0
returns-then-at-eq0 c = let a = c.args in
    record { given_at = given-asked a.tables.now a.rises.now a.walk c.declared_step-step.result c.if-at-eq0.true c.declared_step-step.ensures; entered_2 = tt }

pub returns : goal.returns
returns c = let a = c.args in
    let ready = c.requires.going.ready in
    let placed = c.requires.going.placed c.if-at-eq0.false in
    let one = c.entered_step-one in
    let next : c.map-next.result ≡ option_map (walk_to a.walk.at) one.result.next = search rules in
    record {
      given_at =
          subst (λ (n : Option Walk). GivenAt a.tables.now a.rises.now a.walk (record { step = one.result.step; next = n })) (sym next)
          (given-step a.tables.now a.rises.now ready a.walk placed one.result one.ensures.step_is);
      entered_2 =
          subst (λ (n : Option Walk). IfSome n (λ next. Entered a.tables.now next one.new.lower)) (sym next)
          (entered-next a.tables.now a.rises.now ready a.walk placed one.result one.ensures.step_is one.new.lower one.ensures.node_lower);
    }
