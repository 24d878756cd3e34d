-- `explainer::turns::turn` meets its contract.
-- Assumes nothing.
use Rattle.std.proofs.Common.{ℕ, ◌+◌, refl, sym, ap, ◌∙◌, subst, get_or}
use Rattle.reasons.specs.Steps.{Place, Pick, ends, end_rule, turn_by, turn_at}
use Rattle.solver.specs.Flat.{program_in}
use Rattle.explainer.specs.Code.Picks.{PickedAt}
use Rattle.explainer.specs.Code.Places.{place_of, TurnOf}
use Rattle.explainer.proofs.Laws.Turns.{child-picked, own-picked, none-picked, op-meant, pick-few, ended, went}
use Rattle.explainer.proofs.turns.turn.Goals as goal

pub returns-in_default : goal.returns-in_default
unfolding turn_at
returns-in_default c = let a = c.args in
    let t = a.tables.now in
    let seen = c.requires.ready.2 in
    let pick = subst (PickedAt a.seen.whole (λ i. get_or a.seen.grades i 0) a.seen.count) c.in_default.is c.requires.picked_at in
    ended t c.end_rule.result _ c.end.result c.end.ensures
    (ap (turn_by (program_in t) (place_of a.at)) (none-picked t a.at a.seen seen pick)
    ∙ ap (λ (n : ℕ). record { rule = n; next = ends }) (ap end_rule (sym (op-meant t a.at a.seen seen)) ∙ sym c.end_rule.ensures.0))

pub returns-in-Some-child_number : goal.returns-in-Some-child_number
unfolding turn_at
returns-in-Some-child_number c = let a = c.args in
    let t = a.tables.now in
    let q = c.in-Some.field-0 in
    let n = c.in-Some-child_number.child in
    let pick = subst (PickedAt a.seen.whole (λ i. get_or a.seen.grades i 0) a.seen.count) c.in-Some.is c.requires.picked_at in
    let there : Place = record { method = a.at.method; node = n; set = a.seen.under; round = a.at.round } in
    went t _ (1 + q.added) _ there c.to_child.result c.to_child.ensures refl c.requires.ready.1.first
    (ap (turn_by (program_in t) (place_of a.at)) (child-picked t a.at a.seen c.requires.ready.2 q pick n (sym c.child_number.ensures ∙ c.in-Some-child_number.is)))

pub own_turn-requires : goal.own_turn-requires
own_turn-requires c = let a = c.args in
    let pick = subst (PickedAt a.seen.whole (λ i. get_or a.seen.grades i 0) a.seen.count) c.in-Some.is c.requires.picked_at in
    let given = c.requires.ready in
    record {
      ready = (given.0, given.1, given.2, (pick-few pick).1);
      at_value = own-picked a.tables.now a.at a.seen given.2 c.in-Some.field-0 pick (sym c.child_number.ensures ∙ c.in_default-child_number.is);
    }

pub returns : goal.returns
unfolding turn_at
returns c = let a = c.args in
    let t = a.tables.now in
    let pick = subst (PickedAt a.seen.whole (λ i. get_or a.seen.grades i 0) a.seen.count) c.in-Some.is c.requires.picked_at in
    subst (λ (k : Pick). TurnOf t (turn_by (program_in t) (place_of a.at) k) c.own_turn.result)
    (sym (own-picked t a.at a.seen c.requires.ready.2 c.in-Some.field-0 pick (sym c.child_number.ensures ∙ c.in_default-child_number.is))) c.own_turn.ensures
