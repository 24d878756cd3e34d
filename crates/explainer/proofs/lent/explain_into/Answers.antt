-- `explain_into` meets its contract: what is asked comes to the chain of the reason, or to a refusal.
-- Assumes nothing.
use Rattle.std.proofs.Common.{List, ap, ◌∙◌}
use Rattle.frames.specs.Program.{Program}
use Rattle.checker.proofs.Laws.Grading.{read-program}
use Rattle.explainer.specs.declared.asked.Refusal.TheVariants.{Text}
use Rattle.explainer.specs.declared.walk.Step.{Step}
use Rattle.explainer.specs.Explain.{reason_of, steps_of}
use Rattle.explainer.proofs.Laws.Known.{reason-read, reason-refused}
use Rattle.explainer.proofs.Laws.Lent.{left-given, left-refused, err-is}
use Rattle.explainer.proofs.lent.explain_into.Goals as goal

pub returns-in_err-known-clause-value : goal.returns-in_err-known-clause-value
returns-in_err-known-clause-value g c = let a = c.args in
    err-is c.from_residual.result (Text c.in_err-known.field-0.0) c.from_residual.ensures.1
    ∙ reason-refused a.text.now c.in_err-known.field-0.0 c.in_err-known.ensures a.method a.set (g.T.Slot.room_of a.slots.now)

pub returns-in_err-known-clause-slots_after : goal.returns-in_err-known-clause-slots_after
returns-in_err-known-clause-slots_after g c = let a = c.args in
    left-refused (reason_of a.text.now a.method a.set (g.T.Slot.room_of a.slots.now)) (Text c.in_err-known.field-0.0) _ a.slots.now
    (reason-refused a.text.now c.in_err-known.field-0.0 c.in_err-known.ensures a.method a.set (g.T.Slot.room_of a.slots.now))

pub returns-in_err-chain-clause-value : goal.returns-in_err-chain-clause-value
returns-in_err-chain-clause-value g c = let a = c.args in
    err-is c.from_residual-in_err-chain.result c.in_err-chain.field-0.0 c.from_residual-in_err-chain.ensures.1
    ∙ c.in_err-chain.ensures ∙ reason-read a.text.now c.in_ok-known.known.tables c.in_ok-known.ensures.0 a.method a.set c.room.result ∙ ap (reason_of a.text.now a.method a.set) c.room.ensures

pub returns-in_err-chain-clause-slots_after : goal.returns-in_err-chain-clause-slots_after
returns-in_err-chain-clause-slots_after g c = let a = c.args in
    left-refused (reason_of a.text.now a.method a.set (g.T.Slot.room_of a.slots.now)) c.in_err-chain.field-0.0 _ a.slots.now
    (c.in_err-chain.ensures ∙ reason-read a.text.now c.in_ok-known.known.tables c.in_ok-known.ensures.0 a.method a.set c.room.result ∙ ap (reason_of a.text.now a.method a.set) c.room.ensures)

pub returns-clause-value : goal.returns-clause-value
returns-clause-value g c = let a = c.args in
    c.in_ok-chain.ensures.0 ∙ reason-read a.text.now c.in_ok-known.known.tables c.in_ok-known.ensures.0 a.method a.set c.room.result ∙ ap (reason_of a.text.now a.method a.set) c.room.ensures

pub returns-clause-slots_after : goal.returns-clause-slots_after
returns-clause-slots_after g c = let a = c.args in
    let read = c.in_ok-known.ensures.0 in
    c.fill.ensures
    ∙ ap (λ (steps : List Step). g.T.Slot.over steps a.slots.now)
    (c.in_ok-chain.ensures.2.along.chain ∙ ap (λ (p : Program). steps_of p a.method a.set) (read-program a.text.now c.in_ok-known.known.tables read))
    ∙ left-given (reason_of a.text.now a.method a.set (g.T.Slot.room_of a.slots.now)) c.in_ok-chain.chain.count _ a.slots.now
    (c.in_ok-chain.ensures.0 ∙ reason-read a.text.now c.in_ok-known.known.tables read a.method a.set c.room.result ∙ ap (reason_of a.text.now a.method a.set) c.room.ensures)
