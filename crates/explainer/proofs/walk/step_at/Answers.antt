-- `explainer::walk::step_at` meets its contract.
-- Assumes nothing.
use Rattle.std.proofs.Common.{arith}
use Rattle.reasons.specs.Steps.{step_at}
use Rattle.solver.specs.Laws.Rounds.{rounds-few}
use Rattle.explainer.proofs.Laws.Picks.{picked_taken}
use Rattle.explainer.proofs.Laws.Places.{node-few}
use Rattle.explainer.proofs.Laws.Walk.{placed-next}
use Rattle.explainer.proofs.walk.step_at.Goals as goal

pub turn-onward-requires : goal.turn-onward-requires
turn-onward-requires c = let seen = c.see-seen in
    record {
      ready = (c.requires.ready.0, c.requires.ready.1, seen.ensures);
      picked_at = picked_taken seen.result.whole seen.result.grades seen.result.count _ (omega (arith, seen.ensures.few, seen.ensures.size)) c.picked_part-pick.ensures;
    }

pub overflow_cast-step-2 : goal.overflow_cast-step-2
overflow_cast-step-2 c = let a = c.args in
    let t = a.tables.now in
    let ready = c.requires.ready.0 in
    let placed = c.requires.ready.1 in
    omega (arith, node-few t a.rises.now ready a.at placed)

pub overflow_cast-step-3 : goal.overflow_cast-step-3
overflow_cast-step-3 c = let a = c.args in
    let t = a.tables.now in
    let ready = c.requires.ready.0 in
    let placed = c.requires.ready.1 in
    omega (arith, placed.fits.no_later, rounds-few t ready.read.fits)

pub returns : goal.returns
unfolding step_at
returns c = let a = c.args in
    let t = a.tables.now in
    let ready = c.requires.ready.0 in
    let placed = c.requires.ready.1 in
    let seen = c.see-seen.ensures in
    let turned = c.turn-onward.ensures in
    record {
      step = λ i. record { method = a.at.method; node = a.at.node; set = a.at.set; round = a.at.round; grade = seen.whole i; rule = turned.rule i };
      next = turned.next;
      placed = placed-next t a.rises.now ready a.at placed c.turn-onward.result.to turned.next turned.to;
    }
