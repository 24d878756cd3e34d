-- One step more is put into a list of steps.
-- Assumes nothing.
use Rattle.explainer.proofs.Laws.Lent.{step-next}
use Rattle.explainer.proofs.lent.StepSlot.put.Goals as goal

pub returns-clause-put : goal.returns-clause-put
returns-clause-put c steps old e is = step-next steps c.args.step old c.args.slots.now c.args.i e is c.requires
