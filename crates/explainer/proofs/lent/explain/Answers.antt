-- `explain` meets its contract.
-- Assumes nothing.
use Rattle.explainer.specs.Explain.{list_of}
use Rattle.explainer.proofs.lent.explain.Goals as goal

pub returns-clause-steps_after : goal.returns-clause-steps_after
unfolding list_of
returns-clause-steps_after c = c.explain_into.ensures.slots_after
