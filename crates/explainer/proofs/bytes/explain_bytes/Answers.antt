-- `explain_bytes` meets its contract.
-- Assumes nothing.
use Rattle.explainer.specs.Explain.{bytes_after}
use Rattle.explainer.proofs.bytes.explain_bytes.Goals as goal

pub returns-clause-bytes_after : goal.returns-clause-bytes_after
unfolding bytes_after
returns-clause-bytes_after c = c.explain_into.ensures.slots_after
