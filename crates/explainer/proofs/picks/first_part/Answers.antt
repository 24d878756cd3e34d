-- `explainer::picks::first_part` meets its contract.
-- Assumes nothing.
use Rattle.std.proofs.Common.{rules}
use Rattle.explainer.proofs.Laws.Picks.{first_of}
use Rattle.explainer.proofs.picks.first_part.Goals as goal

pub returns : goal.returns
returns c = first_of c.args.grades.now c.args.whole c.position.result (search rules)
