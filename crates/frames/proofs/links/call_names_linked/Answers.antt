-- The chain's test is true exactly if all pass.
-- Assumes nothing.
use Rattle.std.proofs.Common.{rules}
use Rattle.std.proofs.iter.runs.Sources.{ranges}
use Rattle.frames.specs.Laws.Ranges.{every_iff}
use Rattle.frames.proofs.links.call_names_linked.Goals as goal

pub returns : goal.returns
returns c = every_iff _ _ _ (search (rules, ranges))
