-- `checker::root::lowest_root` meets its contract: a text that reads comes to what its tables do, any other to none.
-- Assumes nothing.
use mathlib.Core.Path.{sym, ◌∙◌}
use Rattle.checker.proofs.Laws.Root.{root_by, root-read}
use Rattle.checker.proofs.root.lowest_root.Goals as goal

pub returns-in_default : goal.returns-in_default
returns-in_default c = sym (root_by _ _ _ _ (sym c.read.ensures ∙ c.in_default.is))

pub returns : goal.returns
returns c = c.lowest_root.ensures ∙ root-read _ _ _ _ (sym c.read.ensures ∙ c.in-Ok.is)
