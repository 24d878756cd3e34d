-- `name` meets its contract: a list made by number has at each place what it was made of.
-- Assumes nothing.
use mathlib.Core.Path.{sym, ◌∙◌}
use native.Mathlib.Omega.{arith}
use Rattle.counting.specs.Laws.Lists.{get_or-tabulate, get_or-past-tabulate}
use Rattle.frames.proofs.accessors.name.Goals as goal

pub returns-then-t-ge-NAMES : goal.returns-then-t-ge-NAMES
returns-then-t-ge-NAMES c = record { is = sym (get_or-past-tabulate _ _ _ 0 c.if-t-ge-NAMES.true); small = omega arith }

pub returns : goal.returns
returns c = record { is = c.cell.ensures.is ∙ sym (get_or-tabulate _ _ _ 0 c.if-t-ge-NAMES.false); small = omega arith }
