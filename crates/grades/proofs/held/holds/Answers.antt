-- `grades::held::holds` meets its contract: the shifted set's lowest bit is the name's, and a byte has no bit past the eighth.
-- Assumes nothing.
use mathlib.Core.Path.{sym}
use Rattle.grades.proofs.Masks.{shifted-bit}
use Rattle.grades.proofs.Laws.HeldSets.{held-past}
use borrow.Author.Rules.{rules}
use borrow.Author.Tests.{le-ltb}
use Rattle.grades.proofs.held.holds.Goals as goal

pub returns-then-name-lt-NAMES : goal.returns-then-name-lt-NAMES
returns-then-name-lt-NAMES c = shifted-bit c.args.set c.args.name

pub returns-else-name-lt-NAMES : goal.returns-else-name-lt-NAMES
returns-else-name-lt-NAMES c = rw (le-ltb c.args.name 8 c.if-name-lt-NAMES.false) (sym (held-past 8 c.args.set c.args.name (search rules) c.if-name-lt-NAMES.false))
