-- `grades::held::with_name` meets its contract: a bit put in is a name added.
-- Assumes nothing.
use mathlib.Core.Path.{ap, ◌∙◌}
use borrow.Author.Tests.{lt-ltb, le-ltb}
use lib.Bits.{bit_or}
use Rattle.grades.specs.HeldSets.{add_within}
use Rattle.grades.proofs.Masks.{one_bit, or-bit}
use Rattle.grades.proofs.held.with_name.Goals as goal

pub returns-then-name-lt-NAMES : goal.returns-then-name-lt-NAMES
unfolding add_within
returns-then-name-lt-NAMES c = let set = c.args.set in
    let name = c.args.name in
    rw (lt-ltb name 8 c.if-name-lt-NAMES.true) (ap (bit_or set) (one_bit 8 name c.if-name-lt-NAMES.true) ∙ or-bit set name)

pub returns-else-name-lt-NAMES : goal.returns-else-name-lt-NAMES
unfolding add_within
returns-else-name-lt-NAMES c = rw (le-ltb c.args.name 8 c.if-name-lt-NAMES.false)
