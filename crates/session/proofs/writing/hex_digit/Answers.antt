-- `hex_digit` meets its contract: digits below ten, and the letters after them.
-- Assumes nothing.
use Rattle.std.proofs.Common.{arith, refl, lt-ltb, le-ltb}
use Rattle.session.specs.Writing.{hex_digit}
use Rattle.session.proofs.writing.hex_digit.Goals as goal

pub returns-in-0-to-9 : goal.returns-in-0-to-9
unfolding hex_digit
returns-in-0-to-9 c = simp (lt-ltb c.args.d 10 (omega arith)) refl

pub returns-in_default : goal.returns-in_default
unfolding hex_digit
returns-in_default c = simp (le-ltb c.args.d 10 (omega arith)) refl
