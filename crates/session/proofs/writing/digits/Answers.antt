-- `digits` meets its contract: the digits of the byte's halves.
-- Assumes nothing.
use Rattle.std.proofs.Common.{◌≡◌, refl, ◌/◌, ◌%◌, arith}
use Rattle.session.specs.Writing.{digits_of}
use Rattle.session.proofs.writing.digits.Goals as goal

pub returns : goal.returns
unfolding digits_of
returns c = let high : c.args.byte / 16 % 16 ≡ c.args.byte / 16 = omega arith in simp (c.hex_digit.ensures, c.hex_digit-2.ensures, high) refl
