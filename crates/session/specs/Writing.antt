-- Writing a frame, the mirror of reading one: "Lines of digits 0-9 and A-F, one frame a line, two digits a byte, each line ended by
-- byte 0A. Two-byte numbers are high byte first."
-- Assumes nothing.
use Rattle.std.specs.Prelude.{ℕ, ◌+◌, ◌/◌, ◌%◌, cond, List, [], ◌∷◌, ◌++◌, ltb}
use Rattle.lines.specs.Lines.{newline}

-- the digit 0-9 or A-F that stands for d
unfoldable pub hex_digit : ℕ → ℕ
hex_digit d = cond (ltb d 10) (0x30 + d) (0x37 + d)

-- the two digits of each byte; of a number that is no byte, those of its remainder by 256
unfoldable pub digits_of : List ℕ → List ℕ
digits_of [] = []
digits_of (b ∷ frame) = hex_digit (b / 16 % 16) ∷ hex_digit (b % 16) ∷ digits_of frame

-- a frame's line
unfoldable pub line_of : List ℕ → List ℕ
line_of frame = digits_of frame ++ (newline ∷ [])

-- the high byte and the low byte of a number; one over 65,535 counts as its remainder by 65,536
abbrev pub high : ℕ → ℕ
high n = n / 256 % 256

abbrev pub low : ℕ → ℕ
low n = n % 256
