-- Document 01's numbers for what reading comes to.
-- Assumes nothing.
use Rattle.std.specs.Prelude.{ℕ, Result, Ok, Err}
use Rattle.frames.specs.declared.Tables.{Tables}
use Rattle.frames.specs.declared.Refusal.{Refusal}
use Rattle.frames.specs.declared.Refusal.TheVariants.{Overlong, Malformed, Misplaced, OutOfRange, Unlinked}

-- the refusal's number
abbrev pub number_of : Refusal → ℕ
number_of Overlong = 2
number_of (Malformed l) = 3
number_of (Misplaced l) = 4
number_of (OutOfRange l) = 5
number_of (Unlinked l) = 6

-- its line, from 1; "Numbers that don't apply are 0."
abbrev pub line_of : Refusal → ℕ
line_of Overlong = 0
line_of (Malformed l) = l
line_of (Misplaced l) = l
line_of (OutOfRange l) = l
line_of (Unlinked l) = l

-- both of what reading comes to: 0 where the text reads
abbrev pub number_read : Result Tables Refusal → ℕ
number_read (Ok t) = 0
number_read (Err r) = number_of r

abbrev pub line_read : Result Tables Refusal → ℕ
line_read (Ok t) = 0
line_read (Err r) = line_of r
