-- The ops by name: "ops 0 to 9; a number over 9 is no op".
-- Assumes nothing.
use Rattle.std.specs.Prelude.{ℕ, [], ◌∷◌, get_or, max}
use Rattle.frames.specs.declared.ops.Op.{Op}
use Rattle.frames.specs.declared.ops.Op.TheVariants.{PlainValue, Read, Write, Sequence, Choice, Loop, Synchronised, Assertion, Call, Fork, NoOp}

-- the op that a number names
unfoldable pub op_named : ℕ → Op
op_named n =
    get_or
    (PlainValue ∷ Read ∷ Write ∷ Sequence ∷ Choice ∷ Loop ∷ Synchronised ∷ Assertion ∷ Call ∷ Fork ∷ [])
    n
    (NoOp n)

-- an op's number; one that is no op has a number over 9
abbrev pub number_of : Op → ℕ
number_of PlainValue = 0
number_of Read = 1
number_of Write = 2
number_of Sequence = 3
number_of Choice = 4
number_of Loop = 5
number_of Synchronised = 6
number_of Assertion = 7
number_of Call = 8
number_of Fork = 9
number_of (NoOp n) = max n 10
