-- The breach of a declaration: what is printed for a text that is refused by 7 with kind 1, "declared methods: the root's table is no
-- larger than the declared one".
-- Assumes nothing.
use Rattle.std.specs.Prelude.{ℕ, cond, List, [], ◌∷◌, eqb, Ok, Err}
use Rattle.frames.specs.Program.{Program}
use Rattle.meaning.specs.Meaning.{root_table}
use Rattle.meaning.specs.Lowest.{declared_table, lowest}
use Rattle.checker.specs.Grading.{Verdict, program_read, verdict_of}
use Rattle.checker.specs.declared.Refusal.TheVariants.{WrongLength, Text, Broken}
use Rattle.session.specs.Writing.{line_of}
use Rattle.frames.specs.Layout.{answer_length}

-- how many bytes its line has: ten digits and 0A
abbrev pub breach_length : ℕ
breach_length = 11

-- the breach frame: 1E, method, held set, and at that entry the declared grade and the root's grade in the lowest tables
unfoldable pub breach_frame : Program → (method set : ℕ) → List ℕ
breach_frame p method set = 0x1E ∷ method ∷ set ∷ declared_table p method set ∷ root_table p (lowest p) method set ∷ []

-- of a verdict, and the program that was graded; nothing for every verdict but a refusal by 7 with kind 1
abbrev pub breach_by : Verdict → Program → List ℕ
breach_by (Ok a) p = []
breach_by (Err WrongLength) p = []
breach_by (Err (Text refusal)) p = []
breach_by (Err (Broken b)) p = cond (eqb b.kind 1) (line_of (breach_frame p b.method b.set)) []

unfoldable pub breach_of : (text : List ℕ) → List ℕ
breach_of text = breach_by (verdict_of text answer_length) (program_read text)
