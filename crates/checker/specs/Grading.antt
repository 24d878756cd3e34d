-- What the call gives for every text and every lent answer: "Order: 1, 2, then line by line, in each line 3, 4, 5, 6, then 7."
-- Assumes nothing.
use Rattle.std.specs.Prelude.{ℕ, cond, List, eqb, length, Result, Ok, Err}
use Rattle.frames.specs.Layout.{answer_length}
use Rattle.frames.specs.Program.{Program}
use Rattle.lines.specs.Lines.{lines}
use Rattle.frames.specs.Frames.{frames_of}
use Rattle.frames.specs.Tables.{program_of}
use Rattle.frames.specs.Reading.{read_text}
use Rattle.frames.specs.Refusals.{number_of, line_of}
use Rattle.frames.specs.declared.Refusal.{Refusal as TextRefusal}
use Rattle.frames.specs.declared.Tables.{Tables}
use Rattle.meaning.specs.Lowest.{method_count}
use Rattle.meaning.specs.Constraints.{Answer, accepted, refused, answer, entry_of}
use Rattle.solver.specs.Flat.{flat}
use Rattle.checker.specs.declared.Accepted.{Accepted}
use Rattle.checker.specs.declared.Refusal.{Refusal}
use Rattle.checker.specs.declared.Refusal.TheVariants.{WrongLength, Text, Broken}
pub use Rattle.checker.specs.declared.numbers.Numbers.{Numbers}

-- the program that a text stands for
abbrev pub program_read : List ℕ → Program
program_read text = program_of (frames_of (lines text))

-- ---- the verdict

abbrev pub Verdict : Type 0
Verdict = Result Accepted Refusal

abbrev pub accepted_with : (methods rounds : ℕ) → Verdict
accepted_with methods rounds = Ok (record { methods = methods; rounds = rounds })

abbrev pub broken_at : (method kind node set : ℕ) → Verdict
broken_at method kind node set = Err (Broken (record { method = method; kind = kind; node = node; set = set }))

abbrev pub by_answer : Answer → (methods : ℕ) → Verdict
by_answer (accepted rounds tables) methods = accepted_with methods rounds
by_answer (refused method kind node set) methods = broken_at method kind node set

abbrev pub by_reading : Result Tables TextRefusal → Program → Verdict
by_reading (Ok tables) p = by_answer (answer p) (method_count p)
by_reading (Err refusal) p = Err (Text refusal)

-- of a text, and the length of the answer that is lent
unfoldable pub verdict_of : List ℕ → (lent : ℕ) → Verdict
verdict_of text lent = cond (eqb lent answer_length) (by_reading (read_text text) (program_read text)) (Err WrongLength)

-- ---- the answer

-- "entry number h of method m at 16m + h; every other byte 0"; "A refusal leaves the answer untouched."
abbrev pub bytes_by_answer : Answer → (old : List ℕ) → List ℕ
bytes_by_answer (accepted rounds tables) old = flat (entry_of tables)
bytes_by_answer (refused method kind node set) old = old

abbrev pub bytes_by_reading : Result Tables TextRefusal → Program → (old : List ℕ) → List ℕ
bytes_by_reading (Ok tables) p old = bytes_by_answer (answer p) old
bytes_by_reading (Err refusal) p old = old

-- of a text, and the answer as it was
unfoldable pub answer_of : List ℕ → (old : List ℕ) → List ℕ
answer_of text old = cond (eqb (length old) answer_length) (bytes_by_reading (read_text text) (program_read text) old) old

-- ---- document 01's numbers for each verdict; "Numbers that don't apply are 0. Rounds is 0 in any refusal."

abbrev pub line_refused : (number line : ℕ) → Numbers
line_refused number line = record { number = number; line = line; method = 0; kind = 0; node = 0; set = 0; methods = 0; rounds = 0 }

abbrev pub numbers_of : Verdict → Numbers
numbers_of (Ok a) = record { number = 0; line = 0; method = 0; kind = 0; node = 0; set = 0; methods = a.methods; rounds = a.rounds }
numbers_of (Err WrongLength) = line_refused 1 0
-- 2 to 6
numbers_of (Err (Text refusal)) = line_refused (number_of refusal) (line_of refusal)
numbers_of (Err (Broken b)) = record { number = 7; line = 0; method = b.method; kind = b.kind; node = b.node; set = b.set; methods = 0; rounds = 0 }
