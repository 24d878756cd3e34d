-- Document 01's "One whole session": what the grading program prints for a text.
-- Assumes nothing.
use Rattle.std.specs.Prelude.{ℕ, zero, suc, ◌+◌, ◌*◌, ◌^◌, List, [], ◌∷◌, ◌++◌, take, drop, replicate, Ok, Err}
use Rattle.frames.specs.Layout.{layout, answer_length}
use Rattle.frames.specs.Program.{Program, method_at}
use Rattle.checker.specs.Grading.{Verdict, program_read, verdict_of, answer_of, numbers_of}
use Rattle.checker.specs.declared.numbers.Numbers.{Numbers}
use Rattle.session.specs.Writing.{line_of, high, low}

-- "the answer frame (10, methods, rounds in two bytes)"
unfoldable pub answer_frame : (methods rounds : ℕ) → List ℕ
answer_frame methods rounds = 0x10 ∷ methods ∷ high rounds ∷ low rounds ∷ []

-- the grades of method m in an answer, one for each of its 2^k entries: "entry number h of method m at 16m + h"
unfoldable pub grades_of : (answer : List ℕ) (m k : ℕ) → List ℕ
grades_of answer m k = take (2 ^ k) (drop (layout.grades * m) answer)

-- "a frame for each method (11, number, k, grades)"
unfoldable pub method_frame : (answer : List ℕ) (m k : ℕ) → List ℕ
method_frame answer m k = 0x11 ∷ m ∷ k ∷ grades_of answer m k

-- the lines of the methods below n
unfoldable pub method_lines : Program → (answer : List ℕ) (n : ℕ) → List ℕ
method_lines p answer zero = []
method_lines p answer (suc n) = method_lines p answer n ++ line_of (method_frame answer n (method_at p n).k)

-- "the refusal frame (1F, number, line in two bytes, method, kind, node in two bytes, held set)"
unfoldable pub refusal_frame : Numbers → List ℕ
refusal_frame n =
    0x1F ∷ n.number ∷ high n.line ∷ low n.line ∷ low n.method ∷ low n.kind ∷ high n.node ∷ low n.node ∷ low n.set ∷ []

-- of a verdict, the program that was graded, and the answer
abbrev pub session_by : Verdict → Program → (answer : List ℕ) → List ℕ
session_by (Ok a) p answer = line_of (answer_frame a.methods a.rounds) ++ method_lines p answer a.methods
session_by (Err refusal) p answer = line_of (refusal_frame (numbers_of (Err refusal)))

-- the program lends an answer of the right length, all 0, so that refusal 1 is never printed
unfoldable pub session_of : (text : List ℕ) → List ℕ
session_of text = session_by (verdict_of text answer_length) (program_read text) (answer_of text (replicate answer_length 0))

-- ---- how long it can be

-- a method's frame has three bytes and its grades; a line two digits a byte, and its 0A
abbrev pub longest_frame : ℕ
longest_frame = 3 + layout.grades

abbrev pub longest_method : ℕ
longest_method = 2 * longest_frame + 1

-- the answer's line, of four bytes, and one for each method
abbrev pub longest_session : ℕ
longest_session = 2 * 4 + 1 + layout.most_methods * longest_method
