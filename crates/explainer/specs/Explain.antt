-- What an explanation comes to, for every text, method, held set and lent list: document 02's W-207. "Refusals: after 2 to 7, 10 if the method or held
-- set doesn't exist, then 11 if the list is too short, with the count needed; the list is then untouched."
-- Assumes nothing.
use Rattle.std.specs.Prelude.{ℕ, ◌*◌, ◌/◌, ◌%◌, cond, List, [], ◌∷◌, ◌++◌, map, leb, length, drop, Result, Ok, Err}
use Rattle.counting.specs.Counting.{together}
use Rattle.frames.specs.Layout.{answer_length}
use Rattle.frames.specs.Program.{Program}
use Rattle.frames.specs.Refusals.{number_of, line_of}
use Rattle.frames.specs.declared.Refusal.TheVariants.{Overlong}
use Rattle.meaning.specs.Lowest.{is_entry}
use Rattle.reasons.specs.Steps as steps
use Rattle.reasons.specs.Steps.{reason}
use Rattle.checker.specs.Grading.{Verdict, program_read, verdict_of}
use Rattle.checker.specs.declared.Refusal.TheVariants as verdict
use Rattle.explainer.specs.declared.asked.Refusal.{Refusal}
use Rattle.explainer.specs.declared.asked.Refusal.TheVariants.{Text, Broken, NoEntry, TooShort}
use Rattle.explainer.specs.declared.walk.Step.{Step}

-- what an explanation comes to: how many steps it has, or a refusal
abbrev pub Reason : Type 0
Reason = Result ℕ Refusal

-- a step's record
abbrev pub step_of : steps.Step → Step
step_of s =
    record { method = s.method; node = s.node; set = s.set; round = s.round; grade = s.grade; rule = s.rule }

-- the steps of the reason for method m's grade at H
unfoldable pub steps_of : Program → (m H : ℕ) → List Step
steps_of p m H = map step_of (reason p m H)

-- of an accepted program, and how many steps the lent list has room for
unfoldable pub reason_by : Program → (m H room : ℕ) → Reason
reason_by p m H room =
    cond
    (is_entry p m H)
    (cond (leb (length (steps_of p m H)) room) (Ok (length (steps_of p m H))) (Err (TooShort (length (steps_of p m H)))))
    (Err NoEntry)

-- a text that is not accepted is refused as it is in grading; with an answer of the right length there is no refusal 1
abbrev pub reason_by_verdict : Verdict → Program → (m H room : ℕ) → Reason
reason_by_verdict (Ok accepted) p m H room = reason_by p m H room
reason_by_verdict (Err verdict.WrongLength) p m H room = Err (Text Overlong)
reason_by_verdict (Err (verdict.Text why)) p m H room = Err (Text why)
reason_by_verdict (Err (verdict.Broken broken)) p m H room = Err (Broken broken)

unfoldable pub reason_of : List ℕ → (m H room : ℕ) → Reason
reason_of text m H room = reason_by_verdict (verdict_of text answer_length) (program_read text) m H room

-- what is lent, as it is left: with the new front if the steps are explained; "the list is then untouched"
abbrev pub left_by : {A : Type 0} → Reason → (new old : List A) → List A
left_by (Ok count) new old = new
left_by (Err (Text why)) new old = old
left_by (Err (Broken broken)) new old = old
left_by (Err NoEntry) new old = old
left_by (Err (TooShort count)) new old = old

-- the steps at the front of a list, and the rest as it was
abbrev pub steps_over : (steps old : List Step) → List Step
steps_over steps old = steps ++ drop (length steps) old

unfoldable pub list_of : List ℕ → (m H : ℕ) → (old : List Step) → List Step
list_of text m H old = left_by (reason_of text m H (length old)) (steps_over (steps_of (program_read text) m H) old) old

-- ---- the same as bytes, eight a step: method, node, held set, round, grade, rule; node and round take two bytes each, the high one first

abbrev pub step_bytes : Step → List ℕ
step_bytes s =
    s.method ∷ s.node / 256 ∷ s.node % 256 ∷ s.set ∷ s.round / 256 ∷ s.round % 256 ∷ s.grade ∷ s.rule ∷ []

unfoldable pub bytes_of : List Step → List ℕ
bytes_of steps = together step_bytes steps

-- those of the steps at the front of other bytes, and the rest as it was
abbrev pub bytes_over : (steps : List Step) (old : List ℕ) → List ℕ
bytes_over steps old = bytes_of steps ++ drop (8 * length steps) old

-- of a text, and the bytes as they were, which have room for an eighth as many steps
unfoldable pub bytes_after : List ℕ → (m H : ℕ) → (old : List ℕ) → List ℕ
bytes_after text m H old = left_by (reason_of text m H (length old / 8)) (bytes_over (steps_of (program_read text) m H) old) old

-- ---- the documents' numbers for each case; those that don't apply are 0

pub record Numbers : Type 0 where
  pub number : ℕ
  pub line : ℕ
  pub method : ℕ
  pub kind : ℕ
  pub node : ℕ
  pub set : ℕ
  pub count : ℕ

abbrev pub line_refused : (number line : ℕ) → Numbers
line_refused number line = record { number = number; line = line; method = 0; kind = 0; node = 0; set = 0; count = 0 }

abbrev pub numbers_of : Reason → Numbers
numbers_of (Ok count) = record { number = 0; line = 0; method = 0; kind = 0; node = 0; set = 0; count = count }
numbers_of (Err (Text why)) = line_refused (number_of why) (line_of why)
numbers_of (Err (Broken b)) = record { number = 7; line = 0; method = b.method; kind = b.kind; node = b.node; set = b.set; count = 0 }
numbers_of (Err NoEntry) = line_refused 10 0
numbers_of (Err (TooShort count)) = record { number = 11; line = 0; method = 0; kind = 0; node = 0; set = 0; count = count }
