-- The call's definitions, case by case.
-- Assumes nothing.
use Rattle.std.specs.Prelude.{ℕ, ◌<◌, Bool, true, cond, List, ◌≡◌, length, Result, Ok, Err}
use Rattle.std.proofs.Common.{sym, ap, ap₂, ◌∙◌, eq-eqb, ne_eqb}
use Rattle.frames.specs.Program.{Program}
use Rattle.frames.specs.Tables.{program_of}
use Rattle.frames.specs.Reading.{read_text}
use Rattle.frames.specs.Promises.{tables-stand, read-well-formed, long-exactly}
use Rattle.frames.specs.declared.Tables.{Tables}
use Rattle.frames.specs.declared.Refusal.{Refusal as TextRefusal}
use Rattle.frames.specs.declared.Refusal.TheVariants.{Overlong}
use Rattle.meaning.specs.Lowest.{method_count}
use Rattle.meaning.specs.Constraints.{answer}
use Rattle.solver.specs.Room.{has_room}
use Rattle.checker.specs.Grading.{program_read, by_answer, by_reading, verdict_of, bytes_by_answer, bytes_by_reading, answer_of}
use Rattle.checker.proofs.Laws.Room.{well-formed-room}
use Rattle.checker.specs.Code.Steps.{solved_verdict, solved_bytes}
use Rattle.checker.specs.declared.Refusal.TheVariants.{WrongLength, Text}
use Rattle.solver.specs.Flat.{program_in}
use Rattle.frames.specs.Layout.{layout, answer_length}

-- ---- an answer of another length

pub wrong_verdict : (text : List ℕ) (n : ℕ) → (n ≡ answer_length → ⊥) → verdict_of text n ≡ Err WrongLength
unfolding verdict_of
wrong_verdict text n h = ap (λ (b : Bool). cond b (by_reading (read_text text) (program_read text)) (Err WrongLength)) (ne_eqb n answer_length h)

pub wrong_bytes : (text old : List ℕ) → (length old ≡ answer_length → ⊥) → answer_of text old ≡ old
unfolding answer_of
wrong_bytes text old h = ap (λ (b : Bool). cond b (bytes_by_reading (read_text text) (program_read text) old) old) (ne_eqb (length old) answer_length h)

-- ---- an answer of the right length

pub right-verdict : (text : List ℕ) (n : ℕ) (o : Result Tables TextRefusal) → n ≡ answer_length → read_text text ≡ o → verdict_of text n ≡ by_reading o (program_read text)
unfolding verdict_of
right-verdict text n o h e = ap₂ (λ (b : Bool) (x : Result Tables TextRefusal). cond b (by_reading x (program_read text)) (Err WrongLength)) (eq-eqb n answer_length h) e

pub right-bytes : (text old : List ℕ) (o : Result Tables TextRefusal) → length old ≡ answer_length → read_text text ≡ o
    → answer_of text old ≡ bytes_by_reading o (program_read text) old
unfolding answer_of
right-bytes text old o h e = ap₂ (λ (b : Bool) (x : Result Tables TextRefusal). cond b (bytes_by_reading x (program_read text) old) old) (eq-eqb (length old) answer_length h) e

pub over-verdict : (text : List ℕ) (n : ℕ) → n ≡ answer_length → layout.most_text < length text → verdict_of text n ≡ Err (Text Overlong)
over-verdict text n h l = right-verdict text n (Err Overlong) h (long-exactly text l)

pub over-bytes : (text old : List ℕ) → length old ≡ answer_length → layout.most_text < length text → answer_of text old ≡ old
over-bytes text old h l = right-bytes text old (Err Overlong) h (long-exactly text l)

-- what the lengths decide
pub ruleset by_lengths = (wrong_verdict, wrong_bytes, over-verdict, over-bytes)

-- ---- a text that reads

module _ (text : List ℕ) (T : Tables) (e : read_text text ≡ Ok T) where
  pub read-room : has_room T.bytes ≡ true
  read-room = well-formed-room T.bytes (read-well-formed text T e)

  pub read-program : program_in T.bytes ≡ program_read text
  read-program = ap program_of (tables-stand text T e)

  pub read-verdict : (n : ℕ) → n ≡ answer_length → solved_verdict T.bytes ≡ verdict_of text n
  unfolding solved_verdict
  read-verdict n h = ap (λ (p : Program). by_answer (answer p) (method_count p)) read-program ∙ sym (right-verdict text n (Ok T) h e)

  pub read-bytes : (old : List ℕ) → length old ≡ answer_length → solved_bytes T.bytes old ≡ answer_of text old
  unfolding solved_bytes
  read-bytes old h = ap (λ (p : Program). bytes_by_answer (answer p) old) read-program ∙ sym (right-bytes text old (Ok T) h e)
