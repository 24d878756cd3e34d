-- Demand 1. Every text. It takes every text, broken or not, and every lent answer, long or short. Each gets one verdict: each refusal
-- has one number, one order and one place. A refusal leaves the answer just as it was.
-- Assumes nothing.
use Rattle.std.specs.Prelude.{ℕ, ◌+◌, ◌≤◌, ◌<◌, List, ◌≡◌, length, Ok, Err}
use Rattle.frames.specs.Layout.{layout, answer_length}
use Rattle.lines.specs.Lines.{lines}
use Rattle.frames.specs.FirstFault.{First, Faultless}
use Rattle.frames.specs.declared.Fault.{Fault}
use Rattle.frames.specs.declared.Refusal.TheVariants.{Overlong, Malformed, Misplaced, OutOfRange, Unlinked}
use Rattle.meaning.specs.Lowest.{method_count}
use Rattle.meaning.specs.Constraints.{accepted, refused as broken, answer}
use Rattle.checker.specs.Grading.{Verdict, program_read, verdict_of, answer_of, numbers_of}
use Rattle.checker.specs.declared.Refusal.TheVariants.{WrongLength, Text, Broken}

-- a text that is neither too long nor faulty in any line, with an answer of the right length
pub record Gradable (text : List ℕ) (lent : ℕ) : Type 0 where
  pub answer : lent ≡ answer_length
  pub short : length text ≤ layout.most_text
  pub lines : Faultless (lines text)

-- the line, from 1, is the first of the text with any fault, and this is its fault
pub record Faulty (text : List ℕ) (lent : ℕ) (fault : Fault) (line : ℕ) : Type 0 where
  pub answer : lent ≡ answer_length
  pub short : length text ≤ layout.most_text
  pub before : ℕ
  pub follows : line ≡ before + 1
  pub first : First (lines text) fault before

-- the table of refusal numbers: when each is "given exactly if"
abbrev pub Case : (text : List ℕ) (lent : ℕ) → Verdict → Type 0
Case text lent (Ok a) =
    Gradable text lent × ((tables : List (List ℕ)) × (answer (program_read text) ≡ accepted a.rounds tables)) × (a.methods ≡ method_count (program_read text))
Case text lent (Err WrongLength) = lent ≡ answer_length → ⊥
Case text lent (Err (Text Overlong)) = (lent ≡ answer_length) × (layout.most_text < length text)
Case text lent (Err (Text (Malformed line))) = Faulty text lent Fault.Malformed line
Case text lent (Err (Text (Misplaced line))) = Faulty text lent Fault.Misplaced line
Case text lent (Err (Text (OutOfRange line))) = Faulty text lent Fault.OutOfRange line
Case text lent (Err (Text (Unlinked line))) = Faulty text lent Fault.Unlinked line
Case text lent (Err (Broken b)) = Gradable text lent × (answer (program_read text) ≡ broken b.method b.kind b.node b.set)

pub record Demand1 (text old : List ℕ) : Type 0 where
  -- the verdict is the case, and no other verdict is
  pub given : Case text (length old) (verdict_of text (length old))
  pub only : (v : Verdict) → Case text (length old) v → v ≡ verdict_of text (length old)
  -- the answer keeps its length, and a refusal leaves it as it was
  pub keeps : length (answer_of text old) ≡ length old
  pub untouched : ((numbers_of (verdict_of text (length old))).number ≡ 0 → ⊥) → answer_of text old ≡ old
