-- What W-204 changed, of the call, for every text that reads and an answer of the right length. Where the call accepts, document 01's rule, which
-- counts the lock behind an FF at a call as not held, accepts too, and none of its bytes is larger. Where no declared table gets worse as more is
-- held, the call gives 01's verdict and leaves 01's bytes.
-- Assumes nothing.
use Rattle.std.specs.Prelude.{ℕ, ◌≤◌, List, ◌≡◌, length, get_or}
use Rattle.meaning.specs.Lowest.{method_count}
use Rattle.meaning.specs.Constraints.{Answer, answer}
use Rattle.meaning.specs.Changes.{DeclaredAntitone}
use Rattle.meaning.specs.NotHeld.{as_not_held, RulesCompared}
use Rattle.checker.specs.Grading.{program_read, accepted_with, by_answer, verdict_of, bytes_by_answer, answer_of}
use Rattle.checker.specs.Demand3.{Passes}

-- a name that nothing holds in any text: it is past every method's names, and not FF
abbrev pub unheld : ℕ
unheld = 0xFE

-- the answer under 01's rule
abbrev pub answer01 : (text : List ℕ) → Answer
answer01 text = answer (as_not_held unheld (program_read text))

-- 01 accepts, with bytes that are nowhere larger than those that the call leaves
pub record NoLargerBy01 (text old : List ℕ) : Type 0 where
  pub rounds : ℕ
  pub accepts : by_answer (answer01 text) (method_count (program_read text)) ≡ accepted_with (method_count (program_read text)) rounds
  pub no_larger : (i : ℕ) → get_or (bytes_by_answer (answer01 text) old) i 0 ≤ get_or (answer_of text old) i 0

pub record RulesOfTheCall (text old : List ℕ) : Type 0 where
  pub compared : RulesCompared (program_read text) unheld
  pub accepted : Passes text old → NoLargerBy01 text old
  pub verdict : DeclaredAntitone (program_read text) → verdict_of text (length old) ≡ by_answer (answer01 text) (method_count (program_read text))
  pub bytes : DeclaredAntitone (program_read text) → answer_of text old ≡ bytes_by_answer (answer01 text) old
