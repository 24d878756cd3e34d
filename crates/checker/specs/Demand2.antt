-- Demand 2. The lowest grades. Of all assignments that satisfy every constraint of a sound text's program, the answer holds the
-- lowest at each method and each held set. The text is refused by 7 exactly if no assignment satisfies them all, and then the first
-- constraint broken by the lowest grades is named.
-- Assumes nothing.
use Rattle.std.specs.Prelude.{ℕ, ◌+◌, ◌*◌, ◌<◌, List, ◌↔◌, ◌≡◌, length, get_or}
use Rattle.frames.specs.Layout.{layout, answer_length}
use Rattle.meaning.specs.Meaning.{Assignment}
use Rattle.meaning.specs.Lowest.{method_count}
use Rattle.meaning.specs.Constraints.{Satisfies}
use Rattle.meaning.specs.Demand2.{IsRounds, LowestOfAll, Named}
use Rattle.checker.specs.Grading.{program_read, accepted_with, broken_at, verdict_of, answer_of}

-- the text is accepted: the answer holds the lowest of all assignments that satisfy every constraint, and the rounds are those that
-- reached it
pub record AcceptedAnswer (text old : List ℕ) (methods rounds : ℕ) : Type 0 where
  pub counted : methods ≡ method_count (program_read text)
  pub reached : IsRounds (program_read text) rounds
  pub grades : Assignment
  pub lowest : LowestOfAll (program_read text) grades
  pub entries : (m h : ℕ) → m < layout.most_methods → h < layout.grades → get_or (answer_of text old) (layout.grades * m + h) 0 ≡ grades m h

pub record BrokenBy (text : List ℕ) : Type 0 where
  pub method : ℕ
  pub kind : ℕ
  pub node : ℕ
  pub set : ℕ
  pub says : verdict_of text answer_length ≡ broken_at method kind node set

pub record Demand2 (text old : List ℕ) : Type 0 where
  pub accepted : (methods rounds : ℕ) → verdict_of text (length old) ≡ accepted_with methods rounds → AcceptedAnswer text old methods rounds
  pub refused : BrokenBy text ↔ ((a : Assignment) → Satisfies (program_read text) a → ⊥)
  pub named : (method kind node set : ℕ) → verdict_of text (length old) ≡ broken_at method kind node set → Named (program_read text) method kind node set
