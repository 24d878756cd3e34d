-- Every text that is refused by 7 has a reason: it is about an entry that the program has, whose grade over the lowest tables breaks the constraint.
-- Assumes nothing.
use Rattle.std.specs.Prelude.{ℕ, ◌<◌, List, map}
use Rattle.std.proofs.Math.Path.{◌≡◌}
use Rattle.grades.specs.Grades.{cmpd}
use Rattle.meaning.specs.Meaning.{root_table}
use Rattle.meaning.specs.Lowest.{declared_table, lowest}
use Rattle.meaning.specs.Constraints.{Entry, named_method}
use Rattle.reasons.specs.Steps.{body_reason}
use Rattle.checker.specs.Grading.{program_read}
use Rattle.explainer.specs.Explain.{step_of, steps_of}
use Rattle.explainer.specs.Broken.{broken_steps}

-- of a broken declaration: the reason is that of the body's grade
pub record BodyBroken (text : List ℕ) (m H : ℕ) : Type 0 where
  pub entry : Entry (program_read text) m H
  pub worse : declared_table (program_read text) m H < root_table (program_read text) (lowest (program_read text)) m H
  pub reason : broken_steps text ≡ map step_of (body_reason (program_read text) m H)

-- of the main, or of a forked method: the reason is that of its entry
pub record EntryBroken (text : List ℕ) (m H : ℕ) : Type 0 where
  pub entry : Entry (program_read text) m H
  pub worse : cmpd < lowest (program_read text) m H
  pub reason : broken_steps text ≡ steps_of (program_read text) m H

pub record RefusedReason (text : List ℕ) (m kind node H : ℕ) : Type 0 where
  pub body : kind ≡ 1 → BodyBroken text m H
  pub main : kind ≡ 2 → EntryBroken text 0 H
  pub forked : kind ≡ 3 → EntryBroken text (named_method (program_read text) m node) H
