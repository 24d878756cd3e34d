-- The reason of a text that is refused by 7: the chain of the named method's root, for kind 3 of the forked method's, at the named held set. Of a broken
-- declaration it is that of the body's grade over the lowest tables, else that of the entry's, which is in the lowest tables what it is. A text with any
-- other outcome has none.
-- Assumes nothing.
use Rattle.std.specs.Prelude.{ℕ, ◌/◌, cond, List, [], map, eqb, leb, length, Ok, Err}
use Rattle.frames.specs.Layout.{answer_length}
use Rattle.frames.specs.Program.{Program}
use Rattle.meaning.specs.Lowest.{is_entry}
use Rattle.meaning.specs.Constraints.{named_method}
use Rattle.reasons.specs.Steps.{body_reason}
use Rattle.checker.specs.Grading.{Verdict, program_read, verdict_of}
use Rattle.checker.specs.declared.Refusal.TheVariants as verdict
use Rattle.explainer.specs.declared.walk.Step.{Step}
use Rattle.explainer.specs.Explain.{step_of, steps_of, bytes_over}

-- the method whose grade a constraint is about: a fork's constraint is about the method that it starts
abbrev pub about_method : Program → (m kind node : ℕ) → ℕ
about_method p m kind node = cond (eqb kind 3) (named_method p m node) m

-- Kind 1 is about the grade of a declared method's body, the others about that of an entry. What the program lacks has no chain.
unfoldable pub chain_about : Program → (m kind H : ℕ) → List Step
chain_about p m kind H = cond (is_entry p m H) (cond (eqb kind 1) (map step_of (body_reason p m H)) (steps_of p m H)) []

abbrev pub broken_by : Verdict → Program → List Step
broken_by (Ok accepted) p = []
broken_by (Err verdict.WrongLength) p = []
broken_by (Err (verdict.Text why)) p = []
broken_by (Err (verdict.Broken b)) p = chain_about p (about_method p b.method b.kind b.node) b.kind b.set

unfoldable pub broken_steps : List ℕ → List Step
broken_steps text = broken_by (verdict_of text answer_length) (program_read text)

-- the lent bytes: those of the steps at their front, if all of them have room there
unfoldable pub bytes_broken : List ℕ → (old : List ℕ) → List ℕ
bytes_broken text old =
    cond
    (leb (length (broken_steps text)) (length old / 8))
    (bytes_over (broken_steps text) old)
    old
