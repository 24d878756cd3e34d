-- `specs/Runs` states what is proved here.
-- Assumes nothing.
use Rattle.std.specs.Prelude.{ℕ, ◌+◌, ◌*◌, ◌^◌, ◌≤◌, ◌<◌, List, ◌≡◌, get_or}
use Rattle.std.proofs.Common.{sym, ap, ◌∙◌, subst, le_of_eq, pow_mono}
use Rattle.std.proofs.Math.Nat.{lt_of_lt_of_le}
use Rattle.grades.specs.HeldSets.{entries}
use Rattle.lines.specs.Lines.{lines}
use Rattle.frames.specs.Program.{method_at}
use Rattle.frames.specs.Layout.{layout}
use Rattle.frames.specs.WellFormed.{WellFormed}
use Rattle.frames.specs.Laws.WellFormed.{well-formed}
use Rattle.meaning.specs.Lowest.{method_count, entry_count}
use Rattle.meaning.specs.Constraints.{entry_of}
use Rattle.meaning.specs.Demand2.{Permitted}
use Rattle.meaning.proofs.Demand2.{demand-2}
use Rattle.solver.specs.Laws.Flat.{flat-entry}
use Rattle.running.specs.Runs.{RunsAsGraded}
use Rattle.running.proofs.Laws.Runs.{runs-as-graded}
use Rattle.checker.specs.Grading.{program_read, answer_of}
use Rattle.checker.specs.Demand3.{Passes}
use Rattle.checker.proofs.Demand3.{Found, found}
use Rattle.checker.specs.Runs.{grades_in, RunsOfTheCall}

module _ (text old : List ℕ) (passes : Passes text old) where
  well : WellFormed (program_read text)
  well = well-formed (lines text) passes.sound.lines

  few-sets : (m h : ℕ) → m < method_count (program_read text) → h < entry_count (program_read text) m → h < layout.grades
  few-sets m h l s =
      let few : (method_at (program_read text) m).k ≤ layout.most_names = (well.methods m (unfold method_count in l)).names in
      let below : h < 2 ^ (method_at (program_read text) m).k = unfold entry_count entries in s in
      lt_of_lt_of_le below (pow_mono few)

  same-grades : (f : Found text old) (m h : ℕ) → m < method_count (program_read text) → h < entry_count (program_read text) m
      → entry_of f.tables m h ≡ grades_in (answer_of text old) m h
  same-grades f m h l s =
      sym
      (ap (λ (b : List ℕ). get_or b (layout.grades * m + h) 0) f.holds
      ∙ flat-entry (entry_of f.tables) m h (lt_of_lt_of_le l (unfold method_count in well.few_methods)) (few-sets m h l s))

  as-graded : RunsAsGraded (program_read text) (grades_in (answer_of text old))
  as-graded =
      let f = found text old passes in
      runs-as-graded (program_read text) (entry_of f.tables) well (subst (Permitted (program_read text)) f.is (demand-2 (program_read text)).permitted).lowest.satisfies
      (grades_in (answer_of text old)) (λ m h l s. le_of_eq (same-grades f m h l s))

pub runs-of-the-call : (text old : List ℕ) → RunsOfTheCall text old
runs-of-the-call text old passes = as-graded text old passes
