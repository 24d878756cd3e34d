-- `checker::solved` meets its contract: what the solver hands over is the answer of `meaning`.
-- Assumes nothing.
use Rattle.std.specs.Prelude.{Option, is_some}
use mathlib.Core.Path.{sym, ap, ◌∙◌}
use Rattle.solver.specs.declared.Solved.{Solved}
use Rattle.checker.proofs.Laws.Solved.{is-solved, accepted-verdict, accepted-bytes, broken-verdict, broken-bytes}
use Rattle.checker.proofs.solved.Goals as goal

pub unwrap-solution-requires : goal.unwrap-solution-requires
unwrap-solution-requires c = ap (λ (s : Option Solved). is_some s) (c.solve.ensures ∙ is-solved c.args.tables.now c.requires.1)

pub returns-in-Some-clause-value : goal.returns-in-Some-clause-value
returns-in-Some-clause-value c = broken-verdict c.args.tables.now c.requires.1 _ (sym c.unwrap-solution.ensures ∙ c.solve.ensures) _ c.in-Some.is

pub returns-in-Some-clause-answer_after : goal.returns-in-Some-clause-answer_after
returns-in-Some-clause-answer_after c = broken-bytes c.args.tables.now c.requires.1 _ (sym c.unwrap-solution.ensures ∙ c.solve.ensures) _ c.in-Some.is _

pub returns-clause-value : goal.returns-clause-value
returns-clause-value c = accepted-verdict c.args.tables.now c.requires.1 _ (sym c.unwrap-solution.ensures ∙ c.solve.ensures) c.in_default.is _ c.methods.ensures.is

pub returns-clause-answer_after : goal.returns-clause-answer_after
returns-clause-answer_after c = c.copy_from_slice.ensures.after ∙ accepted-bytes c.args.tables.now c.requires.1 _ (sym c.unwrap-solution.ensures ∙ c.solve.ensures) c.in_default.is _
