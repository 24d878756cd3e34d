-- `by_lines` meets its contract: what reading comes to decides, then what the solver finds.
-- Assumes nothing.
use mathlib.Core.Path.{sym, ◌∙◌}
use Rattle.std.proofs.lemmas.Result.{err_from_is_err_and}
use Rattle.checker.proofs.Laws.Grading.{right-verdict, right-bytes, read-room, read-verdict, read-bytes}
use Rattle.checker.proofs.by_lines.Goals as goal

pub returns-in_err-tables-clause-value : goal.returns-in_err-tables-clause-value
returns-in_err-tables-clause-value c = let p = err_from_is_err_and c.from_residual.result c.from_residual.ensures.1 in
    rw (p.1, p.2) (sym (right-verdict _ _ _ c.requires (sym c.read.ensures ∙ c.in_err-tables.was)))

pub returns-in_err-tables-clause-answer_after : goal.returns-in_err-tables-clause-answer_after
returns-in_err-tables-clause-answer_after c = sym (right-bytes _ _ _ c.requires (sym c.read.ensures ∙ c.in_err-tables.was))

pub solved-requires : goal.solved-requires
solved-requires c = (c.requires, read-room _ _ (sym c.read.ensures ∙ c.in_ok-tables.was))

pub returns-clause-value : goal.returns-clause-value
returns-clause-value c = c.solved.ensures.value ∙ read-verdict _ _ (sym c.read.ensures ∙ c.in_ok-tables.was) _ c.requires

pub returns-clause-answer_after : goal.returns-clause-answer_after
returns-clause-answer_after c = c.solved.ensures.answer_after ∙ read-bytes _ _ (sym c.read.ensures ∙ c.in_ok-tables.was) _ c.requires
