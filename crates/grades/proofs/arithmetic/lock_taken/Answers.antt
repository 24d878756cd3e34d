-- `grades::arithmetic::lock_taken` meets its contract: two laws say which grades become atomic and which stay.
-- Assumes nothing.
use mathlib.Core.Path.{sym, ◌∙◌}
use Rattle.grades.proofs.Laws.Grades.{lock_taken-stays, lock_taken-atomic}
use Rattle.grades.proofs.arithmetic.lock_taken.Goals as goal

pub returns-then-grade-lt2 : goal.returns-then-grade-lt2
returns-then-grade-lt2 c = sym (lock_taken-atomic c.args.grade c.if-grade-lt2.true)

pub returns-else-grade-lt2 : goal.returns-else-grade-lt2
returns-else-grade-lt2 c = c.grade_of.ensures ∙ sym (lock_taken-stays c.args.grade c.if-grade-lt2.false)
