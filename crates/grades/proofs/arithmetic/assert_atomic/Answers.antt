-- `grades::arithmetic::assert_atomic` meets its contract: cmpd becomes error, and a law says that nothing else changes.
-- Assumes nothing.
use mathlib.Core.Path.{sym, ap, ◌∙◌}
use Rattle.grades.specs.Grades.{cap, assert_atomic}
use Rattle.grades.proofs.Laws.Grades.{assert-stays}
use Rattle.grades.proofs.arithmetic.assert_atomic.Goals as goal

pub returns-then-grade-eq3 : goal.returns-then-grade-eq3
unfolding assert_atomic cap
returns-then-grade-eq3 c = sym (ap assert_atomic c.if-grade-eq3.true)

pub returns-else-grade-eq3 : goal.returns-else-grade-eq3
returns-else-grade-eq3 c = c.grade_of.ensures ∙ sym (assert-stays c.args.grade c.if-grade-eq3.false)
