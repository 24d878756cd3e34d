-- `grades::arithmetic::closure` meets its contract: atomic becomes cmpd, and a law says that nothing else changes.
-- Assumes nothing.
use mathlib.Core.Path.{sym, ap, ◌∙◌}
use Rattle.grades.specs.Grades.{cap, closure}
use Rattle.grades.proofs.Laws.Grades.{closure-stays}
use Rattle.grades.proofs.arithmetic.closure.Goals as goal

pub returns-then-grade-eq2 : goal.returns-then-grade-eq2
unfolding closure cap
returns-then-grade-eq2 c = sym (ap closure c.if-grade-eq2.true)

pub returns-else-grade-eq2 : goal.returns-else-grade-eq2
returns-else-grade-eq2 c = c.grade_of.ensures ∙ sym (closure-stays c.args.grade c.if-grade-eq2.false)
