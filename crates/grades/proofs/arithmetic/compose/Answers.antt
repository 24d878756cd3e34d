-- `grades::arithmetic::compose` meets its contract: the table in the code is the paper's, row by row.
-- Assumes nothing.
use native.Mathlib.Omega.{arith}
use mathlib.Core.Path.{ap₂, ◌∙◌}
use mathlib.Core.List.{[]}
use lib.ListN.{get_or}
use Prim.Native.Nat.{ℕ}
use Rattle.grades.specs.Grades.{composition, compose}
use Rattle.grades.proofs.Laws.Grades.{cap-error}
use Rattle.grades.proofs.arithmetic.compose.Goals as goal

pub bounds-row : goal.bounds-row
bounds-row c = omega (arith, cap-error c.args.first, cap-error c.args.second)

pub bounds-column : goal.bounds-column
bounds-column c = omega (arith, cap-error c.args.first, cap-error c.args.second)

pub returns : goal.returns
unfolding compose composition
returns c = ap₂ (λ (a b : ℕ). get_or (get_or composition a []) b 0) (c.from-row.ensures ∙ c.grade_of.ensures) (c.from-column.ensures ∙ c.grade_of-2.ensures)
