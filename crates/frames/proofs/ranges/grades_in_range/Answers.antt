-- `grades_in_range` meets its contract: all that the loop passed are in range.
-- Assumes nothing.
use Rattle.std.proofs.Common.{refl, sym, ◌∙◌, arith}
use Rattle.frames.specs.Layout.{layout}
use Rattle.frames.specs.Ranges.{grade_in_range}
use Rattle.frames.specs.Tables.{cell}
use Rattle.counting.specs.Laws.Counting.{every_more, every-fails}
use Rattle.counting.specs.Counting.{every}
use Rattle.frames.proofs.ranges.grades_in_range.Goals as goal

pub loop-h-init : goal.loop-h-init
unfolding every
loop-h-init c = refl

pub returns-then-not-grade_in_range : goal.returns-then-not-grade_in_range
returns-then-not-grade_in_range c = let r = cell c.args.tables.now c.args.j in
    sym (every-fails layout.grades (grade_in_range r) c.loop-h.h (omega arith) (sym c.grade_in_range.ensures ∙ c.if-not-grade_in_range.true))

pub loop-h-preserved : goal.loop-h-preserved
loop-h-preserved c = let r = cell c.args.tables.now c.args.j in
    every_more _ (grade_in_range r) c.loop-h.invariant (sym c.grade_in_range.ensures ∙ c.if-not-grade_in_range.false)
