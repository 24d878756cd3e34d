use Rattle.frames.specs.Ranges.{grade_in_range}
use Rattle.frames.specs.Tables.{cell}
use Rattle.std.proofs.Common.{◌≡◌, true}
use Rattle.counting.specs.Counting.{every}
use Rattle.frames.proofs.ranges.grades_in_range.Given as goal

abbrev pub invariant-loop-h : goal.invariant-loop-h
invariant-loop-h l = every l.h (grade_in_range (cell l.tables l.j)) ≡ true
