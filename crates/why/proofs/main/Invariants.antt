-- The first argument is the program's name, and each question leaves fewer arguments.
use Rattle.std.proofs.Common.{◌-◌, ◌<◌}
use Rattle.why.proofs.main.Given as goal

abbrev pub invariant-loop-i : goal.invariant-loop-i
invariant-loop-i l = 0 < l.i

abbrev pub decreases-loop-i : goal.decreases-loop-i
decreases-loop-i l = l.count - l.i
