-- The measure is how many names are left; with as many left, `largest_entry` comes before `entry_from`.
use Rattle.std.proofs.Common.{length, ◌+◌, ◌*◌}
use Rattle.solver.proofs.node.+largest_entry.Given as goal

abbrev pub decreases-largest_entry : goal.decreases-largest_entry
decreases-largest_entry l = 2 * length l.names.now

abbrev pub decreases-entry_from : goal.decreases-entry_from
decreases-entry_from l = 2 * length l.names.now + 1
