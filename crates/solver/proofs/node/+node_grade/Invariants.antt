-- The measure is the node's number, which falls to each child; with one number, what is called comes before what calls it.
use Rattle.std.proofs.Common.{◌+◌, ◌*◌}
use Rattle.solver.proofs.node.+node_grade.Given as goal

abbrev pub decreases-child_grade : goal.decreases-child_grade
decreases-child_grade l = 4 * l.n

abbrev pub decreases-grade_of_parts : goal.decreases-grade_of_parts
decreases-grade_of_parts l = 4 * l.n + 1

abbrev pub decreases-other_node_grade : goal.decreases-other_node_grade
decreases-other_node_grade l = 4 * l.n + 2

abbrev pub decreases-node_grade : goal.decreases-node_grade
decreases-node_grade l = 4 * l.n + 3
