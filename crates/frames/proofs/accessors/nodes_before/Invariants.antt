use Rattle.frames.specs.Tables.{cell}
use Rattle.frames.specs.Links.{nodes_before}
use Rattle.std.proofs.Common.{◌≡◌, ◌≤◌, ◌*◌}
use Rattle.frames.proofs.accessors.nodes_before.Given as goal

abbrev pub invariant-loop-i : goal.invariant-loop-i
invariant-loop-i l = (l.total ≡ nodes_before (cell l.tables) l.i) × (l.total ≤ 65536 * l.i)
