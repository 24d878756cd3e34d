-- `nodes_before` meets its contract: the loop's total is that of the methods passed.
-- Assumes nothing.
use Rattle.std.proofs.Common.{arith, ◌∙◌}
use Rattle.frames.specs.Tables.{cell}
use Rattle.frames.specs.Laws.Tables.{nodes-before-more, nodes-length}
use Rattle.frames.proofs.accessors.nodes_before.Goals as goal

pub loop-i-preserved : goal.loop-i-preserved
loop-i-preserved c = let f = cell c.args.tables.now in
    let i = c.loop-i.i in
    let e = c.node_count-total.ensures.is ∙ nodes-length f i in
    (omega (arith, e, nodes-before-more f i), omega arith)
