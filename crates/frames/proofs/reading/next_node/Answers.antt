-- `next_node` meets its contract.
-- Assumes nothing.
use Rattle.frames.specs.Laws.Tables.{nodes-length}
use Rattle.frames.specs.Laws.Steps.{next-over, next-on}
use Rattle.frames.specs.Tables.{cell}
use mathlib.Core.Path.{sym, ◌∙◌}
use Rattle.frames.proofs.reading.next_node.Goals as goal

pub returns-then-number-node_count : goal.returns-then-number-node_count
returns-then-number-node_count c = next-over (cell c.args.tables.now) c.args.stand (c.if-number-node_count.true ∙ (c.node_count.ensures.is ∙ nodes-length (cell c.args.tables.now) c.args.stand.method))

pub returns-else-number-node_count : goal.returns-else-number-node_count
returns-else-number-node_count c = next-on (cell c.args.tables.now) c.args.stand (λ e. c.if-number-node_count.false (e ∙ sym (c.node_count.ensures.is ∙ nodes-length (cell c.args.tables.now) c.args.stand.method)))
