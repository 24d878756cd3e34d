-- `solver::node::names_of` meets its contract.
-- Assumes nothing.
use Rattle.solver.specs.Laws.Views.{four-names}
use Rattle.solver.proofs.node.names_of.Goals as goal

pub returns : goal.returns
returns c = cc (four-names c.args.tables.now c.args.j, c.name.ensures.is, c.name-2.ensures.is, c.name-3.ensures.is, c.name-4.ensures.is)
