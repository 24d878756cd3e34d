-- `solver::node::entry_of_callee` meets its contract: the names that the callee takes decide its sets.
-- Assumes nothing.
use Rattle.std.proofs.Common.{refl}
use Rattle.solver.specs.Flat.{tables_in}
use Rattle.solver.specs.Laws.Views.{entry_read}
use Rattle.solver.proofs.node.entry_of_callee.Goals as goal

pub returns : goal.returns
returns c = let a = c.args in
    entry_read a.tables.now (tables_in a.grades.now) a.j c.used-u.result c.names_taken-k.result c.entry_by_names.result a.set _ _
    c.used-u.ensures.is c.names_taken-k.ensures c.names_of.ensures refl c.entry_by_names.ensures
