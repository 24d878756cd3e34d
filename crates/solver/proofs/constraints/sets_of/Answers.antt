-- `solver::constraints::sets_of` meets its contract: as many sets as the names that were taken have.
-- Assumes nothing.
use Rattle.solver.specs.Laws.Findings.{sets-read}
use Rattle.solver.proofs.constraints.sets_of.Goals as goal

pub returns : goal.returns
returns c = let a = c.args in
    sets-read a.tables.now c.requires a.u c.names_taken.result c.entries.result c.names_taken.ensures c.entries.ensures
