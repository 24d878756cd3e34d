-- `solver::constraints::main_broken` meets its contract: the one entry decides.
-- Assumes nothing.
use mathlib.Core.Path.{ap, ◌∙◌}
use lib.Dec.{ltb}
use Rattle.grades.specs.Grades.{cmpd}
use Rattle.solver.specs.Laws.Findings.{main-is}
use Rattle.solver.specs.Flat.{program_in, tables_in}
use Rattle.solver.proofs.constraints.main_broken.Goals as goal

pub returns : goal.returns
returns c = let a = c.args in
    ap (ltb cmpd) c.entry_at.ensures ∙ main-is (program_in a.tables.now) (tables_in a.grades.now)
