use Rattle.solver.specs.Flat.{tables_in}
use Rattle.explainer.specs.Code.Lower.{Lower}
use Rattle.explainer.proofs.lower.grade_nodes.Given as goal

abbrev pub invariant-loop-n : goal.invariant-loop-n
invariant-loop-n l = Lower l.tables (tables_in l.grades) l.m l.n l.lower
