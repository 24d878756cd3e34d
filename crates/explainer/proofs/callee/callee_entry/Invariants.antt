use Rattle.frames.specs.Program.{method_at}
use Rattle.reasons.specs.Steps.{tables_before}
use Rattle.solver.specs.Flat.{program_in}
use Rattle.solver.specs.Nodes.{node_in}
use Rattle.explainer.specs.Code.Callee.{Best}
use Rattle.explainer.proofs.callee.callee_entry.Given as goal

abbrev pub invariant-loop-inside : goal.invariant-loop-inside
invariant-loop-inside l =
    Best (tables_before (program_in l.tables) l.round l.u) (node_in l.tables l.j).names (method_at (program_in l.tables) l.u).k l.set l.inside l.best
