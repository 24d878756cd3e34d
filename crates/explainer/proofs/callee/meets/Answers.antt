-- `explainer::callee::meets` meets its contract.
-- Assumes nothing.
use Rattle.std.proofs.Common.{◌+◌, ◌≤◌, length, arith, rules}
use Rattle.std.proofs.iter.runs.Sources.{ranges}
use Rattle.counting.specs.Laws.Lists.{length-tabulate}
use Rattle.frames.specs.Layout.{layout}
use Rattle.frames.specs.Tables.{cell}
use Rattle.solver.specs.Nodes.{node_in}
use Rattle.explainer.proofs.Laws.Callee.{matching_iff}
use Rattle.explainer.proofs.callee.meets.Goals as goal

pub returns : goal.returns
returns c = let a = c.args in
    let four : a.k ≤ length (node_in a.tables.now a.j).names = omega (arith, length-tabulate layout.names (λ i. cell a.tables.now a.j (layout.names_at + i)), c.requires.0) in
    matching_iff a.k (node_in a.tables.now a.j).names a.set a.inside c.requires.1 four c.all.result (search (rules, ranges))
