-- `explainer::lower::grade_nodes` meets its contract.
-- Assumes nothing.
use Rattle.std.proofs.Common.{◌≡◌, ℕ, length, subst, arith}
use Rattle.frames.specs.Program.{method_at}
use Rattle.solver.specs.Flat.{program_in, tables_in}
use Rattle.explainer.specs.Code.Lower.{Lower}
use Rattle.explainer.proofs.Laws.Lower.{nodes-read, sets-read}
use Rattle.explainer.proofs.lower.grade_nodes.Goals as goal

pub grade_node-requires : goal.grade_node-requires
grade_node-requires c = let a = c.args in
    let given = c.requires in
    let count = nodes-read a.tables.now given.read.0 a.m a.first given.read.1 c.node_count-count.result c.node_count-count.ensures.is in
    let sets = sets-read a.tables.now given.read.0 a.m a.first given.read.1 c.k.result c.entries-sets.result c.k.ensures.is c.entries-sets.ensures in
    record { read = given.read; n_in_bounds = (omega arith, sets); lower = c.loop-n.invariant }

pub returns : goal.returns
returns c = let a = c.args in
    let given = c.requires in
    let count = nodes-read a.tables.now given.read.0 a.m a.first given.read.1 c.node_count-count.result c.node_count-count.ensures.is in
    let whole : c.loop-n.n ≡ length (method_at (program_in a.tables.now) a.m).nodes = omega arith in
    subst (λ (n : ℕ). Lower a.tables.now (tables_in a.grades.now) a.m n c.loop-n.lower) whole c.loop-n.invariant
