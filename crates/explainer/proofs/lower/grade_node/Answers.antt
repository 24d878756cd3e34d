-- `explainer::lower::grade_node` meets its contract.
-- Assumes nothing.
use Rattle.std.proofs.Common.{◌+◌, ◌*◌, ◌<◌, length, arith}
use Rattle.frames.specs.Layout.{layout}
use Rattle.solver.specs.Flat.{tables_in}
use Rattle.explainer.proofs.Laws.Lower.{sets-few, nodes-few, lower-store, row_more}
use Rattle.explainer.proofs.lower.grade_node.Goals as goal

pub overflow_cast-set : goal.overflow_cast-set
overflow_cast-set c = let a = c.args in
    let few = sets-few a.tables.now c.requires.read.0 a.m a.first c.requires.read.1 in omega arith

pub overflow_mul-lower : goal.overflow_mul-lower
overflow_mul-lower c = let a = c.args in
    let inside = nodes-few a.tables.now c.requires.read.0 a.m a.first c.requires.read.1 a.n c.requires.n_in_bounds.0 in omega arith

pub overflow_add-lower : goal.overflow_add-lower
overflow_add-lower c = let a = c.args in
    let few = sets-few a.tables.now c.requires.read.0 a.m a.first c.requires.read.1 in
    let inside = nodes-few a.tables.now c.requires.read.0 a.m a.first c.requires.read.1 a.n c.requires.n_in_bounds.0 in omega arith

pub bounds-lower-n : goal.bounds-lower-n
bounds-lower-n c = let a = c.args in
    let few = sets-few a.tables.now c.requires.read.0 a.m a.first c.requires.read.1 in
    let inside = nodes-few a.tables.now c.requires.read.0 a.m a.first c.requires.read.1 a.n c.requires.n_in_bounds.0 in omega arith

pub loop-set-preserved : goal.loop-set-preserved
loop-set-preserved c = let a = c.args in
    let given = c.requires in
    let t = a.tables.now in
    let at = c.loop-set in
    let few = sets-few t given.read.0 a.m a.first given.read.1 in
    let inside = nodes-few t given.read.0 a.m a.first given.read.1 a.n given.n_in_bounds.0 in
    let place : layout.grades * a.n + at.set < length at.lower = omega arith in
    record {
      lower = lower-store t given.read.0 a.m a.first given.read.1 (tables_in a.grades.now) a.n at.set c.node_grade-grade.result at.lower (omega arith) at.invariant.lower;
      row = row_more t given.read.0 a.m a.first given.read.1 (tables_in a.grades.now) a.n at.set c.node_grade-grade.result at.lower at.invariant.row place c.node_grade-grade.ensures;
    }
