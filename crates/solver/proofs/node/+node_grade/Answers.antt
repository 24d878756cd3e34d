-- The proof of the cycle of calls {node_grade, other_node_grade, grade_of_parts, child_grade}.
-- Assumes nothing.
use native.Mathlib.Omega.{arith}
use Rattle.std.proofs.Common.{rules, ℕ, List, ◌+◌, ◌<◌, ◌≤◌, ◌^◌, ◌≡◌, sym, ap, ◌∙◌, subst}
use Rattle.std.specs.Prelude.{Option}
use Rattle.std.specs.Option.{unwrap_or}
use Rattle.grades.specs.HeldSets.{mask_names}
use Rattle.frames.specs.Program.{Node, Program}
use Rattle.meaning.specs.Meaning.{Assignment, first_name, below}
use Rattle.solver.specs.Code.Engine.{nodes_from, first_node_frame, last_frame, LocksFit}
use Rattle.solver.specs.Nodes.{meant, no_child}
use Rattle.meaning.proofs.Laws.Meaning.{below-meaning, below_none}
use Rattle.solver.specs.Laws.Engine.{assembled, mask-set, meant_named}
use Rattle.solver.specs.Flat.{program_in, tables_in}
use Rattle.solver.proofs.node.+node_grade.Goals as goal

pub child_grade-returns-in-Some : goal.child_grade-returns-in-Some
child_grade-returns-in-Some t c = let a = c.args in
    let p : Program = program_in a.tables.now in
    let g : Assignment = tables_in a.grades.now in
    c.node_grade.ensures ∙ sym (below-meaning p g (nodes_from a.tables.now a.first) a.n c.in-Some.child a.set c.if-child-n.true)
    ∙ ap (λ (o : Option ℕ). below p g (nodes_from a.tables.now a.first) a.n (unwrap_or o no_child) a.set) (sym c.in-Some.is)

pub child_grade-returns-in_default : goal.child_grade-returns-in_default
child_grade-returns-in_default t c = let a = c.args in
    let p : Program = program_in a.tables.now in
    let g : Assignment = tables_in a.grades.now in
    sym (below_none p g (nodes_from a.tables.now a.first) a.n c.in-Some.child a.set c.if-child-n.false)
    ∙ ap (λ (o : Option ℕ). below p g (nodes_from a.tables.now a.first) a.n (unwrap_or o no_child) a.set) (sym c.in-Some.is)

pub child_grade-returns-in_default-2 : goal.child_grade-returns-in_default-2
child_grade-returns-in_default-2 t c = let a = c.args in
    let p : Program = program_in a.tables.now in
    let g : Assignment = tables_in a.grades.now in
    sym (below_none p g (nodes_from a.tables.now a.first) a.n no_child a.set (omega (arith, c.requires.tables_bound.3)))
    ∙ ap (λ (o : Option ℕ). below p g (nodes_from a.tables.now a.first) a.n (unwrap_or o no_child) a.set) (sym c.in_default.is)

pub grade_of_parts-returns : goal.grade_of_parts-returns
grade_of_parts-returns t c = let a = c.args in
    let r = a.node in
    let nodes : (ℕ → Node) = nodes_from a.tables.now a.first in
    let given = c.requires in
    let of = given.parts in
    let lock : ((nodes a.n).op ≡ 6 → first_name (nodes a.n).names < mask_names) = given.locks_fit (a.first + a.n) (omega (arith, given.tables_bound.0)) given.tables_bound.1 in
    assembled (program_in a.tables.now) (tables_in a.grades.now) nodes a.n a.set r.under r.own
    c.child_grade-x.result c.child_grade-y.result c.child_grade-z.result c.combined.result r.x r.y r.z (meant r.op) r.newly
    (omega (arith, given.tables_bound.3)) (ap meant of.op ∙ meant_named (nodes a.n).op) of.newly (of.under ∙ mask-set (nodes a.n).op (nodes a.n).names a.set lock)
    of.x of.y of.z of.own c.child_grade-x.ensures c.child_grade-y.ensures c.child_grade-z.ensures c.combined.ensures

pub node_grade-grade_of_parts-requires : goal.node_grade-grade_of_parts-requires
node_grade-grade_of_parts-requires t c = let a = c.args in
    let same : a.tables.now ≡ c.in-Ok.whole.now = sym c.in-Ok.ensures.1.same in
    let bound : (List ℕ → Type 0) = λ tables. (first_node_frame tables ≤ a.first) × (a.first + a.n < last_frame tables) × (a.first < 2 ^ 32) × (a.n < 65536) in
    (search rules, (subst LocksFit same c.requires.locks_fit, (subst bound same c.requires.tables_bound, c.parts_of-node.ensures)))
