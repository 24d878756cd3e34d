-- `explainer::seen::see` meets its contract.
-- Assumes nothing.
use mathlib.Core.Path.{ap}
use native.Mathlib.Omega.{arith}
use Prim.Native.Nat.{ℕ, ◌+◌, ◌*◌}
use lib.ListN.{get_or}
use Rattle.frames.specs.Layout.{layout}
use mathlib.Core.List.{[]}
use Rattle.frames.specs.Ops.{number_of}
use Rattle.solver.specs.Flat.{tables_in}
use Rattle.solver.specs.Nodes.{meant}
use Rattle.explainer.proofs.Laws.Lower.{sets-few, under-few}
use Rattle.explainer.proofs.Laws.Places.{node-few}
use Rattle.explainer.proofs.Laws.Seen.{own-few}
use Rattle.explainer.proofs.Laws.See.{listed-few, seen_at}
use Rattle.explainer.proofs.seen.see.Goals as goal

pub overflow_add-at : goal.overflow_add-at
overflow_add-at c = let a = c.args in
    let t = a.tables.now in
    let ready = c.requires.ready.0 in
    let placed = c.requires.ready.1 in
    let few = node-few t a.rises.now ready a.at placed in
    omega (arith, placed.first.small)

pub overflow_add-result : goal.overflow_add-result
overflow_add-result c = omega (arith, c.own_count.ensures, own-few (meant c.parts_of-parts.result.op), c.children-listed.ensures, listed-few (number_of c.parts_of-parts.result.op))

pub part_grades-requires : goal.part_grades-requires
part_grades-requires c = let a = c.args in
    let t = a.tables.now in
    let ready = c.requires.ready.0 in
    let placed = c.requires.ready.1 in
    (c.requires.node_lower.size, under-few t ready.read a.at.method a.at.first placed.first a.at.node placed.fits.node (tables_in []) a.at.set placed.fits.set c.parts_of-parts.result c.parts_of-parts.ensures, omega (arith, c.children-listed.ensures, listed-few (number_of c.parts_of-parts.result.op)))

pub overflow_mul-result : goal.overflow_mul-result
overflow_mul-result c = let a = c.args in
    let t = a.tables.now in
    let ready = c.requires.ready.0 in
    let placed = c.requires.ready.1 in
    let few = node-few t a.rises.now ready a.at placed in
    omega arith

pub overflow_add-result-2 : goal.overflow_add-result-2
overflow_add-result-2 c = let a = c.args in
    let t = a.tables.now in
    let ready = c.requires.ready.0 in
    let placed = c.requires.ready.1 in
    let few = node-few t a.rises.now ready a.at placed in
    omega (arith, placed.fits.set, sets-few t ready.read a.at.method a.at.first placed.first)

pub bounds-lower-at : goal.bounds-lower-at
bounds-lower-at c = let a = c.args in
    let t = a.tables.now in
    let ready = c.requires.ready.0 in
    let placed = c.requires.ready.1 in
    let few = node-few t a.rises.now ready a.at placed in
    omega (arith, placed.fits.set, sets-few t ready.read a.at.method a.at.first placed.first, c.requires.node_lower.size)

pub returns : goal.returns
returns c = let a = c.args in
    let t = a.tables.now in
    let ready = c.requires.ready.0 in
    let placed = c.requires.ready.1 in
    let few = node-few t a.rises.now ready a.at placed in
    let grades = c.part_grades.ensures in
    seen_at t a.rises.now ready a.at placed (tables_in []) c.parts_of-parts.result c.parts_of-parts.ensures c.own_entry-own.result.grade c.own_entry-own.result.set c.own_entry-own.ensures
    a.lower.now c.requires.node_lower c.children-listed.result (c.children-listed.result + c.own_count.result) _ c.part_grades.result
    c.children-listed.ensures (ap (λ (n : ℕ). c.children-listed.result + n) c.own_count.ensures) grades.0 grades.1 grades.2.0 grades.2.1 grades.2.2 (ap (λ (h : ℕ). get_or a.lower.now (layout.grades * a.at.node + h) 0) c.from.ensures)
