-- `explainer::lower::node_grade` meets its contract.
-- Assumes nothing.
use mathlib.Core.Path.{◌≡◌, sym, ap, ◌∙◌}
use native.Mathlib.Omega.{arith}
use Prim.Native.Nat.{ℕ}
use Rattle.std.proofs.Common.{Option, unwrap_or}
use Rattle.frames.specs.Ops.{op_named}
use mathlib.Core.Bool.{not}
use Rattle.frames.specs.Program.{Node, method_at, node_at}
use Rattle.grades.specs.HeldSets.{held}
use Rattle.meaning.specs.Meaning.{op_of, first_name, below}
use Rattle.solver.specs.Flat.{program_in, tables_in}
use Rattle.solver.specs.Nodes.{meant, listed_child, no_child, own_grade}
use Rattle.solver.specs.Laws.Engine.{assembled, child-or, meant_named}
use Rattle.explainer.specs.Code.Lower.{child_grade}
use Rattle.explainer.proofs.Laws.Lower.{node-known, nodes-few, under-is, under-inside, under-few, child-known}
use Rattle.explainer.proofs.lower.node_grade.Goals as goal

pub overflow_add-first : goal.overflow_add-first
overflow_add-first c = let a = c.args in
    let known = nodes-few a.tables.now c.requires.read.0 a.m a.first c.requires.read.1 a.n c.requires.n_in_bounds.0 in omega (arith, known, c.requires.read.1.small)

pub child_grade-x-requires : goal.child_grade-x-requires
child_grade-x-requires c = let a = c.args in
    let given = c.requires in
    let r = c.parts_of-parts in
    (given.lower.size, under-few a.tables.now given.read.0 a.m a.first given.read.1 a.n given.n_in_bounds.0 (tables_in a.grades.now) a.set given.n_in_bounds.1 r.result r.ensures)

pub child_grade-y-requires : goal.child_grade-y-requires
child_grade-y-requires c = let a = c.args in
    let given = c.requires in
    let r = c.parts_of-parts in
    (given.lower.size, under-few a.tables.now given.read.0 a.m a.first given.read.1 a.n given.n_in_bounds.0 (tables_in a.grades.now) a.set given.n_in_bounds.1 r.result r.ensures)

pub child_grade-z-requires : goal.child_grade-z-requires
child_grade-z-requires c = let a = c.args in
    let given = c.requires in
    let r = c.parts_of-parts in
    (given.lower.size, under-few a.tables.now given.read.0 a.m a.first given.read.1 a.n given.n_in_bounds.0 (tables_in a.grades.now) a.set given.n_in_bounds.1 r.result r.ensures)

pub returns : goal.returns
returns c = let a = c.args in
    let given = c.requires in
    let t = a.tables.now in
    let node = node-known t given.read.0 a.m a.first given.read.1 a.n given.n_in_bounds.0 in
    let of = c.parts_of-parts.ensures in
    let g = tables_in a.grades.now in
    let r = c.parts_of-parts.result in
    let here = node_at (method_at (program_in t) a.m) a.n in
    let under = under-is t given.read.0 a.m a.first given.read.1 a.n given.n_in_bounds.0 g a.set given.n_in_bounds.1 r of in
    let inside = under-inside t given.read.0 a.m a.first given.read.1 a.n given.n_in_bounds.0 g a.set given.n_in_bounds.1 r of in
    let graded = child-known t given.read.0 a.m a.first given.read.1 a.n given.n_in_bounds.0 g a.lower.now given.lower in
    let one : (i : ℕ) (child : Option ℕ) (v : ℕ) → child ≡ listed_child here i → v ≡ child_grade a.lower.now (unwrap_or child no_child) r.under
    → v ≡ below (program_in t) g (node_at (method_at (program_in t) a.m)) a.n (unwrap_or child no_child) r.under
    = λ i child v e is.
    let number = ap (λ (o : Option ℕ). unwrap_or o no_child) e ∙ child-or here i in
    is ∙ ap (λ (x : ℕ). child_grade a.lower.now x r.under) number ∙ graded i r.under inside
    ∙ ap (λ (x : ℕ). below (program_in t) g (node_at (method_at (program_in t) a.m)) a.n x r.under) (sym number) in
    let x = of.x ∙ ap (λ (y : Node). listed_child y 0) node in
    let y = of.y ∙ ap (λ (y : Node). listed_child y 1) node in
    let z = of.z ∙ ap (λ (y : Node). listed_child y 2) node in
    assembled (program_in t) g (node_at (method_at (program_in t) a.m)) a.n a.set r.under r.own
    c.child_grade-x.result c.child_grade-y.result c.child_grade-z.result c.combined.result r.x r.y r.z (meant r.op) r.newly
    (omega (arith, nodes-few t given.read.0 a.m a.first given.read.1 a.n given.n_in_bounds.0))
    (ap meant (of.op ∙ ap (λ (y : Node). op_named y.op) node) ∙ meant_named here.op) (of.newly ∙ ap (λ (y : Node). not (held a.set (first_name y.names))) node) under x y z
    (of.own ∙ ap (λ (y : Node). own_grade (program_in t) g (op_of y.op) y a.set) node)
    (one 0 r.x _ x c.child_grade-x.ensures) (one 1 r.y _ y c.child_grade-y.ensures) (one 2 r.z _ z c.child_grade-z.ensures)
    c.combined.ensures
