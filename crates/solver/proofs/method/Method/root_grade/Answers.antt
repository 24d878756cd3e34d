-- `solver::method::Method::root_grade` meets its contract: the method's last node, among the nodes from its first frame on.
-- Assumes nothing.
use mathlib.Core.Path.{◌≡◌, sym, ap, ap₂, ◌∙◌}
use native.Mathlib.Omega.{arith}
use Prim.Native.Nat.{ℕ, ◌-◌}
use Rattle.frames.specs.Laws.Tables.{nodes-length}
use Rattle.frames.specs.Tables.{cell, first_frame}
use Rattle.frames.specs.Links.{node_count}
use Rattle.meaning.specs.Meaning.{meaning}
use Rattle.solver.specs.Code.Engine.{nodes_from}
use Rattle.solver.specs.Laws.Flat.{root-last, root_none, node-frame, frames-rise}
use native.Mathlib.Nat.{zero-add}
use Rattle.solver.specs.Flat.{program_in, tables_in}
use Rattle.solver.proofs.method.Method.root_grade.Goals as goal

pub returns-then-nodes-eq0 : goal.returns-then-nodes-eq0
returns-then-nodes-eq0 c = let a = c.args in
    root_none a.self.tables.now (tables_in a.grades.now) a.self.number c.args.self.at.method a.set
    (sym (c.node_count-nodes.ensures.is ∙ nodes-length (cell a.self.tables.now) a.self.number) ∙ c.if-nodes-eq0.true)

pub node_grade-requires-clause-tables_bound : goal.node_grade-requires-clause-tables_bound
node_grade-requires-clause-tables_bound c = let a = c.args in
    let t = a.self.tables.now in
    let at = c.args.self.at in
    let count : c.node_count-nodes.result ≡ node_count (cell t) a.self.number = c.node_count-nodes.ensures.is ∙ nodes-length (cell t) a.self.number in (
      omega (arith, at.frame, frames-rise t 0 a.self.number, ap (first_frame (cell t)) (zero-add a.self.number)),
      omega (arith, at.frame, node-frame t a.self.number (c.node_count-nodes.result - 1) at.method (omega arith)),
      at.small,
      omega (arith, c.node_count-nodes.ensures.small),
    )

pub returns : goal.returns
returns c = let a = c.args in
    let t = a.self.tables.now in
    let at = c.args.self.at in
    let count : c.node_count-nodes.result ≡ node_count (cell t) a.self.number = c.node_count-nodes.ensures.is ∙ nodes-length (cell t) a.self.number in
    c.node_grade.ensures
    ∙ ap₂ (λ (f n : ℕ). meaning (program_in t) (tables_in a.grades.now) (nodes_from t f) (n - 1) a.set) at.frame count
    ∙ root-last t (tables_in a.grades.now) a.self.number at.method a.set (omega arith)
