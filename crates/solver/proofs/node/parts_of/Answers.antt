-- `solver::node::parts_of` meets its contract: each part is what a call gives for it.
-- Assumes nothing.
use Rattle.std.proofs.Common.{rules, ◌≡◌, sym, ap, ap₂, ◌∙◌, ℕ, not, cond, None, Some, ltb}
use Rattle.grades.specs.HeldSets.{held}
use Rattle.frames.specs.Ranges.{children_listed}
use Rattle.frames.specs.Laws.Ops.{named_number, children_named}
use Rattle.frames.specs.Ops.{op_named, number_of}
use Rattle.frames.specs.declared.ops.Op.{Op}
use Rattle.meaning.specs.Meaning as means
use Rattle.meaning.specs.Meaning.{first_name}
use Rattle.solver.specs.Nodes.{node_in, meant, own_grade, mask_set}
use Rattle.solver.specs.Laws.Views.{first-name}
use Rattle.solver.specs.Laws.Engine.{meant_named, mask_named, child-first, child-second, child-third}
use Rattle.solver.specs.Flat.{program_in, tables_in}
use Rattle.solver.proofs.node.parts_of.Goals as goal

pub returns : goal.returns
returns c = let a = c.args in
    let node = node_in a.tables.now a.j in
    let op : c.op_at-op.result ≡ op_named node.op = c.op_at-op.ensures in
    let name : c.name-name.result ≡ first_name node.names = c.name-name.ensures.is ∙ sym (first-name a.tables.now a.j) in
    let listed : c.children-listed.result ≡ children_listed node.op
    = c.children-listed.ensures ∙ ap (λ (o : Op). children_listed (number_of o)) op ∙ children_named node.op in
    let x : c.then.result ≡ cond (ltb 0 c.children-listed.result) (Some node.X) None = search rules in
    let y : c.then-2.result ≡ cond (ltb 1 c.children-listed.result) (Some node.Y) None = search rules in
    let z : c.then-3.result ≡ cond (ltb 2 c.children-listed.result) (Some node.Z) None = search rules in
    record {
      op = op;
      number = ap number_of op ∙ named_number node.op;
      newly = ap not (c.holds.ensures ∙ ap (held a.set) name);
      under = c.set_under.ensures ∙ ap₂ (λ (o : Op) (n : ℕ). mask_set (number_of o) n a.set) op name ∙ mask_named node.op (first_name node.names) a.set;
      x = x ∙ ap (λ (n : ℕ). cond (ltb 0 n) (Some node.X) None) listed ∙ sym (child-first node);
      y = y ∙ ap (λ (n : ℕ). cond (ltb 1 n) (Some node.Y) None) listed ∙ sym (child-second node);
      z = z ∙ ap (λ (n : ℕ). cond (ltb 2 n) (Some node.Z) None) listed ∙ sym (child-third node);
      own = c.own_grade.ensures ∙ ap (λ (o : means.Op). own_grade (program_in a.tables.now) (tables_in a.grades.now) o node a.set) (ap meant op ∙ meant_named node.op);
    }
