-- `solver::node::field_grade` meets its contract: the field is the program's, and one that it lacks permits nothing.
-- Assumes nothing.
use mathlib.Core.Path.{sym, ap, ◌∙◌}
use native.Mathlib.Omega.{arith}
use Prim.Native.Nat.{◌≤◌}
use Rattle.solver.specs.Nodes.{node_in}
use Rattle.frames.specs.Frames.{fields_in}
use Rattle.frames.specs.Program.{Field}
use Rattle.frames.specs.Tables.{cell}
use Rattle.meaning.specs.Meaning.{field_access}
use Rattle.solver.specs.Laws.Views.{field_past, no-field-access, access-read}
use Rattle.solver.proofs.node.field_grade.Goals as goal

pub returns-then-fields-u : goal.returns-then-fields-u
returns-then-fields-u c = let a = c.args in
    let node = node_in a.tables.now a.j in
    let past : fields_in (cell a.tables.now) ≤ node.U = omega (arith, c.fields.ensures.is, c.used-u.ensures.is) in
    sym (ap (λ (f : Field). field_access f a.write node.names a.set) (field_past a.tables.now node.U past)
    ∙ no-field-access a.write node.names a.set)

pub returns : goal.returns
returns c = let a = c.args in
    access-read a.tables.now a.j c.used-u.result c.width.result c.guard.result c.name.result c.access.result
    a.write c.holds-held.result a.set c.used-u.ensures.is (omega (arith, c.fields.ensures.is))
    c.width.ensures.is c.guard.ensures.is c.name.ensures.is c.holds-held.ensures c.access.ensures
