-- `name_children` meets its contract: X, Y and Z are named one after the other.
-- Assumes nothing.
use Rattle.std.proofs.Common.{sym, ap, ◌∙◌, refl, ◌≡◌}
use Rattle.frames.specs.Layout.{layout}
use Rattle.frames.specs.Frames.{two}
use Rattle.frames.specs.Laws.Links.{children-read, named-then, named-fails}
use Rattle.frames.specs.Laws.Ops.{children_named}
use Rattle.frames.specs.Ops.{number_of}
use Rattle.frames.specs.Ranges.{children_listed}
use Rattle.frames.specs.Tables.{cell}
use Rattle.frames.specs.declared.ops.Op.{Op}
use Rattle.frames.proofs.links.name_children.Goals as goal
use Rattle.frames.proofs.links.name_children.Goals.{then-name_child, else-name_child}

pub returns-then-name_child-2 : goal.returns-then-name_child-2
returns-then-name_child-2 c = let r = cell c.args.tables.now c.args.j in
    let l : c.children-listed.result ≡ children_listed (r layout.op_at) = c.children-listed.ensures ∙ (ap (λ (o : Op). children_listed (number_of o)) c.op_at.ensures ∙ children_named (r layout.op_at)) in
    elim c.if-name_child.branch [
      | then-name_child w ↦
          rw (children-read r _ _ _ _ _ _ _ l c.two.ensures.is w.two-then-name_child.ensures.is c.two-then-name_child-2.ensures.is c.then_some.ensures w.then_some-then-name_child.ensures c.then_some-then-name_child-2.ensures)
          (named-then _ _ _ _ _ _ _ _
          (named-then _ _ _ _ _ _ _ _ c.name_child.ensures w.if-name_child.true w.name_child-then-name_child.ensures)
          (sym w.value-is ∙ c.if-name_child-2.true)
          (rw w.named-is at c.name_child-then-name_child-2.ensures))
      | else-name_child w ↦ cc (w.value-is, w.if-name_child.false, c.if-name_child-2.true)
    ]

pub returns-else-name_child-2 : goal.returns-else-name_child-2
returns-else-name_child-2 c = let r = cell c.args.tables.now c.args.j in
    let l : c.children-listed.result ≡ children_listed (r layout.op_at) = c.children-listed.ensures ∙ (ap (λ (o : Op). children_listed (number_of o)) c.op_at.ensures ∙ children_named (r layout.op_at)) in
    rw c.if-name_child-2.false
    (elim c.if-name_child.branch [
      | then-name_child w ↦
          rw (children-read r _ _ _ (two r layout.ZAt) _ _ _ l c.two.ensures.is w.two-then-name_child.ensures.is refl c.then_some.ensures w.then_some-then-name_child.ensures refl)
          (named-fails _ _ _ _ _ _ _
          (named-then _ _ _ _ _ _ _ _ c.name_child.ensures w.if-name_child.true w.name_child-then-name_child.ensures)
          (sym w.value-is ∙ c.if-name_child-2.false))
      | else-name_child w ↦
          rw (children-read r _ _ (two r layout.YAt) (two r layout.ZAt) _ _ _ l c.two.ensures.is refl refl c.then_some.ensures refl refl)
          (named-fails _ _ _ _ _ _ _ (named-fails _ _ _ c.args.named.now _ _ _ c.name_child.ensures w.if-name_child.false) refl)
    ])
