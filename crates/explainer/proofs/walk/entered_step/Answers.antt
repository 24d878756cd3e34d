-- `explainer::walk::entered_step` meets its contract.
-- Assumes nothing.
use Rattle.std.proofs.Common.{T, sym, subst}
use Rattle.explainer.specs.Code.Places.{NodeLower}
use Rattle.explainer.proofs.walk.entered_step.Goals as goal
use Rattle.explainer.proofs.walk.entered_step.Goals.{then-not-entered, else-not-entered}

pub step_at-requires-clause-node_lower : goal.step_at-requires-clause-node_lower
step_at-requires-clause-node_lower c =
    elim c.if-not-entered.branch [
      | then-not-entered w ↦ subst (NodeLower c.args.tables.now c.args.at) (sym w.lower-is) w.enter.ensures
      | else-not-entered w ↦ subst (NodeLower c.args.tables.now c.args.at) (sym w.lower-is) (c.requires.lower_len.1 (subst T (sym w.if-not-entered.false) tt))
    ]

pub returns-clause-node_lower : goal.returns-clause-node_lower
returns-clause-node_lower c =
    elim c.if-not-entered.branch [
      | then-not-entered w ↦ subst (NodeLower c.args.tables.now c.args.at) (sym w.lower-is) w.enter.ensures
      | else-not-entered w ↦ subst (NodeLower c.args.tables.now c.args.at) (sym w.lower-is) (c.requires.lower_len.1 (subst T (sym w.if-not-entered.false) tt))
    ]
