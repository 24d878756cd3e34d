-- One step more is put into bytes.
-- Assumes nothing.
use Rattle.std.proofs.Common.{◌∙◌, arith}
use Rattle.explainer.proofs.Laws.Lent.{bytes-next}
use Rattle.explainer.proofs.bytes.U8Slot.put.Goals as goal

pub returns-clause-put : goal.returns-clause-put
returns-clause-put c steps old e is =
    bytes-next steps c.args.step old c.args.slots.now c.copy_from_slice.new.self c.args.i _ e is c.requires (c.copy_from_slice.ensures.after ∙ c.step_bytes.ensures) (omega arith)
