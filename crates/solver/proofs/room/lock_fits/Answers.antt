-- `solver::room::lock_fits` meets its contract: op 6 is the synchronised one.
-- Assumes nothing.
use Rattle.std.proofs.Common.{◌≡◌, sym, ap, ap₂, ◌∙◌, Bool, true, false, not, ◌||◌, get_or}
use borrow.Author.Tests.{ne_eqb}
use Rattle.std.proofs.Math.Dec.{eqb, ltb}
use Rattle.grades.specs.HeldSets.{mask_names}
use Rattle.frames.specs.Ops.{op_named, number_of}
use Rattle.frames.specs.declared.ops.Op.{Op}
use Rattle.solver.specs.Nodes.{node_in}
use Rattle.solver.specs.Room.{lock_fits}
use Rattle.solver.specs.Laws.Engine.{six_named}
use Rattle.solver.proofs.room.lock_fits.Goals as goal

pub returns-in-Synchronised : goal.returns-in-Synchronised
unfolding lock_fits
returns-in-Synchronised c = let node = node_in c.args.tables.now c.args.j in
    let six : true ≡ eqb node.op 6 = ap (λ (o : Op). eqb (number_of o) 6) (sym c.in-Synchronised.is ∙ c.op_at.ensures) ∙ six_named node.op in
    ap₂ ltb c.name.ensures.is c.from.ensures ∙ ap (λ (b : Bool). not b || ltb (get_or node.names 0 0) mask_names) six

pub returns-in_default : goal.returns-in_default
unfolding lock_fits op_named
returns-in_default c = let node = node_in c.args.tables.now c.args.j in
    let other : eqb node.op 6 ≡ false = ne_eqb node.op 6 (λ e. c.in_default.not-Synchronised (c.op_at.ensures ∙ ap op_named e)) in
    sym (ap (λ (b : Bool). not b || ltb (get_or node.names 0 0) mask_names) other)
