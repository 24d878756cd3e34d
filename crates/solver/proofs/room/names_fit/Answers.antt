-- `solver::room::names_fit` meets its contract: each method is asked in turn.
-- Assumes nothing.
use Rattle.std.proofs.Common.{rules, ◌≡◌, ℕ, refl, arith, Bool, true, false, leb, le-leb, ap}
use native.Mathlib.Nat.{zero-add}
use Rattle.std.proofs.lemmas.Bool.{lt-leb}
use Rattle.std.proofs.lemmas.Iterator.{cases_from_all, YieldsList-from_range}
use Rattle.frames.specs.Layout.{layout}
use Rattle.frames.specs.Tables.{cell, method_of}
use Rattle.solver.specs.Room.{names_fit}
use Rattle.solver.specs.Laws.Room.{every_asked}
use Rattle.solver.proofs.room.names_fit.Goals as goal

pub returns : goal.returns
unfolding names_fit
returns c = let a = c.args in
    let fits : (ℕ → Bool) = λ m. leb (method_of (cell a.tables.now) m).k layout.most_names in
    let asked = cases_from_all _ _ _ (λ m. fits m ≡ true) (λ m. fits m ≡ false)
    c.all.ensures.ran (YieldsList-from_range 0 a.methods a.methods refl (omega arith)) (λ x q k. search (rules, le-leb)) (λ x q k. search (rules, lt-leb)) in
    every_asked 0 a.methods fits fits c.all.result (λ i. ap fits (zero-add i)) asked
