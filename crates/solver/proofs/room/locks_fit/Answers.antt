-- `solver::room::locks_fit` meets its contract: each node is asked in turn.
-- Assumes nothing.
use Rattle.std.proofs.Common.{rules, ◌-◌, ◌+◌, ◌≡◌, refl, true, false}
use Rattle.std.proofs.lemmas.Iterator.{cases_from_all, YieldsList-from_range}
use Rattle.solver.specs.Room.{lock_fits, locks_fit}
use Rattle.solver.specs.Laws.Room.{every_asked}
use Rattle.solver.proofs.room.locks_fit.Goals as goal

pub returns : goal.returns
unfolding locks_fit
returns c = let a = c.args in
    let t = a.tables.now in
    let asked = cases_from_all _ _ _ (λ j. lock_fits t j ≡ true) (λ j. lock_fits t j ≡ false)
    c.all.ensures.ran (YieldsList-from_range a.first a.last (a.last - a.first) refl refl) (λ x q k. search rules) (λ x q k. search rules) in
    every_asked a.first (a.last - a.first) (lock_fits t) (λ i. lock_fits t (a.first + i)) c.all.result (λ i. refl) asked
