-- `solver::rises::solve_rises` meets its contract: what the tables settle to, if there is room for them.
-- Assumes nothing.
use Rattle.solver.specs.Rises.{risen_in, rises}
use Rattle.solver.proofs.rises.solve_rises.Goals as goal

pub returns-in_err-broken : goal.returns-in_err-broken
unfolding risen_in
returns-in_err-broken c = let none = c.in_err-broken.ensures in rw none c.from_residual.ensures

pub returns : goal.returns
unfolding risen_in rises
returns c = let some = c.in_ok-broken.ensures in rw some.0 cc
