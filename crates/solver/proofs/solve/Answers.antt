-- `solver::solve` meets its contract: what the tables settle to, if there is room for them.
-- Assumes nothing.
use Rattle.solver.specs.Solved.{solved}
use Rattle.solver.proofs.solve.Goals as goal

pub returns-in_err-broken : goal.returns-in_err-broken
unfolding solved
returns-in_err-broken c = let none = c.in_err-broken.ensures in rw none c.from_residual.ensures

pub returns : goal.returns
unfolding solved
returns c = let some = c.in_ok-broken.ensures in rw some.0 cc
