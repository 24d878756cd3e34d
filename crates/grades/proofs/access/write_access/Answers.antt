-- `grades::access::write_access` meets its contract: each arm is the rule's own entry for that guard.
-- Assumes nothing.
use Rattle.grades.specs.Access.{write_access}
use Rattle.grades.proofs.access.write_access.Goals as goal

pub returns-then-held : goal.returns-then-held
unfolding write_access
returns-then-held c = rw (c.in-WriteGuarded.is, c.if-held.true) c.unprotected.ensures
