-- `grades::access::read_access` meets its contract: each arm is the rule's own entry for that guard.
-- Assumes nothing.
use Rattle.grades.specs.Access.{read_access}
use Rattle.grades.proofs.access.read_access.Goals as goal

pub returns-else-held : goal.returns-else-held
unfolding read_access
returns-else-held c = rw (c.in-WriteGuarded.is, c.if-held.false) c.unprotected.ensures
