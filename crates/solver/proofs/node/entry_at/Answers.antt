-- `solver::node::entry_at` meets its contract: past the room of a method, and past the end of the tables, stands 0.
-- Assumes nothing.
use borrow.Author.Tests.{lt-ltb, le-ltb}
use Rattle.std.proofs.lemmas.Option.{unwrap_or-slice_get}
use Rattle.std.proofs.Common.{rules}
use Rattle.solver.specs.Flat.{tables_in}
use Rattle.frames.specs.Layout.{layout}
use Rattle.solver.proofs.node.entry_at.Goals as goal

pub returns-then-h-lt-GRADES : goal.returns-then-h-lt-GRADES
unfolding tables_in
returns-then-h-lt-GRADES c = rw (lt-ltb c.args.h layout.grades c.if-h-lt-GRADES.true) (search (rules, unwrap_or-slice_get))

pub returns-else-h-lt-GRADES : goal.returns-else-h-lt-GRADES
unfolding tables_in
returns-else-h-lt-GRADES c = rw (le-ltb c.args.h layout.grades c.if-h-lt-GRADES.false)
