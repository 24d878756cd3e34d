-- `hand_out` meets its contract: the page at the front of a buffer with room for it.
-- Assumes nothing.
use Rattle.std.proofs.Common.{arith, length-take-le}
use Rattle.session.proofs.Laws.Page.{printed-room, printed-none}
use Rattle.session.proofs.writing.Page.hand_out.Goals as goal

pub returns-then-n-out-clause-out_after : goal.returns-then-n-out-clause-out_after
returns-then-n-out-clause-out_after c = let p = c.self.inside in
    let long = length-take-le p.count p.bytes (omega arith) in
    grind (arith, printed-room c.args.self.now c.args.out.now)

pub returns-else-n-out-clause-out_after : goal.returns-else-n-out-clause-out_after
returns-else-n-out-clause-out_after c = let p = c.self.inside in
    let long = length-take-le p.count p.bytes (omega arith) in
    grind (arith, printed-none c.args.self.now c.args.out.now)
