use Rattle.std.proofs.Common.{◌≡◌, ◌+◌, length, IfSome}
use Rattle.explainer.specs.Code.Walk.{chain_of, rest_of, Going, Entered}
use Rattle.explainer.proofs.walk.chain_length.Given as goal

abbrev pub invariant-loop-next : goal.invariant-loop-next
invariant-loop-next l =
    record {
      going : IfSome l.next (Going l.tables l.rises);
      entered : IfSome l.next (λ walk. Entered l.tables walk l.lower);
      counted : l.n + length (rest_of l.tables l.next) ≡ length (chain_of l.tables l.fn.start.at);
    }

abbrev pub decreases-loop-next : goal.decreases-loop-next
decreases-loop-next l = length (rest_of l.tables l.next)
