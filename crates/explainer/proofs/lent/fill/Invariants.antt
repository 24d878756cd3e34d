-- After i turns the first i steps of the chain are put, and the rest of it is to come.
use Rattle.std.proofs.Common.{◌≡◌, ◌++◌, List, length, IfSome}
use Rattle.explainer.specs.declared.walk.Step.{Step}
use Rattle.explainer.specs.Code.Walk.{chain_of, rest_of, Going, Entered}
use Rattle.explainer.proofs.lent.fill.Given as goal

abbrev pub invariant-loop-next : goal.invariant-loop-next
invariant-loop-next g l =
    record {
      going : IfSome l.next (Going l.known.tables.bytes l.known.risen.rises);
      entered : IfSome l.next (λ walk. Entered l.known.tables.bytes walk l.lower);
      put : List Step;
      counted : length put ≡ l.i;
      chain : put ++ rest_of l.known.tables.bytes l.next ≡ chain_of l.known.tables.bytes l.fn.chain.walk.at;
      over : l.slots ≡ g.T.Slot.over put l.fn.slots;
      room : g.T.Slot.room_of l.slots ≡ g.T.Slot.room_of l.fn.slots;
    }

abbrev pub decreases-loop-next : goal.decreases-loop-next
decreases-loop-next g l = length (rest_of l.known.tables.bytes l.next)
