-- `explainer::turns::own_turn` meets its contract.
-- Assumes nothing.
use mathlib.Core.Path.{◌≡◌, sym, ap, ap₂, ◌∙◌, subst}
use native.Mathlib.Omega.{arith}
use Prim.Native.Nat.{ℕ, ◌+◌}
use mathlib.Core.Bool.{not}
use lib.Dec.{T}
use Rattle.frames.specs.Program.{Node}
use Rattle.meaning.specs.Meaning.{Op, call, op_of}
use Rattle.meaning.specs.Lowest.{is_declared}
use Rattle.reasons.specs.Steps.{node_here, root_place, callee_place, Turn, call_turn, own_turn}
use Rattle.solver.specs.Flat.{program_in}
use Rattle.solver.specs.Nodes.{meant}
use Rattle.solver.specs.Laws.Views.{method-count}
use Rattle.explainer.specs.Code.Places.{place_of, HasBeen, TurnOf}
use Rattle.explainer.proofs.Laws.Places.{node-few, node-here, called-few}
use Rattle.explainer.proofs.Laws.Seen.{call-named}
use Rattle.explainer.proofs.Laws.Turns.{op-meant, own-access_named, ended, callee-been}
use Rattle.explainer.proofs.turns.own_turn.Goals as goal

pub overflow_add-at : goal.overflow_add-at
overflow_add-at c = let a = c.args in
    let t = a.tables.now in
    let ready = c.requires.ready.0 in
    let placed = c.requires.ready.1 in
    let seen = c.requires.ready.2 in
    omega (arith, placed.first.small, node-few t a.rises.now ready a.at placed)

pub call_turn-requires : goal.call_turn-requires
call_turn-requires c = let a = c.args in
    let t = a.tables.now in
    let ready = c.requires.ready.0 in
    let placed = c.requires.ready.1 in
    let seen = c.requires.ready.2 in
    let calls : op_of (node_here (program_in t) (place_of a.at)).op ≡ call = sym (op-meant t a.at a.seen seen) ∙ ap meant c.in-Call.is in
    let used : c.used-u.result ≡ (node_here (program_in t) (place_of a.at)).U = c.used-u.ensures.is ∙ ap (λ (x : Node). x.U) (node-here t a.rises.now ready a.at placed) in
    let few = called-few t a.rises.now ready a.at placed (call-named _ (sym seen.op ∙ c.in-Call.is)) in record {
      ready = (ready, omega (arith, few, method-count t, used), c.requires.ready.3);
      has_been = subst (λ (u : ℕ). T (not (is_declared (program_in t) u)) → HasBeen (program_in t) u a.seen.set a.seen.own) (sym used)
          (callee-been t a.rises.now ready a.at placed a.seen seen calls a.added c.requires.at_value);
    }

pub returns-in-Call : goal.returns-in-Call
unfolding callee_place
returns-in-Call c = let a = c.args in
    let t = a.tables.now in
    let ready = c.requires.ready.0 in
    let placed = c.requires.ready.1 in
    let seen = c.requires.ready.2 in
    let calls : op_of (node_here (program_in t) (place_of a.at)).op ≡ call = sym (op-meant t a.at a.seen seen) ∙ ap meant c.in-Call.is in
    let used : c.used-u.result ≡ (node_here (program_in t) (place_of a.at)).U = c.used-u.ensures.is ∙ ap (λ (x : Node). x.U) (node-here t a.rises.now ready a.at placed) in
    subst (λ (turn : Turn). TurnOf t turn c.call_turn.result)
    (ap₂ (λ (u S : ℕ). call_turn (is_declared (program_in t) u) (root_place (program_in t) u S a.seen.own) a.added) used (seen.called calls)
    ∙ ap (λ (o : Op). own_turn o (is_declared (program_in t) (node_here (program_in t) (place_of a.at)).U) (callee_place (program_in t) (place_of a.at) a.seen.own) a.added) (sym calls))
    c.call_turn.ensures

pub returns-in-Fork : goal.returns-in-Fork
returns-in-Fork c = let a = c.args in
    let t = a.tables.now in
    let ready = c.requires.ready.0 in
    let placed = c.requires.ready.1 in
    let seen = c.requires.ready.2 in
    ended t (4 + a.added) _ c.end.result c.end.ensures
    (ap (λ (o : Op). own_turn o (is_declared (program_in t) (node_here (program_in t) (place_of a.at)).U) (callee_place (program_in t) (place_of a.at) a.seen.own) a.added)
    (sym (op-meant t a.at a.seen seen) ∙ ap meant c.in-Fork.is))

pub returns-in_default : goal.returns-in_default
returns-in_default c = let a = c.args in
    let t = a.tables.now in
    let ready = c.requires.ready.0 in
    let placed = c.requires.ready.1 in
    let seen = c.requires.ready.2 in
    ended t (3 + a.added) _ c.end-in_default.result c.end-in_default.ensures
    (ap (λ (o : Op). own_turn o (is_declared (program_in t) (node_here (program_in t) (place_of a.at)).U) (callee_place (program_in t) (place_of a.at) a.seen.own) a.added)
    (sym (op-meant t a.at a.seen seen))
    ∙ own-access_named a.seen.op _ _ a.added c.in_default.not-Call c.in_default.not-Fork)
