-- `explainer::turns::call_turn` meets its contract.
-- Assumes nothing.
use mathlib.Core.Path.{◌≡◌, refl, sym, ap, ◌∙◌, subst}
use Prim.Native.Nat.{◌+◌}
use mathlib.Core.Bool.{Bool, true, false, not}
use lib.Dec.{T}
use Rattle.meaning.specs.Lowest.{is_declared}
use Rattle.reasons.specs.Steps.{root_place, call_turn}
use Rattle.solver.specs.Flat.{program_in}
use Rattle.solver.specs.Laws.Flat.{fixed-declared}
use Rattle.explainer.proofs.Laws.Turns.{ended, went}
use Rattle.explainer.proofs.turns.call_turn.Goals as goal

pub returns-then-declared : goal.returns-then-declared
unfolding call_turn
returns-then-declared c = let a = c.args in
    let t = a.tables.now in
    let given = c.requires.ready in
    let declared : is_declared (program_in t) a.u ≡ true = fixed-declared t given.0.read.fits a.u given.1 ∙ sym c.declared.ensures ∙ c.if-declared.true in
    ended t (7 + a.added) _ c.end.result c.end.ensures
    (ap (λ (d : Bool). call_turn d (root_place (program_in t) a.u a.set a.grade) a.added) declared)

pub root_place-to-requires : goal.root_place-to-requires
root_place-to-requires c = let a = c.args in
    let t = a.tables.now in
    let given = c.requires.ready in
    let declared : is_declared (program_in t) a.u ≡ false = fixed-declared t given.0.read.fits a.u given.1 ∙ sym c.declared.ensures ∙ c.if-declared.false in
    record { ready = given.0; has_been = c.requires.has_been (subst (λ (d : Bool). T (not d)) (sym declared) tt) }

pub returns : goal.returns
unfolding call_turn
returns c = let a = c.args in
    let t = a.tables.now in
    let given = c.requires.ready in
    let declared : is_declared (program_in t) a.u ≡ false = fixed-declared t given.0.read.fits a.u given.1 ∙ sym c.declared.ensures ∙ c.if-declared.false in
    went t c.root_place-to.result (2 + a.added) _ (root_place (program_in t) a.u a.set a.grade) _ refl c.root_place-to.ensures.0 c.root_place-to.ensures.1.first
    (ap (λ (d : Bool). call_turn d (root_place (program_in t) a.u a.set a.grade) a.added) declared)
