-- `explainer::walk::chain_length` meets its contract.
-- Assumes nothing.
use Rattle.std.proofs.Common.{◌≡◌, ◌+◌, length, Option, subst, arith}
use Rattle.explainer.specs.declared.walk.Walk.{Walk}
use Rattle.explainer.specs.Code.Walk.{chain_of, rest_of}
use Rattle.explainer.proofs.Laws.Walk.{some_left, steps-few}
use Rattle.explainer.proofs.walk.chain_length.Goals as goal

pub overflow_add-n : goal.overflow_add-n
overflow_add-n c = let a = c.args in
    let t = a.tables.now in
    let counted = subst (λ (next : Option Walk). c.loop-next.n + length (rest_of t next) ≡ length (chain_of t a.start.at)) c.in-Some.is c.loop-next.invariant.counted in
    omega (arith, some_left t a.rises.now c.in-Some.walk c.give-next.result c.give-next.ensures.given_at, steps-few t a.rises.now a.start c.requires.going)
