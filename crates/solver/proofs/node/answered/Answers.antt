-- `solver::node::answered` meets its contract: the set has no name from j on, so that a name added is its bit added.
-- Assumes nothing.
use mathlib.Core.Bool.{Bool, cond}
use mathlib.Core.Path.{◌≡◌, ap, ◌∙◌}
use Prim.Native.Nat.{◌+◌, ◌^◌}
use native.Mathlib.Omega.{arith}
use native.Mathlib.Nat.{le_refl}
use borrow.Author.Tests.{lt-ltb}
use Rattle.grades.specs.HeldSets.{add, add_within}
use Rattle.grades.proofs.Laws.HeldSets.{held-past, add_free}
use Rattle.solver.proofs.node.answered.Goals as goal

pub returns-then-answer : goal.returns-then-answer
unfolding add_within
returns-then-answer c = let a = c.args in
    let given = c.requires in
    let put : add a.inside a.j ≡ a.inside + 2 ^ a.j = add_free a.inside a.j (held-past a.j a.inside a.j given.1 (le_refl _)) in
    c.with_name.ensures ∙ ap (λ (b : Bool). cond b (add a.inside a.j) a.inside) (lt-ltb a.j 8 given.0) ∙ put
    ∙ (rw c.if-answer.true (omega arith))
