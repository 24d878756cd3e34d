-- `solver::node::names_taken` meets its contract: a method that the program lacks has no names.
-- Assumes nothing.
use mathlib.Core.Path.{sym, ap, ◌∙◌}
use native.Mathlib.Omega.{arith}
use Prim.Native.Nat.{ℕ, min}
use Rattle.frames.specs.Layout.{layout}
use Rattle.solver.specs.Laws.Views.{method-in, method-past}
use Rattle.frames.specs.Program.{no_method, Method}
use Rattle.solver.proofs.node.names_taken.Goals as goal

pub returns-then-u-methods : goal.returns-then-u-methods
returns-then-u-methods c = let a = c.args in
    c.min.ensures ∙ ap (λ (n : ℕ). min n layout.names)
    (c.k.ensures.is ∙ sym (ap (λ (m : Method). m.k) (method-in a.tables.now a.u (omega (arith, c.methods.ensures.is)))))

pub returns-else-u-methods : goal.returns-else-u-methods
unfolding no_method
returns-else-u-methods c = let a = c.args in
    sym (ap (λ (m : Method). min m.k layout.names) (method-past a.tables.now a.u (omega (arith, c.methods.ensures.is))))
