-- `solver::constraints::first_broken` meets its contract. The loop's invariant: the first broken constraint is that of the methods not passed yet.
-- Assumes nothing.
use mathlib.Core.Path.{◌≡◌, sym, ap, ◌∙◌}
use native.Mathlib.Omega.{arith}
use Prim.Native.Nat.{◌+◌, ◌-◌}
use mathlib.Core.List.{◌++◌}
use Rattle.frames.specs.Frames.{methods_in}
use Rattle.frames.specs.Tables.{cell}
use Rattle.counting.specs.Counting.{up_to}
use Rattle.meaning.specs.Constraints.{first_broken, closed_of, finding}
use Rattle.solver.specs.Laws.Findings.{lists_from, methods-all, lists-next, lists-end, second-broken, first-kept}
use Rattle.solver.specs.Flat.{program_in, tables_in}
use Rattle.solver.specs.Findings.{found}
use Rattle.solver.proofs.constraints.first_broken.Goals as goal

pub loop-m-init : goal.loop-m-init
loop-m-init c = let a = c.args in
    methods-all (program_in a.placed.now.tables.now) (tables_in a.grades.now) (methods_in (cell a.placed.now.tables.now))

pub returns-in-Some : goal.returns-in-Some
returns-in-Some c = let a = c.args in
    let p = program_in a.placed.now.tables.now in
    let g = tables_in a.grades.now in
    let at = c.loop-m in
    let methods = methods_in (cell a.placed.now.tables.now) in
    let rest = lists_from (closed_of p) (at.m + 1) (methods - (at.m + 1)) in
    let now-due : finding p g (up_to methods) ≡ first_broken p g (closed_of p at.m ++ rest)
    = at.invariant ∙ ap (first_broken p g) (lists-next (closed_of p) at.m methods (omega (arith, c.methods-m-end.ensures.is))) in
    first-kept p g (closed_of p at.m) rest c.in-Some.broken c.in-Some.ensures
    ∙ ap found (sym now-due)

pub loop-m-preserved : goal.loop-m-preserved
loop-m-preserved c = let a = c.args in
    let p = program_in a.placed.now.tables.now in
    let g = tables_in a.grades.now in
    let at = c.loop-m in
    let methods = methods_in (cell a.placed.now.tables.now) in
    let rest = lists_from (closed_of p) (at.m + 1) (methods - (at.m + 1)) in
    let now-due : finding p g (up_to methods) ≡ first_broken p g (closed_of p at.m ++ rest)
    = at.invariant ∙ ap (first_broken p g) (lists-next (closed_of p) at.m methods (omega (arith, c.methods-m-end.ensures.is))) in
    now-due ∙ second-broken p g (closed_of p at.m) rest (λ b e. c.in_default.not-Some b (c.method_broken.ensures ∙ e))

pub returns : goal.returns
returns c = let a = c.args in
    let at = c.loop-m in
    ap found
    (sym (at.invariant ∙ lists-end (program_in a.placed.now.tables.now) (tables_in a.grades.now) (closed_of (program_in a.placed.now.tables.now)) at.m (methods_in (cell a.placed.now.tables.now)) (omega (arith, c.methods-m-end.ensures.is))))
