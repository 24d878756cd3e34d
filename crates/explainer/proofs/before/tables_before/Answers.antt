-- `explainer::before::tables_before` meets its contract.
-- Assumes nothing.
use mathlib.Core.Path.{◌≡◌, sym, ap, ◌∙◌}
use native.Mathlib.Omega.{arith}
use Prim.Native.Nat.{ℕ, ◌*◌, ◌<◌}
use mathlib.Core.List.{List}
use Rattle.frames.specs.Layout.{layout, answer_length}
use Rattle.frames.specs.Frames.{methods_in}
use Rattle.frames.specs.Tables.{cell}
use Rattle.solver.specs.Flat.{blank}
use Rattle.solver.specs.Laws.Flat.{done_none, done-store, done-skip, done_all, blank-length, blank-at}
use Rattle.explainer.specs.Code.Before.{risen_count, tables_at}
use Rattle.explainer.proofs.Laws.Before.{tables-at, tables-length, past-known}
use Rattle.explainer.proofs.Laws.Places.{rises-size}
use Rattle.explainer.proofs.before.tables_before.Goals as goal

pub loop-e-init : goal.loop-e-init
unfolding blank
loop-e-init c = done_none (tables_at c.args.rises.now c.args.round) blank blank-length

pub entry_before-requires : goal.entry_before-requires
entry_before-requires c = let a = c.args in
    (rises-size a.tables.now a.rises.now c.requires.0, omega (arith, c.methods-used.ensures.is, c.requires.0.read.fits.methods))

pub loop-e-preserved : goal.loop-e-preserved
loop-e-preserved c = let a = c.args in
    let at = c.loop-e in
    let inside : at.e < answer_length = omega (arith, c.methods-used.ensures.is, c.requires.0.read.fits.methods) in
    done-store at.e c.entry_before.result (tables_at a.rises.now a.round) blank at.entries at.invariant inside (c.entry_before.ensures.0 ∙ sym (tables-at a.rises.now a.round at.e inside))

pub returns : goal.returns
returns c = let a = c.args in
    let t = a.tables.now in
    let pre = c.requires in
    let at = c.loop-e in
    let few = pre.0.read.fits.methods in
    let used : at.e ≡ layout.grades * methods_in (cell t) = omega (arith, c.methods-used.ensures.is) in
    let target = tables_at a.rises.now a.round in
    done_all target blank at.entries (tables-length a.rises.now a.round)
    (done-skip at.e answer_length target blank at.entries at.invariant (omega (arith, used, few))
    (λ i l h. tables-at a.rises.now a.round i h ∙ ap (λ (x : List ℕ). risen_count x i a.round) pre.0.rises
    ∙ past-known t pre.0.read a.round pre.1 pre.2 i (omega (arith, used)) h ∙ sym (blank-at i)))
