-- `solver::rounds::start_method` meets its contract. The loop's invariant: the tables are worked out up to entry h of method m.
-- Assumes nothing.
use mathlib.Core.Path.{sym, ◌∙◌, subst}
use native.Mathlib.Omega.{arith}
use Prim.Native.Nat.{ℕ, ◌+◌, ◌*◌, ◌<◌, ◌^◌}
use lib.ListN.{set}
use Rattle.frames.specs.Layout.{layout}
use Rattle.frames.specs.Tables.{cell, method_of}
use Rattle.solver.specs.Flat.{blank}
use Rattle.solver.specs.Laws.Flat.{done-store, skip-rest, few-entries, no-entry-set, count-read, start-declared, start_outside, blank-at}
use native.Mathlib.Nat.{add_assoc}
use Rattle.solver.specs.Code.Rounds.{Done, start_tables}
use Rattle.solver.proofs.rounds.start_method.Goals as goal

pub loop-h-preserved : goal.loop-h-preserved
loop-h-preserved c = let a = c.args in
    let given = c.requires in
    let t = a.tables.now in
    let at = c.loop-h in
    let h = at.h in
    let count = count-read t given.fits a.m c.k.result c.entries-count.result given.m_bound c.k.ensures.is c.entries-count.ensures in
    let entry : h < 2 ^ (method_of (cell t) a.m).k = omega (arith, count) in
    let more = done-store (layout.grades * a.m + h) c.entry.result (start_tables t) blank at.new at.invariant
    (omega (arith, few-entries t given.fits a.m given.m_bound, given.fits.methods, given.m_bound))
    (c.entry.ensures.is ∙ sym (start-declared t given.fits a.m h given.m_bound given.m_value entry)) in
    subst (λ (n : ℕ). Done n (start_tables t) blank (set at.new (layout.grades * a.m + h) c.entry.result)) (add_assoc (layout.grades * a.m) h 1) more

pub returns : goal.returns
returns c = let a = c.args in
    let given = c.requires in
    let t = a.tables.now in
    let at = c.loop-h in
    let count = count-read t given.fits a.m c.k.result c.entries-count.result given.m_bound c.k.ensures.is c.entries-count.ensures in
    skip-rest a.m at.h (start_tables t) blank at.new at.invariant (omega (arith, count, few-entries t given.fits a.m given.m_bound))
    (λ e l k. start_outside t given.fits a.m e (omega (arith, given.fits.methods, given.m_bound)) k
    (no-entry-set t given.fits a.m e given.m_bound (omega (arith, count))) ∙ sym (blank-at (layout.grades * a.m + e)))
