-- `solver::rounds::round_method` meets its contract. The loop's invariant: the tables are worked out up to entry h of method m.
-- Assumes nothing.
use mathlib.Core.Path.{sym, ◌∙◌, subst}
use native.Mathlib.Omega.{arith}
use Prim.Native.Nat.{ℕ, ◌+◌, ◌*◌, ◌<◌, ◌^◌}
use lib.ListN.{set}
use Rattle.frames.specs.Layout.{layout}
use Rattle.frames.specs.Tables.{cell, method_of}
use Rattle.solver.specs.Flat.{program_in}
use Rattle.solver.specs.Laws.Flat.{done-store, skip-rest, few-entries, no-entry-set, not_entry, count-read, round-undeclared}
use Rattle.meaning.specs.Lowest.{is_entry}
use native.Mathlib.Nat.{add_assoc}
use Rattle.solver.specs.Code.Rounds.{Done, round_tables}
use Rattle.solver.proofs.rounds.round_method.Goals as goal

pub loop-h-preserved : goal.loop-h-preserved
loop-h-preserved c = let a = c.args in
    let given = c.requires in
    let t = a.method.tables.now in
    let old = a.old.now in
    let at = c.loop-h in
    let h = at.h in
    let count = count-read t c.args.method.fits a.method.number c.k.result c.entries-count.result c.args.method.at.method c.k.ensures.is c.entries-count.ensures in
    let entry : h < 2 ^ (method_of (cell t) a.method.number).k = omega (arith, count) in
    let more = done-store (layout.grades * a.method.number + h) c.root_grade.result (round_tables t old) old at.new at.invariant
    (omega (arith, few-entries t c.args.method.fits a.method.number c.args.method.at.method, c.args.method.fits.methods, c.args.method.at.method))
    (c.root_grade.ensures ∙ sym (round-undeclared t c.args.method.fits old a.method.number h c.args.method.at.method given.undeclared entry)) in
    subst (λ (n : ℕ). Done n (round_tables t old) old (set at.new (layout.grades * a.method.number + h) c.root_grade.result)) (add_assoc (layout.grades * a.method.number) h 1) more

pub returns : goal.returns
returns c = let a = c.args in
    let given = c.requires in
    let t = a.method.tables.now in
    let old = a.old.now in
    let at = c.loop-h in
    let count = count-read t c.args.method.fits a.method.number c.k.result c.entries-count.result c.args.method.at.method c.k.ensures.is c.entries-count.ensures in
    skip-rest a.method.number at.h (round_tables t old) old at.new at.invariant (omega (arith, count, few-entries t c.args.method.fits a.method.number c.args.method.at.method))
    (λ e l k. given.still.outside a.method.number e (omega (arith, c.args.method.fits.methods, c.args.method.at.method)) k
    (not_entry (is_entry (program_in t) a.method.number e) (no-entry-set t c.args.method.fits a.method.number e c.args.method.at.method (omega (arith, count)))))
