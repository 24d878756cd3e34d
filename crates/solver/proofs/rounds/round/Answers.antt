-- `solver::rounds::round` meets its contract. The loop's invariant: the tables are worked out for the methods passed.
-- Assumes nothing.
use mathlib.Core.Path.{◌≡◌, sym, ap, ◌∙◌, subst}
use native.Mathlib.Omega.{arith}
use Prim.Native.Nat.{ℕ, ◌+◌, ◌*◌, ◌<◌}
use Rattle.frames.specs.Layout.{layout}
use Rattle.frames.specs.Frames.{methods_in}
use Rattle.frames.specs.Tables.{cell}
use Rattle.solver.specs.Flat.{program_in}
use lib.Dec.{T}
use Rattle.solver.specs.Laws.Flat.{done_all, skip-methods, flat-length, no-entry-method, not_entry, fixed-declared}
use Rattle.meaning.specs.Lowest.{is_entry}
use Rattle.solver.specs.Code.Rounds.{Done, is_fixed, round_tables}
use Rattle.solver.proofs.rounds.round.Goals as goal
use Rattle.solver.proofs.rounds.round.Goals.{then-not-declared, else-not-declared}

pub loop-m-preserved : goal.loop-m-preserved
loop-m-preserved c = let t = c.args.placed.now.tables.now in
    let old = c.args.old.now in
    let given = c.requires in
    let at = c.loop-m in
    let within : at.m < methods_in (cell t) = omega (arith, c.methods-methods.ensures.is) in
    let next : layout.grades * at.m + layout.grades ≡ layout.grades * (at.m + 1) = omega arith in
    elim c.if-not-declared.branch [
      | then-not-declared w ↦ subst (Done (layout.grades * (at.m + 1)) (round_tables t old) old) (sym w.new-is)
          (subst (λ (n : ℕ). Done n (round_tables t old) old w.round_method.new.new) next w.round_method.ensures)
      | else-not-declared w ↦ subst (Done (layout.grades * (at.m + 1)) (round_tables t old) old) (sym w.new-is)
          (skip-methods at.m (at.m + 1) (round_tables t old) old at.new at.invariant (omega arith)
          (λ n h l k e. let same : at.m ≡ n = omega arith in
          given.declared n h (omega (arith, c.args.placed.now.fits.methods)) e
          (subst T (sym (fixed-declared t c.args.placed.now.fits n (omega arith) ∙ ap (is_fixed t) (sym same) ∙ sym c.declared.ensures ∙ w.if-not-declared.false)) tt)))
    ]

pub returns : goal.returns
unfolding round_tables
returns c = let t = c.args.placed.now.tables.now in
    let old = c.args.old.now in
    let given = c.requires in
    let at = c.loop-m in
    done_all (round_tables t old) old at.new (flat-length _)
    (skip-methods at.m layout.most_methods (round_tables t old) old at.new at.invariant (omega (arith, c.methods-methods.ensures.is, c.args.placed.now.fits.methods))
    (λ n h l k e. given.outside n h k e (not_entry (is_entry (program_in t) n h) (no-entry-method t c.args.placed.now.fits n h (omega (arith, c.methods-methods.ensures.is))))))
