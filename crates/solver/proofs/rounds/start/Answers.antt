-- `solver::rounds::start` meets its contract. The loop's invariant: the tables are worked out for the methods passed.
-- Assumes nothing.
use mathlib.Core.Path.{◌≡◌, sym, ap, ◌∙◌, subst}
use native.Mathlib.Omega.{arith}
use Prim.Native.Nat.{ℕ, ◌+◌, ◌*◌, ◌<◌}
use Rattle.frames.specs.Layout.{layout}
use Rattle.frames.specs.Frames.{methods_in}
use Rattle.frames.specs.Tables.{cell}
use Rattle.solver.specs.Flat.{blank}
use Rattle.solver.specs.Laws.Flat.{done_none, done_all, skip-methods, blank-length, blank-at, flat-length, no-entry-method, start_outside, start-undeclared}
use Rattle.solver.specs.Code.Rounds.{Done, is_fixed, start_tables}
use Rattle.solver.proofs.rounds.start.Goals as goal
use Rattle.solver.proofs.rounds.start.Goals.{then-declared, else-declared}

pub loop-m-init : goal.loop-m-init
unfolding blank
loop-m-init c = done_none (start_tables c.args.tables.now) blank blank-length

pub loop-m-preserved : goal.loop-m-preserved
loop-m-preserved c = let t = c.args.tables.now in
    let fits = c.requires in
    let at = c.loop-m in
    let within : at.m < methods_in (cell t) = omega (arith, c.methods-methods.ensures.is) in
    let next : layout.grades * at.m + layout.grades ≡ layout.grades * (at.m + 1) = omega arith in
    elim c.if-declared.branch [
      | then-declared w ↦ subst (Done (layout.grades * (at.m + 1)) (start_tables t) blank) (sym w.new-is)
          (subst (λ (n : ℕ). Done n (start_tables t) blank w.start_method.new.new) next w.start_method.ensures)
      | else-declared w ↦ subst (Done (layout.grades * (at.m + 1)) (start_tables t) blank) (sym w.new-is)
          (skip-methods at.m (at.m + 1) (start_tables t) blank at.new at.invariant (omega arith)
          (λ n h l k e. let same : at.m ≡ n = omega arith in
          start-undeclared t fits n h (omega arith) e (ap (is_fixed t) (sym same) ∙ sym c.declared.ensures ∙ w.if-declared.false) ∙ sym (blank-at (layout.grades * n + h))))
    ]

pub returns : goal.returns
unfolding start_tables
returns c = let t = c.args.tables.now in
    let fits = c.requires in
    let at = c.loop-m in
    done_all (start_tables t) blank at.new (flat-length _)
    (skip-methods at.m layout.most_methods (start_tables t) blank at.new at.invariant (omega (arith, c.methods-methods.ensures.is, fits.methods))
    (λ n h l k e. start_outside t fits n h k e (no-entry-method t fits n h (omega (arith, c.methods-methods.ensures.is))) ∙ sym (blank-at (layout.grades * n + h))))
