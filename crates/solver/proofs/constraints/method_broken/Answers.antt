-- `solver::constraints::method_broken` meets its contract: kind 1, kind 2 and the forks, each passed only where it is met.
-- Assumes nothing.
use mathlib.Core.Path.{◌≡◌, refl, sym, ap, ◌∙◌}
use native.Mathlib.Omega.{arith}
use mathlib.Core.List.{◌++◌}
use borrow.Author.Tests.{eq-eqb, ne_eqb}
use lib.Dec.{eqb}
use Rattle.counting.specs.Counting.{only_if}
use Rattle.meaning.specs.Constraints.{broken_set, first_broken, closed_of, forks_of, declared_root, main_table}
use Rattle.meaning.specs.Lowest.{is_declared}
use Rattle.solver.specs.Laws.Flat.{fixed-declared}
use Rattle.solver.specs.Laws.Findings.{if-not, if-broken, if-met, main-at, main-past, no-set}
use Rattle.solver.specs.Flat.{program_in, tables_in}
use Rattle.solver.specs.Findings.{found}
use Rattle.solver.proofs.constraints.method_broken.Goals as goal
use Rattle.solver.proofs.constraints.method_broken.Goals.{Joined-declared, then-declared+in_default, else-declared, else-method-eq0-via-then-method-eq0+else-main_broken, else-method-eq0-via-else-method-eq0}

-- a method that is not declared, and one whose declared table holds, go on to kind 2
declared-passed : (c : Joined-declared)
    → first_broken (program_in c.args.method.tables.now) (tables_in c.args.grades.now) (closed_of (program_in c.args.method.tables.now) c.args.method.number)
    ≡ first_broken (program_in c.args.method.tables.now) (tables_in c.args.grades.now) (only_if (eqb c.args.method.number 0) main_table ++ forks_of (program_in c.args.method.tables.now) c.args.method.number)
unfolding closed_of
declared-passed c =
    let a = c.args in
    let t = a.method.tables.now in
    let given = c.requires in
    let p = program_in t in
    let g = tables_in a.grades.now in
    let own = fixed-declared t c.args.method.fits a.method.number c.args.method.at.method ∙ sym c.declared.ensures in
    let rest = only_if (eqb a.method.number 0) main_table ++ forks_of p a.method.number in
    elim c.if-declared.branch [
      | then-declared+in_default w ↦ if-met p g (is_declared p a.method.number) (declared_root a.method.number) rest (broken_set p g (declared_root a.method.number)) (own ∙ w.if-declared.true) refl
          (no-set _ _ w.declared_broken.result w.declared_broken.ensures w.in_default.not-Some)
      | else-declared w ↦ if-not p g (is_declared p a.method.number) (declared_root a.method.number) rest (own ∙ w.if-declared.false)
    ]

pub returns-in-Some : goal.returns-in-Some
unfolding closed_of
returns-in-Some c = let a = c.args in
    let t = a.method.tables.now in
    let given = c.requires in
    ap found
    (sym (if-broken (program_in t) (tables_in a.grades.now) (is_declared (program_in t) a.method.number) (declared_root a.method.number) _ c.in-Some.set
    (fixed-declared t c.args.method.fits a.method.number c.args.method.at.method ∙ sym c.declared.ensures ∙ c.if-declared.true)
    c.in-Some.ensures.1 c.in-Some.ensures.0))

pub returns-then-main_broken : goal.returns-then-main_broken
returns-then-main_broken c = let a = c.args in
    let p = program_in a.method.tables.now in
    let g = tables_in a.grades.now in
    ap found
    (sym (declared-passed (goal.at.returns-then-main_broken c).Joined-declared
    ∙ if-broken p g (eqb a.method.number 0) main_table (forks_of p a.method.number) 0 (eq-eqb a.method.number 0 c.if-method-eq0.true)
    (main-at p g (sym c.main_broken.ensures ∙ c.if-main_broken.true)) (omega arith)))

pub returns : goal.returns
returns c = let a = c.args in
    let p = program_in a.method.tables.now in
    let g = tables_in a.grades.now in
    c.forks_broken.ensures
    ∙ ap found
    (sym (declared-passed (goal.at.returns c).Joined-declared
    ∙ elim c.else-method-eq0.branch [
      | else-method-eq0-via-then-method-eq0+else-main_broken w ↦ if-met p g (eqb a.method.number 0) main_table (forks_of p a.method.number) (broken_set p g main_table) (eq-eqb a.method.number 0 w.if-method-eq0.true) refl
          (main-past p g (sym w.main_broken.ensures ∙ w.if-main_broken.false))
      | else-method-eq0-via-else-method-eq0 w ↦ if-not p g (eqb a.method.number 0) main_table (forks_of p a.method.number) (ne_eqb a.method.number 0 w.if-method-eq0.false)
    ]))
