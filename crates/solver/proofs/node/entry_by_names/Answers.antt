-- `solver::node::entry_by_names` meets its contract. The loop's invariant: of the sets that match, those are left that have `inside` of the names
-- passed, each of which allowed one answer.
-- Assumes nothing.
use Rattle.std.proofs.Common.{◌≡◌, sym, ap, ◌∙◌, arith, ℕ, ◌+◌, List, ◌∷◌, get_or, drop, drop-cons, drop_of_length-le, add-one}
use Rattle.solver.specs.Flat.{tables_in}
use Rattle.meaning.specs.Meaning.{matching, largest}
use Rattle.solver.specs.Code.Engine.{entries_from}
use Rattle.solver.specs.Laws.Views.{answered-below, entries_after, entries-end, entries-named}
use Rattle.solver.proofs.node.entry_by_names.Goals as goal

pub loop-j-preserved : goal.loop-j-preserved
loop-j-preserved c = let a = c.args in
    let at = c.loop-j in
    let table : (ℕ → ℕ) = tables_in a.grades.now a.u in
    let parted : drop at.j a.names.now ≡ get_or a.names.now at.j 0 ∷ drop (at.j + 1) a.names.now
    = rw add-one (drop-cons a.names.now at.j 0 (omega arith)) in (
      answered-below at.j at.inside c.answered-inside.result c.holds.result at.invariant.0 c.answered-inside.ensures,
      at.invariant.1 ∙ ap (λ (l : List ℕ). largest (entries_from table at.j at.inside) (matching l a.set)) parted
          ∙ entries-named table (drop (at.j + 1) a.names.now) a.set at.j at.inside _ c.if-name.false
          ∙ ap (entries_after table (drop (at.j + 1) a.names.now) a.set at.j at.inside) (sym c.holds.ensures)
          ∙ ap (λ (x : ℕ). largest (entries_from table (at.j + 1) x) (matching (drop (at.j + 1) a.names.now) a.set)) (sym c.answered-inside.ensures),
    )

pub returns : goal.returns
returns c = let a = c.args in
    let at = c.loop-j in
    let table : (ℕ → ℕ) = tables_in a.grades.now a.u in
    c.entry_at.ensures ∙ ap table c.from.ensures
    ∙ sym (at.invariant.1 ∙ ap (λ (l : List ℕ). largest (entries_from table at.j at.inside) (matching l a.set)) (drop_of_length-le a.names.now (omega arith))
    ∙ entries-end table a.set at.j at.inside)
