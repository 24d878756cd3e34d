-- The proof of the cycle of calls {largest_entry, entry_from}. One name's answer is put before the sets of the others; FF's two answers both are, and the larger
-- entry is taken.
-- Assumes nothing.
use Rattle.std.proofs.Common.{◌≡◌, refl, sym, ap, ap₂, ◌∙◌, arith, ℕ, suc, ◌+◌, ◌*◌, ◌^◌, ◌≤◌, ◌<◌, Bool, true, false, cond, List, [], ◌∷◌, length, get_or, take, drop, take_all, ◌-◌}
use Rattle.solver.specs.Flat.{tables_in}
use Rattle.meaning.specs.Meaning.{matching, largest}
use Rattle.solver.specs.Code.Engine.{entries_from}
use Rattle.solver.specs.Laws.Views.{entries_after, entries-end, entries-unnamed, entries-named}
use Prim.Native.Nat.{max}
use Rattle.solver.proofs.node.+largest_entry.Goals as goal

-- those behind the first
abbrev rest : List ℕ → List ℕ
rest xs = take (length xs - 1) (drop 1 xs)

parted : (xs : List ℕ) → 1 ≤ length xs → xs ≡ get_or xs 0 0 ∷ rest xs
parted [] h = absurd (omega arith)
parted (x ∷ xs) h = ap (λ (l : List ℕ). x ∷ l) (sym (take_all (suc (length xs) - 1) xs (omega arith)))

none : (xs : List ℕ) → length xs < 1 → xs ≡ []
none [] h = refl
none (x ∷ xs) h = absurd (omega arith)

pub largest_entry-returns-in_default : goal.largest_entry-returns-in_default
largest_entry-returns-in_default t c = let a = c.args in
    let empty : a.names.now ≡ [] = none a.names.now c.in_default.len_below in
    c.entry_at.ensures ∙ ap (tables_in a.grades.now a.u) c.from.ensures
    ∙ sym (ap (λ (l : List ℕ). largest (entries_from (tables_in a.grades.now a.u) a.j a.inside) (matching l a.set)) empty ∙ entries-end (tables_in a.grades.now a.u) a.set a.j a.inside)

pub largest_entry-returns-then-name : goal.largest_entry-returns-then-name
largest_entry-returns-then-name t c = let a = c.args in
    let table : (ℕ → ℕ) = tables_in a.grades.now a.u in
    let after : (r S : ℕ) (b : Bool) → S ≡ a.inside + cond b 1 0 * 2 ^ a.j
    → r ≡ largest (entries_from table (a.j + 1) S) (matching (rest a.names.now) a.set) → r ≡ entries_after table (rest a.names.now) a.set a.j a.inside b
    = λ r S b e f. f ∙ ap (λ (x : ℕ). largest (entries_from table (a.j + 1) x) (matching (rest a.names.now) a.set)) e in
    c.max.ensures
    ∙ ap₂ max (after _ _ false c.answered.ensures c.entry_from-without.ensures) (after _ _ true c.answered-then-name.ensures c.entry_from-with.ensures)
    ∙ sym (ap (λ (l : List ℕ). largest (entries_from table a.j a.inside) (matching l a.set)) (parted a.names.now c.in-len1-up.len_at_least)
    ∙ entries-unnamed table (rest a.names.now) a.set a.j a.inside _ c.if-name.true)

pub largest_entry-returns : goal.largest_entry-returns
largest_entry-returns t c = let a = c.args in
    let table : (ℕ → ℕ) = tables_in a.grades.now a.u in
    c.largest_entry.ensures
    ∙ ap (λ (x : ℕ). largest (entries_from table (a.j + 1) x) (matching (rest a.names.now) a.set)) c.answered-next.ensures
    ∙ ap (entries_after table (rest a.names.now) a.set a.j a.inside) c.holds.ensures
    ∙ sym (ap (λ (l : List ℕ). largest (entries_from table a.j a.inside) (matching l a.set)) (parted a.names.now c.in-len1-up.len_at_least)
    ∙ entries-named table (rest a.names.now) a.set a.j a.inside _ c.if-name.false)

pub entry_from-returns-in_default : goal.entry_from-returns-in_default
entry_from-returns-in_default t c = let a = c.args in
    let empty : a.names.now ≡ [] = none a.names.now c.in_default.len_below in
    c.entry_at.ensures ∙ ap (tables_in a.grades.now a.u) c.from.ensures
    ∙ sym (ap (λ (l : List ℕ). largest (entries_from (tables_in a.grades.now a.u) a.j a.inside) (matching l a.set)) empty ∙ entries-end (tables_in a.grades.now a.u) a.set a.j a.inside)
