-- A text's rounds, as document 01 says it: from its declarations, with no floor.
-- Assumes nothing.
use Rattle.std.specs.Prelude.{ℕ, suc, ◌*◌, ◌≤◌, ◌<◌, ◌≡◌, refl, not, T}
use Rattle.std.proofs.Common.{sym, ap, ◌∙◌, subst, le_trans, le_antisymm, arith}
use Rattle.std.proofs.Math.Path.{fun_ext}
use Rattle.grades.specs.Grades.{const, error, join}
use Rattle.grades.proofs.Laws.Grades.{cap-grade, cap-le, join-above-second, join-lowest}
use Rattle.frames.specs.Program.{Program}
use Rattle.meaning.specs.Meaning.{Assignment, root_table}
use Rattle.meaning.proofs.Laws.Meaning.{root-error}
use Rattle.meaning.specs.Lowest.{method_count, start, round, after, settled, open_entries, is_entry, declarations, is_declared, declared_table, lowest_from, rounds, lowest}
use Rattle.meaning.proofs.Laws.Lowest.{start-open, round-open, round-fixed, lowest-round, rounds-bound, rounds-least, rounds-none, differs, lowest-error}

-- ---- what a round does, with no floor

const-join : (x : ℕ) → x ≤ error → join const x ≡ x
const-join x h =
    le_antisymm (join-lowest const x x (le_trans (cap-le const) (omega arith)) (cap-le x))
    (subst (λ (y : ℕ). y ≤ join const x) (cap-grade x h) (join-above-second const x))

-- "Start with every undeclared table all 0."
pub start-undeclared : (p : Program) (m H : ℕ) → T (is_entry p m H) → T (not (is_declared p m)) → start p (declarations p) m H ≡ 0
unfolding declarations
start-undeclared p m H t u = start-open p (declarations p) m H t u ∙ cap-grade const (omega arith)

-- "One round gives every undeclared method its root's table"
pub round-undeclared : (p : Program) (a : Assignment) (m H : ℕ) → T (is_entry p m H) → T (not (is_declared p m))
    → round p (declarations p) a m H ≡ root_table p a m H
unfolding declarations
round-undeclared p a m H t u = round-open p (declarations p) a m H t u ∙ const-join (root_table p a m H) (root-error p a m H)

pub round-declared : (p : Program) (a : Assignment) (m H : ℕ) → T (is_entry p m H) → T (is_declared p m)
    → round p (declarations p) a m H ≡ declared_table p m H
unfolding declarations
round-declared p a m H t d = round-fixed p (declarations p) a m H t d

-- ---- rounds, and where they stop

pub lowest-after : (p : Program) → lowest p ≡ after p (declarations p) (rounds p)
unfolding lowest lowest_from rounds
lowest-after p = refl

-- round n+1 changes nothing
pub rounds-stop : (p : Program) → after p (declarations p) (suc (rounds p)) ≡ after p (declarations p) (rounds p)
unfolding after rounds
rounds-stop p = fun_ext (λ m. fun_ext (λ H. unfold lowest_from in lowest-round p (declarations p) m H))

-- each round before changes something
pub rounds-change : (p : Program) (i : ℕ) → i < rounds p → after p (declarations p) (suc i) ≡ after p (declarations p) i → ⊥
unfolding after rounds settled
rounds-change p i h e =
    let d = differs p (declarations p) (after p (declarations p) i) (after p (declarations p) (suc i)) (rounds-least p (declarations p) i h) in
    d.3 (ap (λ (a : Assignment). a d.0 d.1) (sym e))

pub rounds-within : (p : Program) → rounds p ≤ 4 * open_entries p (declarations p)
unfolding rounds
rounds-within p = rounds-bound p (declarations p)

-- "with none undeclared it is 0"
pub rounds-all-declared : (p : Program) → ((m : ℕ) → m < method_count p → T (is_declared p m)) → rounds p ≡ 0
unfolding rounds declarations
rounds-all-declared p h = rounds-none p (declarations p) h

-- where the declared grades are grades, all grades found are
pub grades-error : (p : Program) → ((m H : ℕ) → T (is_entry p m H) → T (is_declared p m) → declared_table p m H ≤ error) → (m H : ℕ) → lowest p m H ≤ error
unfolding lowest declarations
grades-error p h m H = lowest-error p (declarations p) h m H
