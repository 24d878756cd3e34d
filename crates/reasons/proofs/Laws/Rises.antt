-- Entries rise with the rounds, and so each grade of an entry has a first round. The place of a method's root in that round has that grade.
-- Assumes nothing.
use Rattle.std.specs.Prelude.{ℕ, zero, suc, ◌≤◌, ◌<◌, Bool, not, ◌≡◌, T, eqb}
use Rattle.std.proofs.Common.{⊎_elim, sym, ap, ◌∙◌, subst, le_refl, le_trans, arith, eqb→eq, T_not}
use Rattle.std.proofs.Math.Decide.{dec_lt}
use Rattle.std.proofs.Math.Dec.{eqb_refl}
use Rattle.grades.specs.Grades.{error}
use Rattle.counting.specs.Counting.{first}
use Rattle.counting.specs.Laws.Tests.{lt-or-le, either-passes}
use Rattle.counting.specs.Laws.Counting.{first-bound, first_passes, first-least}
use Rattle.frames.specs.Program.{Program}
use Rattle.frames.specs.WellFormed.{WellFormed}
use Rattle.meaning.specs.Meaning.{Assignment, root_table}
use Rattle.meaning.specs.Lowest.{method_count, is_entry, round, after, is_declared, declared_table, declarations, rounds, lowest}
use Rattle.meaning.specs.Constraints.{Entry}
use Rattle.meaning.proofs.Laws.Lowest.{is_entry-of, entry-method, after-rises, after-fixed, after-outside, after-error}
use Rattle.meaning.proofs.Laws.Rounds.{start-undeclared, round-undeclared, lowest-after, rounds-stop}
use Rattle.reasons.specs.Steps.{tables_before, grade_at, first_round, root_place, first_place}

pub is-entry : (p : Program) (m H : ℕ) → Entry p m H → T (is_entry p m H)
is-entry p m H e = is_entry-of p m H e.method e.set

-- ---- entries rise

pub entry-rises : (p : Program) (n n' m H : ℕ) → n ≤ n' → after p (declarations p) n m H ≤ after p (declarations p) n' m H
entry-rises p n zero m H h = let same : n ≡ zero = omega arith in subst (λ (i : ℕ). after p (declarations p) n m H ≤ after p (declarations p) i m H) same (le_refl _)
entry-rises p n (suc n') m H h =
    ⊎_elim
    (λ (l : n' < n). let same : n ≡ suc n' = omega arith in subst (λ (i : ℕ). after p (declarations p) n m H ≤ after p (declarations p) i m H) same (le_refl _))
    (λ (l : n ≤ n'). le_trans (entry-rises p n n' m H l) (after-rises p (declarations p) n' m H))
    (lt-or-le n' n)

-- after the last round nothing changes
pub stays-lowest : (p : Program) (n : ℕ) → rounds p ≤ n → after p (declarations p) n ≡ after p (declarations p) (rounds p)
unfolding after
stays-lowest p zero h = let same : zero ≡ rounds p = omega arith in ap (after p (declarations p)) same
stays-lowest p (suc n) h =
    ⊎_elim
    (λ (l : n < rounds p). let same : suc n ≡ rounds p = omega arith in ap (after p (declarations p)) same)
    (λ (l : rounds p ≤ n). ap (round p (declarations p)) (stays-lowest p n l) ∙ rounds-stop p)
    (lt-or-le n (rounds p))

-- ---- all entries are grades

pub declared-grade : (p : Program) → WellFormed p → (m H : ℕ) → m < method_count p → declared_table p m H ≤ error
unfolding method_count declared_table
declared-grade p w m H h = (w.methods m h).grades H

pub entry-grade : (p : Program) → WellFormed p → (n m H : ℕ) → after p (declarations p) n m H ≤ error
unfolding declarations
entry-grade p w n m H =
    either-passes (after p (declarations p) n m H ≤ error) (is_entry p m H)
    (λ t. either-passes (after p (declarations p) n m H ≤ error) (is_declared p m)
    (λ d. subst (λ (x : ℕ). x ≤ error) (sym (after-fixed p (declarations p) n m H t d)) (declared-grade p w m H (entry-method p m H t)))
    (λ d. after-error p (declarations p) n m H t d))
    (λ t. omega (arith, after-outside p (declarations p) n m H t))

pub declared-stays : (p : Program) (n m H : ℕ) → Entry p m H → T (is_declared p m) → after p (declarations p) n m H ≡ declared_table p m H
unfolding declarations
declared-stays p n m H e d = after-fixed p (declarations p) n m H (is-entry p m H e) d

-- "Start with every undeclared table all 0", and each round gives the root's
pub undeclared-start : (p : Program) (m H : ℕ) → Entry p m H → T (not (is_declared p m)) → after p (declarations p) 0 m H ≡ 0
unfolding after
undeclared-start p m H e u = start-undeclared p m H (is-entry p m H e) u

pub undeclared-next : (p : Program) (n m H : ℕ) → Entry p m H → T (not (is_declared p m))
    → after p (declarations p) (suc n) m H ≡ root_table p (after p (declarations p) n) m H
unfolding after
undeclared-next p n m H e u = round-undeclared p (after p (declarations p) n) m H (is-entry p m H e) u

-- ---- the round at which an entry first got a grade

pub first-at-least-one : (p : Program) (m H g : ℕ) → 1 ≤ first_round p m H g
unfolding first_round
first-at-least-one p m H g = omega arith

pub first-at-most : (p : Program) (m H g : ℕ) → first_round p m H g ≤ suc (rounds p)
unfolding first_round
first-at-most p m H g = omega (arith, first-bound (rounds p) (λ n. eqb (after p (declarations p) (suc n) m H) g))

-- a grade that an entry has after some round, from the first on, it has after its first round, which is no later
pub record FirstRound (p : Program) (m H g n : ℕ) : Type 0 where
  pub no_later : first_round p m H g ≤ n
  pub has : after p (declarations p) (first_round p m H g) m H ≡ g

pub first_round_lem : (p : Program) (n m H g : ℕ) → 1 ≤ n → after p (declarations p) n m H ≡ g → FirstRound p m H g n
unfolding first_round
first_round_lem p zero m H g h e = absurd (omega arith)
first_round_lem p (suc n) m H g h e = go (dec_lt found (rounds p)) (dec_lt n found)
  where
    test : ℕ → Bool
    test i = eqb (after p (declarations p) (suc i) m H) g

    found : ℕ
    found = first (rounds p) test

    passes : T (test n)
    passes = subst (λ (x : ℕ). T (eqb x g)) (sym e) (eqb_refl g)

    bound : found ≤ rounds p
    bound = first-bound (rounds p) test

    go : Dec (found < rounds p) → Dec (n < found) → FirstRound p m H g (suc n)
    go d (yes l) = absurd (T_not (test n) (first-least (rounds p) test n l) passes)
    go (yes k) (no l) = record { no_later = omega arith; has = eqb→eq _ g (first_passes (rounds p) test k) }
    go (no k) (no l) =
        let last : rounds p ≤ suc found = omega arith in
        let past : rounds p ≤ suc n = omega arith in
        record {
          no_later = omega arith;
          has = ap (λ (a : Assignment). a m H) (stays-lowest p (suc found) last ∙ sym (stays-lowest p (suc n) past)) ∙ e;
        }

-- a grade over 0 that an undeclared entry has after some round
pub first-risen : (p : Program) (n m H g : ℕ) → Entry p m H → T (not (is_declared p m)) → 1 ≤ g → after p (declarations p) n m H ≡ g → FirstRound p m H g n
first-risen p zero m H g e u h s = absurd (omega (arith, undeclared-start p m H e u))
first-risen p (suc n) m H g e u h s = first_round_lem p (suc n) m H g (omega arith) s

-- the grade of the lowest tables, 0 too
pub first-final : (p : Program) (m H : ℕ) → FirstRound p m H (lowest p m H) (suc (rounds p))
first-final p m H =
    first_round_lem p (suc (rounds p)) m H (lowest p m H) (omega arith)
    (ap (λ (a : Assignment). a m H) (rounds-stop p ∙ sym (lowest-after p)))

-- ---- a root's place has the grade

pub root-grade : (p : Program) (n m H g : ℕ) → Entry p m H → T (not (is_declared p m)) → FirstRound p m H g n → grade_at p (root_place p m H g) ≡ g
unfolding grade_at root_place tables_before first_round root_table
root-grade p n m H g e u f =
    sym (undeclared-next p (first (rounds p) (λ i. eqb (after p (declarations p) (suc i) m H) g)) m H e u) ∙ f.has

-- "The first step is the method's root, in the first round at which its entry is final."
pub first-grade : (p : Program) (m H : ℕ) → Entry p m H → T (not (is_declared p m)) → grade_at p (first_place p m H) ≡ lowest p m H
unfolding first_place
first-grade p m H e u = root-grade p (suc (rounds p)) m H (lowest p m H) e u (first-final p m H)
