-- The tables before a round and the first round of a grade, read off the rounds of the rises.
-- Assumes nothing.
use Prim.Native.Nat.{ℕ, zero, suc, pred, ◌+◌, ◌*◌, ◌/◌, ◌%◌, ◌≤◌, ◌<◌}
use mathlib.Core.Bool.{Bool, not, cond, ◌&&◌}
use Rattle.std.specs.Prelude.{List, ◌≡◌, refl, length, get_or}
use Rattle.std.proofs.Math.Path.{sym, ap, ap₂, subst}
use Rattle.std.proofs.Common.{◌∙◌, lt-ltb, le-ltb, le-leb}
use Rattle.std.proofs.Math.Decide.{dec_lt, dec_le, ℕ_discrete}
use native.Mathlib.Omega.{arith}
use Rattle.std.proofs.lemmas.Bool.{lt-leb}
use lib.Dec.{T, leb, ltb, eqb, eqb→eq}
use Rattle.std.proofs.Math.Seq.{ext_get_or}
use Rattle.counting.specs.Counting.{first, every}
use Rattle.counting.specs.Laws.Counting.{first-bound, first_passes, first-least, first-unique, every-at}
use Rattle.counting.specs.Laws.Lists.{length-tabulate, get_or-tabulate}
use Rattle.frames.specs.Layout.{layout, answer_length}
use Rattle.frames.specs.Frames.{methods_in}
use Rattle.frames.specs.Tables.{cell}
use Rattle.meaning.specs.Meaning.{Assignment}
use Rattle.meaning.specs.Lowest.{method_count, entry_count, is_entry, after, declarations, is_declared, rounds}
use Rattle.meaning.proofs.Laws.Lowest.{after-outside}
use Rattle.meaning.specs.Constraints.{Entry}
use Rattle.reasons.specs.Steps.{tables_before, first_round}
use Rattle.reasons.proofs.Laws.Rises.{entry-rises, entry-grade, stays-lowest, undeclared-start, first-at-least-one, first_round_lem, first-risen}
use Rattle.solver.specs.Flat.{program_in, flat, tables_in}
use Rattle.solver.specs.Rises.{never, rise_by, entry_after, rises}
use Rattle.solver.specs.Laws.Rounds.{read_back, rounds-few}
use Rattle.solver.specs.Laws.Views.{method-count}
use Rattle.solver.specs.Laws.Rises.{rises-at}
use Rattle.explainer.specs.Code.Before.{risen_past, risen_count, tables_at, round_at}
use Rattle.explainer.specs.Code.Lower.{Read}

-- ---- one entry, round by round

module _ (f : ℕ → ℕ) (rises : (i j : ℕ) → i ≤ j → f i ≤ f j) (N : ℕ) (few : N < never) where
  -- an entry has risen to g by round n exactly if it is g or over after round n
  pub risen-by : (n g : ℕ) → n ≤ N → ltb (rise_by f N g) (suc n) ≡ leb g (f n)
  unfolding rise_by
  risen-by n g h = go (dec_le g (f n)) (dec_le g (f N))
    where
      test : ℕ → Bool
      test i = leb g (f i)

      go : Dec (g ≤ f n) → Dec (g ≤ f N) → ltb (cond (leb g (f N)) (first N (λ i. leb g (f i))) never) (suc n) ≡ leb g (f n)
      go (yes a) _ =
          rw (le-leb g (f N) (omega (arith, rises n N h)))
          (lt-ltb _ (suc n) (no-later (dec_lt n (first N (λ i. leb g (f i))))) ∙ sym (le-leb g (f n) a))
        where
          no-later : Dec (n < first N (λ i. leb g (f i))) → first N (λ i. leb g (f i)) < suc n
          no-later (yes l) =
              absurd (lib.Dec.T_not (leb g (f n)) (first-least N (λ i. leb g (f i)) n l) (subst T (sym (le-leb g (f n) a)) tt))
          no-later (no l) = omega arith
      go (no a) (yes b) =
          rw (le-leb g (f N) b)
          (le-ltb _ (suc n) (later (dec_lt (first N (λ i. leb g (f i))) (suc n)) (dec_lt (first N (λ i. leb g (f i))) N)) ∙ sym (lt-leb g (f n) (omega arith)))
        where
          later : Dec (first N (λ i. leb g (f i)) < suc n) → Dec (first N (λ i. leb g (f i)) < N) → suc n ≤ first N (λ i. leb g (f i))
          later (no l) _ = omega arith
          later (yes l) (yes k) =
              absurd (omega (arith, lib.Dec.leb→le g (f (first N (λ i. leb g (f i)))) (first_passes N (λ i. leb g (f i)) k), rises (first N (λ i. leb g (f i))) n (omega arith)))
          later (yes l) (no k) =
              let same : N ≡ n = omega (arith, first-bound N (λ i. leb g (f i))) in absurd (omega (arith, ap f same))
      go (no a) (no b) = rw (lt-leb g (f N) (omega arith)) (le-ltb never (suc n) (omega arith) ∙ sym (lt-leb g (f n) (omega arith)))

  -- the first round after which an entry is g or over, where it is g then and less before
  pub risen-first : (r g : ℕ) → r ≤ N → g ≤ f r → ((j : ℕ) → j < r → f j < g) → rise_by f N g ≡ r
  unfolding rise_by
  risen-first r g h here less = rw (le-leb g (f N) (omega (arith, rises r N h))) (go (dec_lt r N))
    where
      go : Dec (r < N) → first N (λ i. leb g (f i)) ≡ r
      go (yes l) =
          first-unique N (λ i. leb g (f i)) r l (subst T (sym (le-leb g (f r) here)) tt)
          (λ j k. subst (λ (b : Bool). T (mathlib.Core.Bool.not b)) (sym (lt-leb g (f j) (less j k))) tt)
      go (no l) = at-end (dec_lt (first N (λ i. leb g (f i))) N)
        where
          at-end : Dec (first N (λ i. leb g (f i)) < N) → first N (λ i. leb g (f i)) ≡ r
          at-end (yes k) =
              absurd (omega (arith, lib.Dec.leb→le g (f (first N (λ i. leb g (f i)))) (first_passes N (λ i. leb g (f i)) k), less (first N (λ i. leb g (f i))) (omega arith)))
          at-end (no k) = omega (arith, first-bound N (λ i. leb g (f i)))

-- a grade is as many as the grades that it has reached
reached : (x : ℕ) → x ≤ 4 → cond (leb 1 x) 1 0 + cond (leb 2 x) 1 0 + (cond (leb 3 x) 1 0 + cond (leb 4 x) 1 0) ≡ x
reached x h = eqb→eq _ x (every-at 5 (λ i. eqb (cond (leb 1 i) 1 0 + cond (leb 2 i) 1 0 + (cond (leb 3 i) 1 0 + cond (leb 4 i) 1 0)) i) all x (omega arith))
  where
    all : T (every 5 (λ i. eqb (cond (leb 1 i) 1 0 + cond (leb 2 i) 1 0 + (cond (leb 3 i) 1 0 + cond (leb 4 i) 1 0)) i))
    all = unfold every in tt

-- ---- all entries

pub tables-at : (noted : List ℕ) (round e : ℕ) → e < answer_length → get_or (tables_at noted round) e 0 ≡ risen_count noted e round
unfolding tables_at
tables-at noted round e h = get_or-tabulate answer_length _ e 0 h

pub tables-length : (noted : List ℕ) (round : ℕ) → length (tables_at noted round) ≡ answer_length
unfolding tables_at
tables-length noted round = length-tabulate answer_length _

module _ (t : List ℕ) (read : Read t) where
  few-rounds : rounds (program_in t) < never
  few-rounds = omega (arith, rounds-few t read.fits)

  noted-at : (e g : ℕ) → e < answer_length → g < 4 → get_or (rises (program_in t)) (layout.most_grade * e + g) 0 ≡ rise_by (entry_after (program_in t) e) (rounds (program_in t)) (suc g)
  unfolding rises
  noted-at e g h l =
      rises-at t (rounds (program_in t)) (layout.most_grade * e + g) (omega arith)
      ∙ ap₂ (λ (x y : ℕ). rise_by (entry_after (program_in t) x) (rounds (program_in t)) (suc y))
      (let one : (layout.most_grade * e + g) / layout.most_grade ≡ e = omega arith in one) (let two : (layout.most_grade * e + g) % layout.most_grade ≡ g = omega arith in two)

  entry-rising : (e i j : ℕ) → i ≤ j → entry_after (program_in t) e i ≤ entry_after (program_in t) e j
  entry-rising e i j h = entry-rises (program_in t) i j (e / layout.grades) (e % layout.grades) h

  past-at : (e n g : ℕ) → e < answer_length → g < 4 → n ≤ rounds (program_in t)
      → risen_past (rises (program_in t)) e (suc n) g ≡ cond (leb (suc g) (entry_after (program_in t) e n)) 1 0
  unfolding risen_past
  past-at e n g h l few =
      ap (λ (r : ℕ). cond (ltb r (suc n)) 1 0) (noted-at e g h l)
      ∙ ap (λ (b : Bool). cond b 1 0) (risen-by (entry_after (program_in t) e) (entry-rising e) (rounds (program_in t)) few-rounds n (suc g) few)

  counted-at : (e n : ℕ) → e < answer_length → n ≤ rounds (program_in t) → risen_count (rises (program_in t)) e (suc n) ≡ entry_after (program_in t) e n
  unfolding risen_count
  counted-at e n h few =
      ap₂ {C = ℕ} (λ (x y : ℕ). x + y)
      (ap₂ {C = ℕ} (λ (x y : ℕ). x + y) (past-at e n 0 h (omega arith) few) (past-at e n 1 h (omega arith) few))
      (ap₂ {C = ℕ} (λ (x y : ℕ). x + y) (past-at e n 2 h (omega arith) few) (past-at e n 3 h (omega arith) few))
      ∙ reached (entry_after (program_in t) e n) (entry-grade (program_in t) read.well_formed n (e / layout.grades) (e % layout.grades))

  module _ (round : ℕ) (some : 1 ≤ round) (few : round ≤ suc (rounds (program_in t))) where
    -- an entry before a round
    pub entry_known : (m S : ℕ) → m < layout.most_methods → S < layout.grades
        → risen_count (rises (program_in t)) (layout.grades * m + S) round ≡ tables_before (program_in t) round m S
    unfolding tables_before
    entry_known m S h l =
        let again : suc (pred round) ≡ round = omega arith in
        ap (risen_count (rises (program_in t)) (layout.grades * m + S)) (sym again)
        ∙ counted-at (layout.grades * m + S) (pred round) (omega arith) (omega arith)
        ∙ ap₂ (after (program_in t) (declarations (program_in t)) (pred round))
        (let one : (layout.grades * m + S) / layout.grades ≡ m = omega arith in one) (let two : (layout.grades * m + S) % layout.grades ≡ S = omega arith in two)

    -- an entry of a method that the program lacks
    pub past-known : (e : ℕ) → layout.grades * methods_in (cell t) ≤ e → e < answer_length → risen_count (rises (program_in t)) e round ≡ 0
    unfolding tables_before is_entry
    past-known e past h =
        let whole : layout.grades * (e / layout.grades) + e % layout.grades ≡ e = omega arith in
        let lacks : method_count (program_in t) ≤ e / layout.grades = omega (arith, method-count t) in
        ap (λ (i : ℕ). risen_count (rises (program_in t)) i round) (sym whole)
        ∙ entry_known (e / layout.grades) (e % layout.grades) (omega arith) (omega arith)
        ∙ after-outside (program_in t) (declarations (program_in t)) (pred round) (e / layout.grades) (e % layout.grades)
        (subst (λ (b : Bool). T (not (b && ltb (e % layout.grades) (entry_count (program_in t) (e / layout.grades))))) (sym (le-ltb (e / layout.grades) (method_count (program_in t)) lacks)) tt)

    flat-known : tables_at (rises (program_in t)) round ≡ flat (tables_before (program_in t) round)
    unfolding flat
    flat-known =
        ext_get_or 0 _ _ (tables-length (rises (program_in t)) round ∙ sym (length-tabulate answer_length _))
        (λ e l. let inside : e < answer_length = omega (arith, tables-length (rises (program_in t)) round) in
        let whole : layout.grades * (e / layout.grades) + e % layout.grades ≡ e = omega arith in
        tables-at (rises (program_in t)) round e inside
        ∙ ap (λ (i : ℕ). risen_count (rises (program_in t)) i round) (sym whole)
        ∙ entry_known (e / layout.grades) (e % layout.grades) (omega arith) (omega arith)
        ∙ sym (get_or-tabulate answer_length _ e 0 inside))

    -- all tables before a round
    pub tables-known : tables_in (tables_at (rises (program_in t)) round) ≡ tables_before (program_in t) round
    unfolding tables_before
    tables-known = ap tables_in flat-known ∙ read_back t read.fits (pred round)

  -- the first round of a grade that an undeclared entry has after some round
  pub round-known : (m S g n : ℕ) → Entry (program_in t) m S → T (not (is_declared (program_in t) m)) → m < layout.most_methods → S < layout.grades → g ≤ 4
      → n ≤ rounds (program_in t) → after (program_in t) (declarations (program_in t)) n m S ≡ g → (g ≡ 0 → n ≡ rounds (program_in t))
      → round_at (rises (program_in t)) (layout.grades * m + S) g ≡ first_round (program_in t) m S g
  round-known m S zero n e u h l k few is final =
      let p = program_in t in
      let last : after p (declarations p) (suc (rounds p)) m S ≡ 0
      = ap (λ (a : Assignment). a m S) (stays-lowest p (suc (rounds p)) (omega arith)) ∙ ap (λ (i : ℕ). after p (declarations p) i m S) (sym (final refl)) ∙ is in
      let one : after p (declarations p) 1 m S ≡ 0 = omega (arith, entry-rises p 1 (suc (rounds p)) m S (omega arith)) in
      omega (arith, first-at-least-one p m S 0, (first_round_lem p 1 m S 0 (omega arith) one).no_later)
  round-known m S (suc g) n e u h l k few is final =
      let p = program_in t in
      let found = first-risen p n m S (suc g) e u (omega arith) is in
      noted-at (layout.grades * m + S) g (omega arith) (omega arith)
      ∙ risen-first (entry_after p (layout.grades * m + S)) (entry-rising (layout.grades * m + S)) (rounds p) few-rounds (first_round p m S (suc g)) (suc g)
      (omega (arith, found.no_later)) (omega (arith, at_entry (first_round p m S (suc g)), found.has))
      (λ j b. omega (arith, at_entry j, less j b (ℕ_discrete j 0)))
    where
      at_entry : (i : ℕ) → entry_after (program_in t) (layout.grades * m + S) i ≡ after (program_in t) (declarations (program_in t)) i m S
      at_entry i =
          ap₂ (after (program_in t) (declarations (program_in t)) i)
          (let one : (layout.grades * m + S) / layout.grades ≡ m = omega arith in one) (let two : (layout.grades * m + S) % layout.grades ≡ S = omega arith in two)

      less : (j : ℕ) → j < first_round (program_in t) m S (suc g) → Dec (j ≡ 0) → after (program_in t) (declarations (program_in t)) j m S < suc g
      less j b (yes z) = omega (arith, ap (λ (i : ℕ). after (program_in t) (declarations (program_in t)) i m S) z, undeclared-start (program_in t) m S e u)
      less j b (no z) = go (dec_lt (after (program_in t) (declarations (program_in t)) j m S) (suc g))
        where
          go : Dec (after (program_in t) (declarations (program_in t)) j m S < suc g) → after (program_in t) (declarations (program_in t)) j m S < suc g
          go (yes y) = y
          go (no y) =
              let p = program_in t in
              let found = first-risen p n m S (suc g) e u (omega arith) is in
              let there : after p (declarations p) j m S ≡ suc g = omega (arith, entry-rises p j (first_round p m S (suc g)) m S (omega arith), found.has) in
              absurd (omega (arith, (first_round_lem p j m S (suc g) (omega arith) there).no_later))
