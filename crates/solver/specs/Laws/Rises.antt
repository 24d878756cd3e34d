-- Rises noted round by round are the rises of all rounds so far.
-- Assumes nothing.
use Rattle.std.specs.Prelude.{ℕ, zero, suc, ◌*◌, ◌/◌, ◌%◌, ◌≤◌, ◌<◌, Bool, ◌&&◌, List, ◌≡◌, length, get_or, replicate}
use Rattle.std.proofs.Math.Bool.{true, false, cond}
use Rattle.std.proofs.Math.Path.{refl}
use Rattle.std.proofs.Common.{sym, ap, ap₂, ◌∙◌, subst, le_trans, arith, ext_get_or}
use Rattle.std.proofs.Math.Decide.{dec_lt}
use borrow.Author.Tests.{lt-ltb, le-ltb, le-leb, lt-leb}
use Rattle.std.proofs.Math.Dec.{T, leb, ltb}
use Rattle.std.proofs.Math.ListN.{get_or-eq_default}
use Rattle.std.proofs.lemmas.List.{length-replicate, get_or-replicate}
use Rattle.counting.specs.Counting.{first}
use Rattle.counting.specs.Laws.Counting.{first-none, first_more}
use Rattle.counting.specs.Laws.Lists.{length-tabulate, get_or-tabulate}
use Rattle.frames.specs.Layout.{layout, answer_length}
use Rattle.frames.specs.Frames.{methods_in}
use Rattle.frames.specs.Tables.{cell}
use Rattle.meaning.specs.Lowest.{declarations}
use Rattle.meaning.proofs.Laws.Lowest.{after-rises, after-outside}
use Rattle.solver.specs.Flat.{program_in, blank, flat}
use Rattle.solver.specs.Laws.Flat.{flat-length, flat-at, no-entry-method, not_entry, blank-at}
use Rattle.solver.specs.Laws.Rounds.{after_rounds}
use Rattle.solver.specs.Code.Rounds.{Fits}
use Rattle.solver.specs.Rises.{never, rises_length, rise_by, entry_after, rises_after}
use Rattle.solver.specs.Code.Rises.{noted, Noted}

-- ---- one entry

module _ (f : ℕ → ℕ) (rises : (i : ℕ) → f i ≤ f (suc i)) where
  rises-to : (n i : ℕ) → i ≤ n → f i ≤ f n
  rises-to zero i h = let same : i ≡ 0 = omega arith in omega (arith, ap f same)
  rises-to (suc n) i h = go (rises-to n i) (dec_lt i (suc n))
    where
      go : (i ≤ n → f i ≤ f n) → Dec (i < suc n) → f i ≤ f (suc n)
      go before (yes l) = le_trans (before (omega arith)) (rises n)
      go before (no l) = let same : i ≡ suc n = omega arith in omega (arith, ap f same)

  pub rise-next : (n g : ℕ) → rise_by f (suc n) (suc g) ≡ noted (rise_by f n (suc g)) (f n) (f (suc n)) g (suc n)
  unfolding rise_by noted
  rise-next n g = go (dec_lt g (f n)) (dec_lt g (f (suc n)))
    where
      go : Dec (g < f n) → Dec (g < f (suc n))
          → cond (leb (suc g) (f (suc n))) (first (suc n) (λ i. leb (suc g) (f i))) never
          ≡ cond (leb (f n) g && ltb g (f (suc n))) (suc n) (cond (leb (suc g) (f n)) (first n (λ i. leb (suc g) (f i))) never)
      go (yes a) _ =
          rw (le-leb (suc g) (f (suc n)) (omega (arith, rises n)))
          (rw (lt-leb (f n) g a)
          (rw (le-leb (suc g) (f n) (omega arith))
          (first_more n (λ i. leb (suc g) (f i)) (subst T (sym (le-leb (suc g) (f n) (omega arith))) tt))))
      go (no a) (yes b) =
          rw (le-leb (suc g) (f (suc n)) (omega arith))
          (rw (le-leb (f n) g (omega arith))
          (first-none (suc n) (λ i. leb (suc g) (f i)) (λ i l. lt-leb (suc g) (f i) (omega (arith, rises-to n i (omega arith))))))
      go (no a) (no b) =
          rw (lt-leb (suc g) (f (suc n)) (omega arith))
          (rw (lt-leb (suc g) (f n) (omega arith)) (no-matter (leb (f n) g)))
        where
          no-matter : (b : Bool) → never ≡ cond (b && false) (suc n) never
          no-matter true = refl
          no-matter false = refl

pub rise-start : (f : ℕ → ℕ) (g : ℕ) → rise_by f 0 (suc g) ≡ noted never 0 (f 0) g 0
unfolding rise_by noted
rise-start f g = go (dec_lt g (f 0))
  where
    go : Dec (g < f 0) → cond (leb (suc g) (f 0)) (first 0 (λ i. leb (suc g) (f i))) never ≡ cond (leb 0 g && ltb g (f 0)) 0 never
    go (yes a) = rw (le-leb (suc g) (f 0) (omega arith)) (rw (le-leb 0 g (omega arith)) (unfold first in refl))
    go (no a) = rw (lt-leb (suc g) (f 0) (omega arith)) (rw (le-leb 0 g (omega arith)) refl)

-- an entry has risen past the grades from its old one up to its new one, and past no other
pub risen-past : (before old new g n : ℕ) → old ≤ g → g < new → n ≡ noted before old new g n
unfolding noted
risen-past before old new g n h l = rw (le-leb old g h) (rw (lt-ltb g new l) refl)

pub not-risen : (before old new g n : ℕ) → (old ≤ g → new ≤ g) → before ≡ noted before old new g n
unfolding noted
not-risen before old new g n h = go (dec_lt g old)
  where
    go : Dec (g < old) → before ≡ cond (leb old g && ltb g new) n before
    go (yes l) = rw (lt-leb old g l) refl
    go (no l) = rw (le-leb old g (omega arith)) (rw (le-ltb g new (h (omega arith))) refl)

-- an entry that stays as it was has not risen
pub same_noted : (before old new g n : ℕ) → old ≡ new → before ≡ noted before old new g n
same_noted before old new g n e = not-risen before old new g n (λ h. omega arith)

-- ---- all entries

-- rises noted at the places of all methods are noted everywhere
noted-everywhere : (b : ℕ) (old new : List ℕ) (n : ℕ) (from to : List ℕ) → Noted (layout.most_grade * b) old new n from to
    → ((e : ℕ) → b ≤ e → get_or old e 0 ≡ 0) → ((e : ℕ) → b ≤ e → get_or new e 0 ≡ 0) → (i : ℕ)
    → get_or to i 0 ≡ noted (get_or from i 0) (get_or old (i / layout.most_grade) 0) (get_or new (i / layout.most_grade) 0) (i % layout.most_grade) n
noted-everywhere b old new n from to s o e i = go (dec_lt i (layout.most_grade * b))
  where
    go : Dec (i < layout.most_grade * b)
        → get_or to i 0 ≡ noted (get_or from i 0) (get_or old (i / layout.most_grade) 0) (get_or new (i / layout.most_grade) 0) (i % layout.most_grade) n
    go (yes l) = s.done i l
    go (no l) =
        s.rest i (omega arith)
        ∙ same_noted (get_or from i 0) (get_or old (i / layout.most_grade) 0) (get_or new (i / layout.most_grade) 0) (i % layout.most_grade) n
        (o (i / layout.most_grade) (omega arith) ∙ sym (e (i / layout.most_grade) (omega arith)))

pub rises-length : (t : List ℕ) (n : ℕ) → length (rises_after (program_in t) n) ≡ rises_length
unfolding rises_after
rises-length t n = length-tabulate rises_length _

pub rises-at : (t : List ℕ) (n i : ℕ) → i < rises_length
    → get_or (rises_after (program_in t) n) i 0 ≡ rise_by (entry_after (program_in t) (i / layout.most_grade)) n (suc (i % layout.most_grade))
unfolding rises_after
rises-at t n i h = get_or-tabulate rises_length _ i 0 h

module _ (t : List ℕ) (fits : Fits t) where
  -- past the entries of all methods there is nothing
  none-past : (n e : ℕ) → layout.grades * methods_in (cell t) ≤ e → get_or (flat (after_rounds t n)) e 0 ≡ 0
  none-past n e h = go (dec_lt e answer_length)
    where
      go : Dec (e < answer_length) → get_or (flat (after_rounds t n)) e 0 ≡ 0
      go (yes l) =
          flat-at (after_rounds t n) e l
          ∙ after-outside (program_in t) (declarations (program_in t)) n (e / layout.grades) (e % layout.grades)
          (not_entry _ (no-entry-method t fits (e / layout.grades) (e % layout.grades) (omega arith)))
      go (no l) = get_or-eq_default (flat (after_rounds t n)) 0 (omega (arith, flat-length (after_rounds t n)))

  pub rises-start : (to : List ℕ)
      → Noted (layout.most_grade * (layout.grades * methods_in (cell t))) blank (flat (after_rounds t 0)) 0 (replicate rises_length never) to
      → to ≡ rises_after (program_in t) 0
  rises-start to s =
      ext_get_or 0 to (rises_after (program_in t) 0) (s.size ∙ length-replicate {A = ℕ} rises_length never ∙ sym (rises-length t 0))
      (λ i l. let inside : i < rises_length = omega (arith, s.size, length-replicate {A = ℕ} rises_length never) in
      noted-everywhere (layout.grades * methods_in (cell t)) blank (flat (after_rounds t 0)) 0 (replicate rises_length never) to s (λ e _. blank-at e) (none-past 0) i
      ∙ ap₂ (λ (v x : ℕ). noted v x (get_or (flat (after_rounds t 0)) (i / layout.most_grade) 0) (i % layout.most_grade) 0)
      (get_or-replicate {A = ℕ} rises_length i never 0 inside) (blank-at (i / layout.most_grade))
      ∙ ap (λ (x : ℕ). noted never 0 x (i % layout.most_grade) 0) (flat-at (after_rounds t 0) (i / layout.most_grade) (omega arith))
      ∙ sym (rise-start (entry_after (program_in t) (i / layout.most_grade)) (i % layout.most_grade))
      ∙ sym (rises-at t 0 i inside))

  pub rises_next : (n : ℕ) (to : List ℕ)
      → Noted (layout.most_grade * (layout.grades * methods_in (cell t))) (flat (after_rounds t n)) (flat (after_rounds t (suc n))) (suc n) (rises_after (program_in t) n) to
      → to ≡ rises_after (program_in t) (suc n)
  rises_next n to s =
      ext_get_or 0 to (rises_after (program_in t) (suc n)) (s.size ∙ rises-length t n ∙ sym (rises-length t (suc n)))
      (λ i l. let inside : i < rises_length = omega (arith, s.size, rises-length t n) in
      noted-everywhere (layout.grades * methods_in (cell t)) (flat (after_rounds t n)) (flat (after_rounds t (suc n))) (suc n) (rises_after (program_in t) n) to s (none-past n) (none-past (suc n)) i
      ∙ ap (λ (v : ℕ). noted v (get_or (flat (after_rounds t n)) (i / layout.most_grade) 0) (get_or (flat (after_rounds t (suc n))) (i / layout.most_grade) 0) (i % layout.most_grade) (suc n))
      (rises-at t n i inside)
      ∙ ap₂ (λ (x y : ℕ). noted (rise_by (entry_after (program_in t) (i / layout.most_grade)) n (suc (i % layout.most_grade))) x y (i % layout.most_grade) (suc n))
      (flat-at (after_rounds t n) (i / layout.most_grade) (omega arith)) (flat-at (after_rounds t (suc n)) (i / layout.most_grade) (omega arith))
      ∙ sym (rise-next (entry_after (program_in t) (i / layout.most_grade))
      (λ j. after-rises (program_in t) (declarations (program_in t)) j (i / layout.most_grade / layout.grades) (i / layout.most_grade % layout.grades)) n (i % layout.most_grade))
      ∙ sym (rises-at t (suc n) i inside))
