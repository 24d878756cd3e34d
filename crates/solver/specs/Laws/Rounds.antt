-- Rounds over flat tables: each is the next of `meaning`'s rounds, and they stop where those do.
-- Assumes nothing.
use Rattle.std.specs.Prelude.{ℕ, zero, suc, ◌+◌, ◌*◌, ◌/◌, ◌%◌, ◌≤◌, ◌<◌, Bool, not, List, ◌≡◌, get_or}
use Rattle.std.proofs.Math.Bool.{true, false, cond}
use Rattle.std.proofs.Math.Path.{refl, sym, ap, subst, fun_ext}
use Rattle.std.proofs.Common.{◌∙◌, subst₂, mul-suc, eq-eqb, T_not}
use Rattle.std.proofs.Math.Decide.{dec_lt}
use native.Mathlib.Omega.{arith}
use Rattle.std.proofs.Math.Dec.{T, not_T}
use Rattle.frames.specs.Layout.{layout, answer_length}
use Rattle.frames.specs.Frames.{methods_in}
use Rattle.frames.specs.Tables.{cell}
use Rattle.counting.specs.Laws.Tests.{either-passes}
use Rattle.meaning.specs.Meaning.{Assignment}
use Rattle.counting.specs.Counting.{total}
use Rattle.counting.specs.Laws.Counting.{every_of}
use Rattle.meaning.specs.Lowest.{method_count, entry_count, is_entry, after, round, same, settled, open_entries, rounds_from, lowest_from, rounds, lowest, is_declared, declarations}
use Rattle.meaning.proofs.Laws.Lowest.{after-fixed, after-outside, same_at, rounds-bound, rounds-settled, rounds-unique}
use Rattle.solver.specs.Laws.Views.{method-count}
use Rattle.solver.specs.Flat.{program_in, flat, tables_in}
use Rattle.solver.specs.Laws.Flat.{flat-length, flat-at, flat-entry, flat-read, few-entries, entry-count, no-entry-far, no-entry-wide, not_entry}
use Rattle.solver.specs.Code.Rounds.{Fits, Still, SameTo, start_tables, round_tables}

-- a sum of n numbers of at most b each
total-most : (n b : ℕ) (f : ℕ → ℕ) → ((i : ℕ) → i < n → f i ≤ b) → total n f ≤ b * n
total-most zero b f h = omega arith
total-most (suc n) b f h =
    let rest = total-most n b f (λ i l. h i (omega arith)) in
    let more : b * suc n ≡ b * n + b = mul-suc b n in
    omega (arith, h n (omega arith))

-- the tables after n rounds
abbrev pub after_rounds : List ℕ → ℕ → Assignment
after_rounds t n = after (program_in t) (declarations (program_in t)) n

-- each of the first n rounds has changed something
abbrev pub Rising : List ℕ → ℕ → Type 0
Rising t n = (i : ℕ) → i < n → T (not (settled (program_in t) (declarations (program_in t)) i))

module _ (t : List ℕ) (fits : Fits t) where
  outside : (n m H : ℕ) → is_entry (program_in t) m H ≡ false → after_rounds t n m H ≡ 0
  outside n m H e = after-outside (program_in t) (declarations (program_in t)) n m H (not_entry (is_entry (program_in t) m H) e)

  pub read_back : (n : ℕ) → tables_in (flat (after_rounds t n)) ≡ after_rounds t n
  read_back n =
      fun_ext
      (λ m. fun_ext
      (flat-read (after_rounds t n) (λ i H l. outside n i H (no-entry-far t fits i H l)) (λ i H l. outside n i H (no-entry-wide t fits i H l)) m))

  pub start_first : start_tables t ≡ flat (after_rounds t 0)
  unfolding start_tables after
  start_first = refl

  pub round-next : (n : ℕ) → round_tables t (flat (after_rounds t n)) ≡ flat (after_rounds t (suc n))
  unfolding round_tables after
  round-next n = ap (λ (a : Assignment). flat (round (program_in t) (declarations (program_in t)) a)) (read_back n)

  next-entry : (n m h : ℕ) → m < layout.most_methods → h < layout.grades → after_rounds t (suc n) m h ≡ after_rounds t n m h
      → get_or (round_tables t (flat (after_rounds t n))) (layout.grades * m + h) 0 ≡ get_or (flat (after_rounds t n)) (layout.grades * m + h) 0
  next-entry n m h l k e =
      ap (λ (x : List ℕ). get_or x (layout.grades * m + h) 0) (round-next n) ∙ flat-entry (after_rounds t (suc n)) m h l k ∙ e ∙ sym (flat-entry (after_rounds t n) m h l k)

  pub still_after : (n : ℕ) → Still t (flat (after_rounds t n))
  still_after n =
      record {
        size = flat-length (after_rounds t n);
        declared = λ m h l k d. next-entry n m h l k (fixed m h d);
        outside = λ m h l k e. next-entry n m h l k (none m h e);
      }
    where
      none : (m h : ℕ) → T (not (is_entry (program_in t) m h)) → after_rounds t (suc n) m h ≡ after_rounds t n m h
      none m h e =
          after-outside (program_in t) (declarations (program_in t)) (suc n) m h e ∙ sym (after-outside (program_in t) (declarations (program_in t)) n m h e)

      fixed : (m h : ℕ) → T (is_declared (program_in t) m) → after_rounds t (suc n) m h ≡ after_rounds t n m h
      fixed m h d =
          either-passes (after_rounds t (suc n) m h ≡ after_rounds t n m h) (is_entry (program_in t) m h)
          (λ e. after-fixed (program_in t) (declarations (program_in t)) (suc n) m h e (unfold declarations in d)
          ∙ sym (after-fixed (program_in t) (declarations (program_in t)) n m h e (unfold declarations in d)))
          (none m h)

  -- ---- where rounds stop

  same-settled : (n : ℕ) (r : Bool) → SameTo (layout.grades * methods_in (cell t)) (flat (after_rounds t n)) (flat (after_rounds t (suc n))) r → T r
      → T (settled (program_in t) (declarations (program_in t)) n)
  unfolding settled same after
  same-settled n r s t' =
      every_of (method_count (program_in t)) _
      (λ m l. every_of (entry_count (program_in t) m) _
      (λ H k.
      let within : m < methods_in (cell t) = omega (arith, method-count t) in
      let set : H < layout.grades = omega (arith, entry-count t fits m within, few-entries t fits m within) in
      let far : m < layout.most_methods = omega (arith, fits.methods) in
      subst T
      (sym (eq-eqb (after_rounds t n m H) (after_rounds t (suc n) m H)
      (sym (flat-entry (after_rounds t n) m H far set) ∙ s.yes t' (layout.grades * m + H) (omega arith) ∙ flat-entry (after_rounds t (suc n)) m H far set)))
      tt))

  pub not-settled : (n : ℕ) (r : Bool) → SameTo (layout.grades * methods_in (cell t)) (flat (after_rounds t n)) (flat (after_rounds t (suc n))) r → T (not r)
      → T (not (settled (program_in t) (declarations (program_in t)) n))
  not-settled n r s f =
      let found = s.no f in
      let i = found.0 in
      let inside : i < answer_length = omega (arith, found.1, fits.methods) in
      not_T (settled (program_in t) (declarations (program_in t)) n)
      (λ stop. found.2
      (flat-at (after_rounds t n) i inside
      ∙ alike stop (i / layout.grades) (i % layout.grades)
      ∙ sym (flat-at (after_rounds t (suc n)) i inside)))
    where
      alike : T (settled (program_in t) (declarations (program_in t)) n) → (m H : ℕ) → after_rounds t n m H ≡ after_rounds t (suc n) m H
      alike stop m H =
          either-passes (after_rounds t n m H ≡ after_rounds t (suc n) m H) (is_entry (program_in t) m H)
          (λ e. unfold settled after in same_at (program_in t) (declarations (program_in t)) (after_rounds t n) (after_rounds t (suc n)) stop m H e)
          (λ e. after-outside (program_in t) (declarations (program_in t)) n m H e ∙ sym (after-outside (program_in t) (declarations (program_in t)) (suc n) m H e))

  pub rising-more : (n : ℕ) (r : Bool) → Rising t n → SameTo (layout.grades * methods_in (cell t)) (flat (after_rounds t n)) (flat (after_rounds t (suc n))) r → T (not r) → Rising t (suc n)
  rising-more n r before s f i l = go (dec_lt i n)
    where
      go : Dec (i < n) → T (not (settled (program_in t) (declarations (program_in t)) i))
      go (yes k) = before i k
      go (no k) = let same : n ≡ i = omega arith in subst (λ (j : ℕ). T (not (settled (program_in t) (declarations (program_in t)) j))) same (not-settled n r s f)

  pub stopped : (n : ℕ) (r : Bool) → Rising t n → SameTo (layout.grades * methods_in (cell t)) (flat (after_rounds t n)) (flat (after_rounds t (suc n))) r → T r → n ≡ rounds (program_in t)
  unfolding rounds
  stopped n r before s t' = rounds-unique (program_in t) (declarations (program_in t)) n (same-settled n r s t') before

  pub stopped-tables : (n : ℕ) → n ≡ rounds (program_in t) → flat (after_rounds t n) ≡ flat (lowest (program_in t))
  unfolding lowest lowest_from rounds
  stopped-tables n e = ap (λ (i : ℕ). flat (after_rounds t i)) e

  pub lowest-read : tables_in (flat (lowest (program_in t))) ≡ lowest (program_in t)
  unfolding lowest lowest_from rounds
  lowest-read = read_back (rounds (program_in t))

  -- where each round so far has changed something, the rounds are not yet past
  pub rising-bound : (n : ℕ) → Rising t n → n ≤ rounds (program_in t)
  unfolding rounds
  rising-bound n before = go (dec_lt (rounds_from (program_in t) (declarations (program_in t))) n)
    where
      go : Dec (rounds_from (program_in t) (declarations (program_in t)) < n) → n ≤ rounds_from (program_in t) (declarations (program_in t))
      go (yes h) = absurd (T_not (settled (program_in t) (declarations (program_in t)) (rounds_from (program_in t) (declarations (program_in t)))) (before (rounds_from (program_in t) (declarations (program_in t))) h) (rounds-settled (program_in t) (declarations (program_in t))))
      go (no h) = omega arith

  pub rounds-few : rounds (program_in t) ≤ 4096
  unfolding rounds open_entries
  rounds-few =
      let some : open_entries (program_in t) (declarations (program_in t)) ≤ layout.grades * method_count (program_in t)
      = total-most (method_count (program_in t)) layout.grades _ (λ m l. few m l) in
      omega (arith, rounds-bound (program_in t) (declarations (program_in t)), fits.methods, method-count t)
    where
      few : (m : ℕ) → m < method_count (program_in t) → cond ((declarations (program_in t)).fixed m) 0 (entry_count (program_in t) m) ≤ layout.grades
      few m l = go ((declarations (program_in t)).fixed m)
        where
          go : (b : Bool) → cond b 0 (entry_count (program_in t) m) ≤ layout.grades
          go true = omega arith
          go false = let within : m < methods_in (cell t) = omega (arith, method-count t) in omega (arith, entry-count t fits m within, few-entries t fits m within)

  -- what a comparison of tables says, of the rounds
  pub compared : (used n : ℕ) (old new : List ℕ) (r : Bool) → used ≡ layout.grades * methods_in (cell t) → old ≡ flat (after_rounds t n)
      → new ≡ round_tables t old → SameTo used old new r → SameTo (layout.grades * methods_in (cell t)) (flat (after_rounds t n)) (flat (after_rounds t (suc n))) r
  compared used n old new r u o e s =
      subst (λ (i : ℕ). SameTo i (flat (after_rounds t n)) (flat (after_rounds t (suc n))) r) u
      (subst₂ (λ (x y : List ℕ). SameTo used x y r) o (e ∙ ap (round_tables t) o ∙ round-next n) s)
