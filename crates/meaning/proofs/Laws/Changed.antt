-- Striking out and writing back make programs of the kinds that demand 3 speaks of: its laws are of something.
-- Assumes nothing.
use Rattle.std.specs.Prelude.{ℕ, zero, suc, ◌+◌, ◌≤◌, ◌<◌, Bool, true, false, List, [], ◌∷◌, ◌≡◌, refl, T, length, get_or}
use Rattle.std.proofs.Math.Path.{sym, ap}
use Rattle.std.proofs.Common.{◌∙◌, subst, not-suc-le-zero, le_of_suc-le-suc, zero-add, add-zero, add-suc, suc-add, arith}
use Rattle.std.proofs.Math.Decide.{dec_lt}
use Rattle.std.proofs.Math.ListN.{get_or-eq_default}
use Rattle.frames.specs.Program.{Method, Program, no_method, method_at}
use Rattle.meaning.specs.Lowest.{method_count, is_declared, declared_table, lowest}
use Rattle.meaning.specs.Constraints.{accepted, entry_of, answer}
use Rattle.meaning.proofs.Laws.Constraints.{lowest-is}
use Rattle.meaning.proofs.Laws.Answers.{tables-lowest, when-accepted}
use Rattle.meaning.specs.Changes.{Alike, StruckOut, WrittenBack, each_from, change_methods, strike, declare, strike_out, write_back}

-- ---- a method of a changed program

length-each : (i : ℕ) (f : ℕ → Method → Method) (xs : List Method) → length (each_from i f xs) ≡ length xs
length-each i f [] = refl
length-each i f (x ∷ xs) = ap suc (length-each (suc i) f xs)

at_each : (i : ℕ) (f : ℕ → Method → Method) (xs : List Method) (m : ℕ) (d : Method) → m < length xs → get_or (each_from i f xs) m d ≡ f (i + m) (get_or xs m d)
at_each i f [] m d h = absurd (not-suc-le-zero h)
at_each i f (x ∷ xs) zero d h = ap (λ (j : ℕ). f j x) (sym (add-zero i))
at_each i f (x ∷ xs) (suc m) d h =
    at_each (suc i) f xs m d (le_of_suc-le-suc h) ∙ ap (λ (j : ℕ). f j (get_or xs m d)) (suc-add i m ∙ sym (add-suc i m))

module _ (f : ℕ → Method → Method) (p : Program) where
  pub changed-count : method_count (change_methods f p) ≡ method_count p
  unfolding method_count change_methods
  changed-count = length-each 0 f p.methods

  pub changed-at : (m : ℕ) → m < method_count p → method_at (change_methods f p) m ≡ f m (method_at p m)
  unfolding method_count method_at change_methods
  changed-at m h = at_each 0 f p.methods m no_method h ∙ ap (λ (j : ℕ). f j (get_or p.methods m no_method)) (zero-add m)

  pub changed-past : (m : ℕ) → method_count p ≤ m → method_at (change_methods f p) m ≡ method_at p m
  unfolding method_count method_at change_methods
  changed-past m h =
      get_or-eq_default (each_from 0 f p.methods) no_method (subst (λ (n : ℕ). n ≤ m) (sym (length-each 0 f p.methods)) h)
      ∙ sym (get_or-eq_default p.methods no_method h)

  -- what a change of each method keeps, all methods keep
  pub changed : (P : Method → Method → Type 0) → ((x : Method) → P x x) → ((m : ℕ) (x : Method) → P x (f m x))
      → (m : ℕ) → P (method_at p m) (method_at (change_methods f p) m)
  changed P same each m = go (dec_lt m (method_count p))
    where
      go : Dec (m < method_count p) → P (method_at p m) (method_at (change_methods f p) m)
      go (yes h) = subst (P (method_at p m)) (sym (changed-at m h)) (each m (method_at p m))
      go (no h) = subst (P (method_at p m)) (sym (changed-past m (omega arith))) (same (method_at p m))

  changed-alike : ((m : ℕ) (x : Method) → (f m x).k ≡ x.k) → ((m : ℕ) (x : Method) → (f m x).nodes ≡ x.nodes) → Alike p (change_methods f p)
  changed-alike k nodes =
      record {
        fields = unfold change_methods in refl;
        count = changed-count;
        k = changed (λ x y. y.k ≡ x.k) (λ x. refl) k;
        nodes = changed (λ x y. y.nodes ≡ x.nodes) (λ x. refl) nodes;
      }

-- ---- striking out

strike-k : (b : Bool) (x : Method) → (strike b x).k ≡ x.k
strike-k true x = refl
strike-k false x = refl

strike-nodes : (b : Bool) (x : Method) → (strike b x).nodes ≡ x.nodes
strike-nodes true x = refl
strike-nodes false x = refl

strike-declared : (b : Bool) (x : Method) → T (strike b x).declared → T x.declared
strike-declared true x t = absurd t
strike-declared false x t = t

strike-table : (b : Bool) (x : Method) (H : ℕ) → T (strike b x).declared → get_or (strike b x).table H 0 ≡ get_or x.table H 0
strike-table true x H t = absurd t
strike-table false x H t = refl

pub struck-out : (which : ℕ → Bool) (p : Program) → StruckOut p (strike_out which p)
unfolding strike_out is_declared declared_table
struck-out which p =
    let f : ℕ → Method → Method = λ m x. strike (which m) x in
    record {
      alike = changed-alike f p (λ m. strike-k (which m)) (λ m. strike-nodes (which m));
      declared = changed f p (λ x y. T y.declared → T x.declared) (λ x t. t) (λ m. strike-declared (which m));
      table = λ m H e.
          changed f p (λ x y. T y.declared → get_or y.table H 0 ≡ get_or x.table H 0) (λ x t. refl)
          (λ n x. strike-table (which n) x H) m;
    }

-- ---- writing back

declare-k : (b : Bool) (table : List ℕ) (x : Method) → (declare b table x).k ≡ x.k
declare-k true table x = refl
declare-k false table x = refl

declare-nodes : (b : Bool) (table : List ℕ) (x : Method) → (declare b table x).nodes ≡ x.nodes
declare-nodes true table x = refl
declare-nodes false table x = refl

declare-declared : (b : Bool) (table : List ℕ) (x : Method) → T x.declared → T (declare b table x).declared
declare-declared true table x t = tt
declare-declared false table x t = t

declare-table : (b : Bool) (table : List ℕ) (x : Method) (H : ℕ) → (T x.declared → get_or x.table H 0 ≡ get_or table H 0)
    → T (declare b table x).declared → get_or (declare b table x).table H 0 ≡ get_or table H 0
declare-table true table x H h t = refl
declare-table false table x H h t = h t

pub written_back : (p : Program) (r : ℕ) (tables : List (List ℕ)) → answer p ≡ accepted r tables → (which : ℕ → Bool)
    → WrittenBack p (entry_of tables) (write_back which tables p)
unfolding write_back is_declared declared_table entry_of
written_back p r tables e which =
    let f : ℕ → Method → Method = λ m x. declare (which m) (get_or tables m []) x in
    let found : entry_of tables ≡ lowest p = ap entry_of (when-accepted p r tables e).tables ∙ tables-lowest p in
    record {
      alike = changed-alike f p (λ m. declare-k (which m) (get_or tables m [])) (λ m. declare-nodes (which m) (get_or tables m []));
      declared =
          changed f p (λ x y. T x.declared → T y.declared) (λ x t. t) (λ m. declare-declared (which m) (get_or tables m []));
      table = λ m H en t.
          ap (λ (y : Method). get_or y.table H 0) (changed-at f p m en.method)
          ∙ declare-table (which m) (get_or tables m []) (method_at p m) H
          (λ d. sym ((lowest-is p).meets.declared m H en d) ∙ ap (λ (a : ℕ → ℕ → ℕ). a m H) (sym found))
          (subst (λ (y : Method). T y.declared) (changed-at f p m en.method) t);
    }
