-- What is known of the constraints: met by an assignment, they are met by any lower one; and the finding is the first broken one.
-- Assumes nothing.
use Rattle.std.specs.Prelude.{ℕ, ◌≤◌, ◌<◌, Bool, ◌||◌, ◌≡◌, length, eqb, leb, ltb}
use Rattle.std.proofs.Math.Bool.{true, false, not, cond}
use mathlib.Core.List.{List, [], ◌∷◌, ◌++◌}
use Rattle.std.proofs.Math.Path.{refl, ap}
use Rattle.std.proofs.Common.{sym, ◌∙◌, subst, subst₂, le_trans, arith, eqb→eq, leb→le, le→leb}
use Rattle.std.proofs.Math.Decide.{dec_lt}
use Rattle.std.proofs.Math.Dec.{T, lt→ltb, ltb→lt, T_not, not_T}
use Rattle.grades.specs.Grades.{const}
use Rattle.grades.proofs.Laws.Grades.{cap-le}
use Rattle.grades.specs.HeldSets.{held}
use Rattle.frames.specs.Program.{Program, method_at}
use Rattle.meaning.specs.Meaning.{Assignment, root_table}
use Rattle.meaning.proofs.Laws.Meaning.{root-grows}
use Rattle.counting.specs.Counting.{up_to, only_if, All}
use Rattle.counting.specs.Laws.Counting.{first_passes, first-least, first-unique, all_append, all_left, all_right, all-together, together-all, all-up_to, up_to-all, all-only_if, only_if-all}
use Rattle.meaning.specs.Lowest.{NoWorse, method_count, is_entry, Keeps, is_declared, declared_table, declarations, lowest}
use Rattle.meaning.proofs.Laws.Lowest.{is_entry-of, entry-method, entry_set, lowest-keeps, lowest-least}
use Rattle.meaning.specs.Constraints.{Entry, Meets, Closed, declared_root, main_table, forked_table, named_method, sets_of, holds_at, Met, fork_at, forks_of, closed_of, closed_of_all, closed, broken_set, is_broken, Finding, none_broken, broken, first_broken, IsLowest, FirstBroken}

-- ---- the constraints of undeclared methods, and what is given

entry_of : (p : Program) (m H : ℕ) → T (is_entry p m H) → Entry p m H
entry_of p m H t = record { method = entry-method p m H t; set = entry_set p m H t }

pub meets-keeps : (p : Program) (a : Assignment) → Meets p a → Keeps p (declarations p) a
unfolding declarations
meets-keeps p a h =
    record {
      fixed = λ m H t f. h.declared m H (entry_of p m H t) f;
      floor = λ m H t f. le_trans (cap-le const) (omega arith);
      root = λ m H t f. h.undeclared m H (entry_of p m H t) f;
    }

pub keeps_meets : (p : Program) (a : Assignment) → Keeps p (declarations p) a → Meets p a
unfolding declarations
keeps_meets p a k =
    record {
      declared = λ m H e f. k.fixed m H (is_entry-of p m H e.method e.set) f;
      undeclared = λ m H e f. k.root m H (is_entry-of p m H e.method e.set) f;
    }

-- the tables that the rounds reach are the lowest
pub lowest-is : (p : Program) → IsLowest p (lowest p)
unfolding lowest
lowest-is p =
    record {
      meets = keeps_meets p _ (lowest-keeps p (declarations p));
      least = λ b h. lowest-least p (declarations p) b (meets-keeps p b h);
    }

-- ---- "met by an assignment, then met by any lower one"

leb-lower : (x y z : ℕ) → x ≤ y → T (leb y z) → T (leb x z)
leb-lower x y z h t = le→leb x z (le_trans h (leb→le y z t))

either-lower : (a b b' : Bool) → (T b → T b') → T (a || b) → T (a || b')
either-lower true b b' f t = tt
either-lower false b b' f t = f t

pub met-lower : (p : Program) (a b : Assignment) → NoWorse a b → (c : Closed) → Met p b c → Met p a c
met-lower p a b h (declared_root m) met H l =
    leb-lower (root_table p a m H) (root_table p b m H) (declared_table p m H) (root-grows p b a m H h) (met H l)
met-lower p a b h main_table met H l = leb-lower (a 0 H) (b 0 H) 3 (h 0 H) (met H l)
met-lower p a b h (forked_table m n) met H l =
    either-lower (not (held H 0)) (leb (b (named_method p m n) H) 3) (leb (a (named_method p m n) H) 3)
    (leb-lower (a (named_method p m n) H) (b (named_method p m n) H) 3 (h (named_method p m n) H)) (met H l)

-- ---- the first broken constraint

module _ (p : Program) (a : Assignment) where
  twice-not : (b : Bool) → T (not (not b)) → T b
  twice-not true t = t
  twice-not false t = t

  not-broken : (c : Closed) → Met p a c → T (not (is_broken p a c))
  unfolding is_broken broken_set
  not-broken c met =
      not_T (ltb (broken_set p a c) (sets_of p c))
      (λ t. T_not (holds_at p a c (broken_set p a c)) (first_passes (sets_of p c) (λ H. not (holds_at p a c H)) (ltb→lt _ _ t))
      (met (broken_set p a c) (ltb→lt _ _ t)))

  is-met : (c : Closed) → T (not (is_broken p a c)) → Met p a c
  unfolding is_broken broken_set
  is-met c t H l =
      twice-not (holds_at p a c H)
      (first-least (sets_of p c) (λ S. not (holds_at p a c S)) H (go (dec_lt H (broken_set p a c)) (dec_lt (broken_set p a c) (sets_of p c))))
    where
      go : Dec (H < broken_set p a c) → Dec (broken_set p a c < sets_of p c) → H < broken_set p a c
      go (yes h) d = h
      go (no h) (yes g) = absurd (T_not (ltb (broken_set p a c) (sets_of p c)) t (lt→ltb _ _ g))
      go (no h) (no g) = absurd (omega arith)

  -- the finding says that none is broken exactly if all are met
  pub met-none : (cs : List Closed) → All (Met p a) cs → first_broken p a cs ≡ none_broken
  unfolding first_broken
  met-none [] h = refl
  met-none (c ∷ cs) h = go (is_broken p a c) (not-broken c h.0) (met-none cs h.1)
    where
      go : (b : Bool) → T (not b) → first_broken p a cs ≡ none_broken → cond b (broken c (broken_set p a c)) (first_broken p a cs) ≡ none_broken
      go true t e = absurd t
      go false t e = e

  data Found (cs : List Closed) : Finding → Type 0 where
    all_met : All (Met p a) cs → Found cs none_broken
    one : (c : Closed) (H : ℕ) → FirstBroken p a cs c H → Found cs (broken c H)

  later : (c : Closed) (cs : List Closed) → Met p a c → (v : Finding) → Found cs v → Found (c ∷ cs) v
  later c cs met v (all_met h) = all_met (met, h)
  later c cs met v (one d H f) =
      one d H
      (record {
        before = c ∷ f.before;
        behind = f.behind;
        order = ap {B = List Closed} (λ l. c ∷ l) f.order;
        earlier = (met, f.earlier);
        set = f.set;
        broken = f.broken;
        lower = f.lower;
      })

  here : (c : Closed) (cs : List Closed) → T (is_broken p a c) → FirstBroken p a (c ∷ cs) c (broken_set p a c)
  unfolding is_broken broken_set
  here c cs t =
      record {
        before = [];
        behind = cs;
        order = refl;
        earlier = tt;
        set = ltb→lt _ _ t;
        broken = first_passes (sets_of p c) (λ H. not (holds_at p a c H)) (ltb→lt _ _ t);
        lower = λ S l. twice-not (holds_at p a c S) (first-least (sets_of p c) (λ H. not (holds_at p a c H)) S l);
      }

  found : (cs : List Closed) → Found cs (first_broken p a cs)
  unfolding first_broken
  found [] = all_met tt
  found (c ∷ cs) = go (is_broken p a c) (λ t. here c cs t) (λ t. is-met c t) (found cs)
    where
      go : (b : Bool) → (T b → FirstBroken p a (c ∷ cs) c (broken_set p a c)) → (T (not b) → Met p a c) → Found cs (first_broken p a cs)
          → Found (c ∷ cs) (cond b (broken c (broken_set p a c)) (first_broken p a cs))
      go true f m r = one c (broken_set p a c) (f tt)
      go false f m r = later c cs (m tt) (first_broken p a cs) r

  pub none-met : (cs : List Closed) → first_broken p a cs ≡ none_broken → All (Met p a) cs
  none-met cs e = go none_broken (subst (Found cs) e (found cs)) refl
    where
      go : (v : Finding) → Found cs v → v ≡ none_broken → All (Met p a) cs
      go v (all_met h) q = h
      go v (one c H f) q = absurd (let z : ◌≡◌ {A = ℕ} 0 1 = cc in omega arith)

  pub broken-first : (cs : List Closed) (c : Closed) (H : ℕ) → first_broken p a cs ≡ broken c H → FirstBroken p a cs c H
  broken-first cs c H e = go (broken c H) (subst (Found cs) e (found cs)) refl
    where
      go : (v : Finding) → Found cs v → v ≡ broken c H → FirstBroken p a cs c H
      go v (all_met h) q = absurd (let z : ◌≡◌ {A = ℕ} 0 1 = cc in omega arith)
      go v (one d S f) q =
          let same-constraint : d ≡ c = cc in
          let same_set : S ≡ H = cc in
          subst₂ (FirstBroken p a cs) same-constraint same_set f

  passes-through : (b : Bool) (x y z : Finding) → (T b → x ≡ z) → (T (not b) → y ≡ z) → cond b x y ≡ z
  passes-through true x y z f g = f tt
  passes-through false x y z f g = g tt

  is-broken : (c : Closed) → broken_set p a c < sets_of p c → T (is_broken p a c)
  unfolding is_broken
  is-broken c l = lt→ltb (broken_set p a c) (sets_of p c) l

  broken-at : (c : Closed) (H : ℕ) → H < sets_of p c → T (not (holds_at p a c H)) → ((S : ℕ) → S < H → T (holds_at p a c S)) → broken_set p a c ≡ H
  unfolding broken_set
  broken-at c H l t lower =
      first-unique (sets_of p c) (λ S. not (holds_at p a c S)) H l t (λ S s. not-not (holds_at p a c S) (lower S s))
    where
      not-not : (b : Bool) → T b → T (not (not b))
      not-not true t = t
      not-not false t = t

  at_first : (before behind : List Closed) (c : Closed) (H : ℕ) → All (Met p a) before → H < sets_of p c → T (not (holds_at p a c H))
      → ((S : ℕ) → S < H → T (holds_at p a c S)) → first_broken p a (before ++ (c ∷ behind)) ≡ broken c H
  unfolding first_broken
  at_first [] behind c H earlier l t lower =
      let set : broken_set p a c ≡ H = broken-at c H l t lower in
      passes-through (is_broken p a c) (broken c (broken_set p a c)) (first_broken p a behind) (broken c H) (λ u. ap (broken c) set)
      (λ u. absurd (T_not (is_broken p a c) u (is-broken c (subst (λ (S : ℕ). S < sets_of p c) (sym set) l))))
  at_first (b ∷ before) behind c H earlier l t lower =
      passes-through (is_broken p a b) (broken b (broken_set p a b)) (first_broken p a (before ++ (c ∷ behind))) (broken c H)
      (λ u. absurd (T_not (is_broken p a b) (not-broken b earlier.0) u)) (λ u. at_first before behind c H earlier.1 l t lower)

  -- the first broken constraint is the one that the finding gives
  pub first-broken : (cs : List Closed) (c : Closed) (H : ℕ) → FirstBroken p a cs c H → first_broken p a cs ≡ broken c H
  first-broken cs c H f =
      ap (first_broken p a) f.order ∙ at_first f.before f.behind c H f.earlier f.set f.broken f.lower

  -- and no other is
  pub first-broken-only : (cs : List Closed) (c c' : Closed) (H H' : ℕ) → FirstBroken p a cs c H → FirstBroken p a cs c' H' → (c ≡ c') × (H ≡ H')
  first-broken-only cs c c' H H' f f' =
      let e : first_broken p a cs ≡ broken c H = first-broken cs c H f in
      let e' : first_broken p a cs ≡ broken c' H' = first-broken cs c' H' f' in
      (cc, cc)

-- ---- the closed constraints, taken out of their list

pub record ClosedMet (p : Program) (a : Assignment) : Type 0 where
  pub kind1 : (m : ℕ) → m < method_count p → T (is_declared p m) → Met p a (declared_root m)
  pub kind2 : 0 < method_count p → Met p a main_table
  pub kind3 : (m n : ℕ) → m < method_count p → n < length (method_at p m).nodes → T (fork_at p m n) → Met p a (forked_table m n)

pub closed-met : (p : Program) (a : Assignment) → All (Met p a) (closed p) → ClosedMet p a
unfolding closed closed_of_all closed_of forks_of
closed-met p a h =
    let of : (m : ℕ) → m < method_count p → All (Met p a) (closed_of p m) =
    up_to-all (λ m. All (Met p a) (closed_of p m)) (method_count p) (together-all (Met p a) (closed_of p) (up_to (method_count p)) h) in
    let rest : (m : ℕ) → m < method_count p → All (Met p a) (only_if (eqb m 0) main_table ++ forks_of p m) =
    λ m l. all_right (Met p a) (only_if (is_declared p m) (declared_root m)) (only_if (eqb m 0) main_table ++ forks_of p m) (of m l) in
    record {
      kind1 = λ m l t.
          only_if-all (Met p a) (is_declared p m) (declared_root m)
          (all_left (Met p a) (only_if (is_declared p m) (declared_root m)) (only_if (eqb m 0) main_table ++ forks_of p m) (of m l)) t;
      kind2 = λ l.
          only_if-all (Met p a) (eqb 0 0) main_table (all_left (Met p a) (only_if (eqb 0 0) main_table) (forks_of p 0) (rest 0 l)) tt;
      kind3 = λ m n l k t.
          only_if-all (Met p a) (fork_at p m n) (forked_table m n)
          (up_to-all (λ i. All (Met p a) (only_if (fork_at p m i) (forked_table m i))) (length (method_at p m).nodes)
          (together-all (Met p a) (λ i. only_if (fork_at p m i) (forked_table m i)) (up_to (length (method_at p m).nodes))
          (all_right (Met p a) (only_if (eqb m 0) main_table) (forks_of p m) (rest m l))) n k) t;
    }

-- what holds of the constraints of each kind holds of all
pub all_closed : (p : Program) (P : Closed → Type 0)
    → ((m : ℕ) → m < method_count p → T (is_declared p m) → P (declared_root m))
    → (0 < method_count p → P main_table)
    → ((m n : ℕ) → m < method_count p → n < length (method_at p m).nodes → T (fork_at p m n) → P (forked_table m n))
    → All P (closed p)
unfolding closed closed_of_all closed_of forks_of
all_closed p P kind1 kind2 kind3 =
    all-together P (closed_of p) (up_to (method_count p))
    (all-up_to (λ m. All P (closed_of p m)) (method_count p)
    (λ m l. all_append P (only_if (is_declared p m) (declared_root m)) (only_if (eqb m 0) main_table ++ forks_of p m)
    (all-only_if P (is_declared p m) (declared_root m) (kind1 m l))
    (all_append P (only_if (eqb m 0) main_table) (forks_of p m)
    (all-only_if P (eqb m 0) main_table (λ t. kind2 (subst (λ (n : ℕ). n < method_count p) (eqb→eq m 0 t) l)))
    (all-together P (λ n. only_if (fork_at p m n) (forked_table m n)) (up_to (length (method_at p m).nodes))
    (all-up_to (λ n. All P (only_if (fork_at p m n) (forked_table m n))) (length (method_at p m).nodes)
    (λ n k. all-only_if P (fork_at p m n) (forked_table m n) (kind3 m n l k)))))))

pub met-closed : (p : Program) (a : Assignment) → ClosedMet p a → All (Met p a) (closed p)
met-closed p a c = all_closed p (Met p a) c.kind1 c.kind2 c.kind3
