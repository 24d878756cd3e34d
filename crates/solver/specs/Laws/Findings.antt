-- The closed constraints in order, as the code goes through them.
-- Assumes nothing.
use Rattle.std.specs.Prelude.{ℕ, suc, ◌+◌, ◌-◌, ◌^◌, ◌≤◌, ◌<◌, min, Bool, not, ◌||◌, ◌≡◌, T, leb, ltb, length, get_or, Option, Some, None}
use Rattle.std.proofs.Math.Bool.{true, false, cond}
use mathlib.Core.List.{List, [], ◌∷◌, ◌++◌}
use Rattle.std.proofs.Math.Path.{refl, ap}
use Rattle.std.proofs.Common.{sym, ◌∙◌, subst, arith, lt-ltb, le-ltb, le-leb, T_not, lit≤, add-one}
use Rattle.std.proofs.Math.Decide.{dec_lt}
use Rattle.std.proofs.lemmas.Bool.{lt-leb}
use Rattle.solver.specs.Nodes.{node_in}
use Rattle.frames.specs.Layout.{layout}
use Rattle.grades.specs.Grades.{const, cmpd}
use Rattle.grades.specs.HeldSets.{held, entries}
use Rattle.frames.specs.Program.{Node, Method, Program, no_method, method_at, node_at}
use Rattle.frames.specs.Links.{node_count}
use Rattle.frames.specs.Laws.Tables.{nodes-length}
use Rattle.std.proofs.Math.Nat.{sub-zero}
use Rattle.frames.specs.Frames.{methods_in}
use Rattle.frames.specs.Tables.{cell, method_of}
use Rattle.meaning.specs.Meaning.{Assignment, root_table, op_of}
use Rattle.counting.specs.Counting.{first, numbers, up_to, together, only_if}
use Rattle.counting.specs.Laws.Counting.{first-bound, first_passes, first-unique}
use Rattle.meaning.specs.Lowest.{entry_count, declared_table}
use Rattle.meaning.specs.Constraints as constraints
use Rattle.meaning.specs.Constraints.{Closed, declared_root, main_table, forked_table, named_method, sets_of, broken_set, is_broken, none_broken, broken, first_broken, is_fork, fork_at, forks_of, closed_of, closed_of_all, finding}
use Rattle.solver.specs.Code.Engine.{nodes_from}
use Rattle.solver.specs.Laws.Engine.{op-cases, op-past}
use Rattle.solver.specs.Laws.Views.{method-in, method-past}
use Rattle.solver.specs.Flat.{program_in}
use Rattle.solver.specs.Laws.Flat.{few-entries, body-node}
use Rattle.solver.specs.declared.constraints.Broken.{Broken}
use Rattle.solver.specs.Code.Rounds.{Fits, At}
use Rattle.solver.specs.Findings.{found}
use Rattle.solver.specs.Code.Forks.{fork_set, IsLowestSet}

-- ---- the lowest set

-- what passes nowhere before i, and at i unless i is the bound, passes first at i
first-is : (n : ℕ) (f : ℕ → Bool) (i : ℕ) → i ≤ n → ((j : ℕ) → j < i → T (not (f j))) → (i < n → T (f i)) → i ≡ first n f
first-is n f i h before here = go (dec_lt i n)
  where
    go : Dec (i < n) → i ≡ first n f
    go (yes l) = sym (first-unique n f i l (here l) before)
    go (no l) = end (dec_lt (first n f) n)
      where
        end : Dec (first n f < n) → i ≡ first n f
        end (yes k) = absurd (T_not (f (first n f)) (before (first n f) (omega arith)) (first_passes n f k))
        end (no k) = omega (arith, first-bound n f)

not-leb : (x y : ℕ) → y < x → T (not (leb x y))
not-leb x y h = subst (λ (b : Bool). T (not b)) (sym (lt-leb x y h)) tt

not-not-leb : (x y : ℕ) → x ≤ y → T (not (not (leb x y)))
not-not-leb x y h = subst (λ (b : Bool). T (not (not b))) (sym (le-leb x y h)) tt

pub declared-is : (p : Program) (a : Assignment) (m count h : ℕ) → count ≡ entry_count p m → h ≤ count
    → ((j : ℕ) → j < h → root_table p a m j ≤ declared_table p m j) → (h < count → declared_table p m h < root_table p a m h)
    → h ≡ broken_set p a (declared_root m)
unfolding broken_set
declared-is p a m count h e l before here =
    first-is (entry_count p m) (λ H. not (leb (root_table p a m H) (declared_table p m H))) h (omega arith)
    (λ j k. not-not-leb (root_table p a m j) (declared_table p m j) (before j k))
    (λ k. not-leb (root_table p a m h) (declared_table p m h) (here (omega arith)))

pub main-broken : (p : Program) (a : Assignment) → 3 < a 0 0 → 0 ≡ broken_set p a main_table
unfolding broken_set
main-broken p a h = first-is 1 (λ H. not (leb (a 0 H) cmpd)) 0 (omega arith) (λ j k. absurd (omega arith)) (λ k. not-leb (a 0 0) cmpd h)

pub main-met : (p : Program) (a : Assignment) → a 0 0 ≤ 3 → 1 ≡ broken_set p a main_table
unfolding broken_set
main-met p a h =
    first-is 1 (λ H. not (leb (a 0 H) cmpd)) 1 (omega arith)
    (λ j k. let none : 0 ≡ j = omega arith in subst (λ (i : ℕ). T (not (not (leb (a 0 i) cmpd)))) none (not-not-leb (a 0 0) cmpd h)) (λ k. absurd (omega arith))

pub main-is : (p : Program) (a : Assignment) → ltb cmpd (a 0 0) ≡ is_broken p a main_table
unfolding is_broken
main-is p a = go (dec_lt 3 (a 0 0))
  where
    go : Dec (3 < a 0 0) → ltb cmpd (a 0 0) ≡ ltb (broken_set p a main_table) 1
    go (yes l) = lt-ltb 3 (a 0 0) l ∙ ap (λ (h : ℕ). ltb h 1) (main-broken p a l)
    go (no l) = le-ltb 3 (a 0 0) (omega arith) ∙ ap (λ (h : ℕ). ltb h 1) (main-met p a (omega arith))

-- the main's constraint is broken at its one set, or met there
pub main-at : (p : Program) (a : Assignment) → is_broken p a main_table ≡ true → 0 ≡ broken_set p a main_table
unfolding is_broken
main-at p a e = go (dec_lt (broken_set p a main_table) 1)
  where
    go : Dec (broken_set p a main_table < 1) → 0 ≡ broken_set p a main_table
    go (yes l) = omega arith
    go (no l) = let none = le-ltb (broken_set p a main_table) 1 (omega arith) in cc

pub main-past : (p : Program) (a : Assignment) → is_broken p a main_table ≡ false → 1 ≤ broken_set p a main_table
unfolding is_broken
main-past p a e = go (dec_lt (broken_set p a main_table) 1)
  where
    go : Dec (broken_set p a main_table < 1) → 1 ≤ broken_set p a main_table
    go (yes l) = let some = lt-ltb (broken_set p a main_table) 1 l in absurd cc
    go (no l) = omega arith

-- where no set is found, the constraint is met at all of them
pub no-set : (count H : ℕ) (r : Option ℕ) → IsLowestSet count H r → ((set : ℕ) → r ≡ Some set → ⊥) → count ≤ H
no-set count H None h none = h
no-set count H (Some set) h none = absurd (none set refl)

-- a set at which a forked method's table is not over 3, or lock 0 is not held
pub record Quiet (a : Assignment) (u j : ℕ) : Type 0 where
  pub quiet : T (not (held j 0) || leb (a u j) cmpd)

pub quiet-low : (a : Assignment) (u j : ℕ) → a u j ≤ 3 → Quiet a u j
quiet-low a u j h = record { quiet = go (held j 0) }
  where
    go : (b : Bool) → T (not b || leb (a u j) cmpd)
    go true = subst T (sym (le-leb (a u j) cmpd h)) tt
    go false = tt

pub quiet-free : (a : Assignment) (u j : ℕ) → held j 0 ≡ false → Quiet a u j
quiet-free a u j e = record { quiet = subst (λ (b : Bool). T (not b || leb (a u j) cmpd)) (sym e) tt }

pub fork-is : (p : Program) (a : Assignment) (u count h : ℕ) → count ≡ entry_count p u → h ≤ count → ((j : ℕ) → j < h → Quiet a u j)
    → (h < count → (3 < a u h) × (held h 0 ≡ true)) → h ≡ fork_set p a u
unfolding fork_set
fork-is p a u count h e l before here =
    first-is (entry_count p u) (λ H. not (not (held H 0) || leb (a u H) cmpd)) h (omega arith)
    (λ j k. twice (not (held j 0) || leb (a u j) cmpd) (before j k).quiet)
    (λ k. let both = here (omega arith) in
    subst (λ (b : Bool). T (not (not b || leb (a u h) cmpd))) (sym both.1) (not-leb (a u h) cmpd both.0))
  where
    twice : (b : Bool) → T b → T (not (not b))
    twice true t = tt
    twice false t = t

pub fork-set : (p : Program) (a : Assignment) (m n u : ℕ) → u ≡ named_method p m n → fork_set p a u ≡ broken_set p a (forked_table m n)
unfolding fork_set broken_set
fork-set p a m n u e = ap (fork_set p a) e

-- ---- how many sets, as read off the tables

pub sets-read : (t : List ℕ) → Fits t → (u k r : ℕ) → k ≡ min (method_at (program_in t) u).k layout.names → r ≡ min (2 ^ k) layout.grades → r ≡ entry_count (program_in t) u
unfolding entry_count entries no_method
sets-read t fits u k r e f = go (dec_lt u (methods_in (cell t)))
  where
    go : Dec (u < methods_in (cell t)) → r ≡ 2 ^ (method_at (program_in t) u).k
    go (yes l) =
        let own : (method_at (program_in t) u).k ≡ (method_of (cell t) u).k = ap (λ (x : Method). x.k) (method-in t u l) in
        let few : k ≡ (method_of (cell t) u).k = omega (arith, fits.names u l) in
        let all : r ≡ min (2 ^ (method_of (cell t) u).k) layout.grades = f ∙ ap (λ (n : ℕ). min (2 ^ n) layout.grades) few in
        let same : r ≡ 2 ^ (method_of (cell t) u).k = omega (arith, few-entries t fits u l) in
        same ∙ ap (λ (n : ℕ). 2 ^ n) (sym own)
    go (no l) =
        let none : (method_at (program_in t) u).k ≡ 0 = ap (λ (x : Method). x.k) (method-past t u (omega arith)) in
        let zero-names : k ≡ 0 = omega arith in
        f ∙ ap (λ (n : ℕ). min (2 ^ n) layout.grades) zero-names ∙ ap (λ (n : ℕ). 2 ^ n) (sym none)

-- no method has more sets than flat tables have room for
pub sets-few : (t : List ℕ) → Fits t → (u : ℕ) → entry_count (program_in t) u ≤ layout.grades
unfolding entry_count entries no_method
sets-few t fits u = go (dec_lt u (methods_in (cell t)))
  where
    go : Dec (u < methods_in (cell t)) → 2 ^ (method_at (program_in t) u).k ≤ layout.grades
    go (yes l) = subst (λ (x : Method). 2 ^ x.k ≤ layout.grades) (sym (method-in t u l)) (few-entries t fits u l)
    go (no l) = subst (λ (x : Method). 2 ^ x.k ≤ layout.grades) (sym (method-past t u (omega arith))) (lit≤ tt)

-- a declared entry, as read off the tables
pub declared-entry : (t : List ℕ) (m h r : ℕ) → m < methods_in (cell t) → r ≡ get_or (method_of (cell t) m).table h 0 → r ≡ declared_table (program_in t) m h
unfolding declared_table
declared-entry t m h r l e = e ∙ sym (ap (λ (x : Method). get_or x.table h const) (method-in t m l))

-- ---- the constraints in order

module _ (p : Program) (a : Assignment) where
  broken-at : (c : Closed) (rest : List Closed) → broken_set p a c < sets_of p c → first_broken p a (c ∷ rest) ≡ broken c (broken_set p a c)
  unfolding first_broken is_broken
  broken-at c rest h = rw (lt-ltb (broken_set p a c) (sets_of p c) h)

  met_at : (c : Closed) (rest : List Closed) → sets_of p c ≤ broken_set p a c → first_broken p a (c ∷ rest) ≡ first_broken p a rest
  unfolding first_broken is_broken
  met_at c rest h = rw (le-ltb (broken_set p a c) (sets_of p c) h)

  -- a constraint that comes under a condition
  pub if-not : (b : Bool) (c : Closed) (rest : List Closed) → b ≡ false → first_broken p a (only_if b c ++ rest) ≡ first_broken p a rest
  if-not b c rest e = ap (λ (x : Bool). first_broken p a (only_if x c ++ rest)) e

  pub if-broken : (b : Bool) (c : Closed) (rest : List Closed) (H : ℕ) → b ≡ true → H ≡ broken_set p a c → H < sets_of p c
      → first_broken p a (only_if b c ++ rest) ≡ broken c H
  if-broken b c rest H e h l =
      ap (λ (x : Bool). first_broken p a (only_if x c ++ rest)) e ∙ broken-at c rest (omega arith) ∙ ap (broken c) (sym h)

  pub if-met : (b : Bool) (c : Closed) (rest : List Closed) (H : ℕ) → b ≡ true → H ≡ broken_set p a c → sets_of p c ≤ H
      → first_broken p a (only_if b c ++ rest) ≡ first_broken p a rest
  if-met b c rest H e h l = ap (λ (x : Bool). first_broken p a (only_if x c ++ rest)) e ∙ met_at c rest (omega arith)

  -- one list behind another: the first broken of the second, if the first has none
  abbrev or_else : constraints.Finding → constraints.Finding → constraints.Finding
  or_else none_broken w = w
  or_else (broken c H) w = broken c H

  in_two : (xs ys : List Closed) → first_broken p a (xs ++ ys) ≡ or_else (first_broken p a xs) (first_broken p a ys)
  unfolding first_broken
  in_two [] ys = refl
  in_two (c ∷ xs) ys = go (is_broken p a c) (in_two xs ys)
    where
      go : (b : Bool) → first_broken p a (xs ++ ys) ≡ or_else (first_broken p a xs) (first_broken p a ys)
          → cond b (broken c (broken_set p a c)) (first_broken p a (xs ++ ys)) ≡ or_else (cond b (broken c (broken_set p a c)) (first_broken p a xs)) (first_broken p a ys)
      go true ih = refl
      go false ih = ih

  pub second-broken : (xs ys : List Closed) → ((b : Broken) → found (first_broken p a xs) ≡ Some b → ⊥) → first_broken p a (xs ++ ys) ≡ first_broken p a ys
  second-broken xs ys none = in_two xs ys ∙ go (first_broken p a xs) none
    where
      go : (v : constraints.Finding) → ((b : Broken) → found v ≡ Some b → ⊥) → or_else v (first_broken p a ys) ≡ first_broken p a ys
      go none_broken n = refl
      go (broken c H) n = absurd (n _ refl)

  pub first-kept : (xs ys : List Closed) (b : Broken) → Some b ≡ found (first_broken p a xs) → Some b ≡ found (first_broken p a (xs ++ ys))
  first-kept xs ys b e = go (first_broken p a xs) e ∙ ap found (sym (in_two xs ys))
    where
      go : (w : constraints.Finding) → Some b ≡ found w → Some b ≡ found (or_else w (first_broken p a ys))
      go none_broken f = cc
      go (broken c H) f = f

-- ---- lists of constraints in a row, from number n on

unfoldable pub lists_from : (ℕ → List Closed) → (n count : ℕ) → List Closed
lists_from lists n count = together lists (numbers n count)

pub lists-next : (lists : ℕ → List Closed) (n count : ℕ) → n < count → lists_from lists n (count - n) ≡ lists n ++ lists_from lists (n + 1) (count - (n + 1))
unfolding lists_from
lists-next lists n count h =
    let one : count - n ≡ suc (count - (n + 1)) = omega arith in
    ap (λ (i : ℕ). together lists (numbers n i)) one
    ∙ ap (λ (i : ℕ). lists n ++ together lists (numbers i (count - (n + 1)))) (sym (add-one n))

pub lists-end : (p : Program) (a : Assignment) (lists : ℕ → List Closed) (n count : ℕ) → count ≤ n → first_broken p a (lists_from lists n (count - n)) ≡ none_broken
unfolding lists_from first_broken
lists-end p a lists n count h =
    let none : count - n ≡ 0 = omega arith in
    ap (λ (i : ℕ). first_broken p a (together lists (numbers n i))) none

-- a method's forks, and all methods, as such lists
abbrev pub fork_of : Program → (m n : ℕ) → List Closed
fork_of p m n = only_if (fork_at p m n) (forked_table m n)

pub forks-all : (t : List ℕ) (m count : ℕ) → m < methods_in (cell t) → count ≡ node_count (cell t) m → forks_of (program_in t) m ≡ lists_from (fork_of (program_in t) m) 0 (count - 0)
unfolding forks_of lists_from
forks-all t m count h e =
    let all : length (method_at (program_in t) m).nodes ≡ count - 0
    = ap (λ (x : Method). length x.nodes) (method-in t m h) ∙ nodes-length (cell t) m ∙ sym e ∙ sym (sub-zero count) in
    ap (lists_from (fork_of (program_in t) m) 0) all

pub methods-all : (p : Program) (a : Assignment) (count : ℕ) → finding p a (up_to count) ≡ first_broken p a (lists_from (closed_of p) 0 (count - 0))
unfolding finding closed_of_all lists_from
methods-all p a count = ap (λ (i : ℕ). first_broken p a (together (closed_of p) (numbers 0 i))) (sym (sub-zero count))

-- a node is a fork exactly if its op is 9
nine : (op : ℕ) → op ≡ 9 → is_fork (op_of op) ≡ true
unfolding op_of
nine op e = ap (λ (n : ℕ). is_fork (op_of n)) e

no_nine : (op : ℕ) → (op ≡ 9 → ⊥) → is_fork (op_of op) ≡ false
unfolding op_of
no_nine =
    op-cases (λ n. (n ≡ 9 → ⊥) → is_fork (op_of n) ≡ false)
    (λ _. refl) (λ _. refl) (λ _. refl) (λ _. refl) (λ _. refl) (λ _. refl) (λ _. refl) (λ _. refl) (λ _. refl) (λ h. absurd (h refl))
    (λ n g _. ap is_fork (op-past n g))

module _ (t : List ℕ) (m first n : ℕ) (at : At t m first) (inside : n < node_count (cell t) m) where
  node-is : node_in t (first + n) ≡ node_at (method_at (program_in t) m) n
  node-is = ap (λ (f : ℕ). nodes_from t f n) at.frame ∙ body-node t (λ _ _. 0) m at.method n inside

  pub is-fork : (op : ℕ) → op ≡ (node_in t (first + n)).op → op ≡ 9 → fork_at (program_in t) m n ≡ true
  unfolding fork_at
  is-fork op e f = nine (node_at (method_at (program_in t) m) n).op (sym (e ∙ ap (λ (x : Node). x.op) node-is) ∙ f)

  pub no-fork : (op : ℕ) → op ≡ (node_in t (first + n)).op → (op ≡ 9 → ⊥) → fork_at (program_in t) m n ≡ false
  unfolding fork_at
  no-fork op e f = no_nine (node_at (method_at (program_in t) m) n).op (λ g. f (e ∙ ap (λ (x : Node). x.op) node-is ∙ g))

  pub fork-names : (u : ℕ) → u ≡ (node_in t (first + n)).U → u ≡ named_method (program_in t) m n
  unfolding named_method
  fork-names u e = e ∙ ap (λ (x : Node). x.U) node-is
