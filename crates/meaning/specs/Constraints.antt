-- The constraints, and what is answered: document 01's "Constraints and the answer".
-- Assumes nothing.
use Rattle.std.specs.Prelude.{ℕ, ◌≤◌, ◌<◌, Bool, true, false, not, cond, ◌||◌, List, [], ◌∷◌, ◌++◌, map, ◌≡◌, T, leb, ltb, eqb, length, get_or}
use Rattle.grades.specs.Grades.{const, cmpd}
use Rattle.grades.specs.HeldSets.{held}
use Rattle.frames.specs.Program.{Program, method_at, node_at}
use Rattle.meaning.specs.Meaning.{Assignment, Op, plain_value, read, write, sequence, choice, loop, synchronised, assertion, call, fork, no_op, op_of, root_table}
use Rattle.counting.specs.Counting.{first, up_to, together, only_if, All}
use Rattle.meaning.specs.Lowest.{NoWorse, method_count, entry_count, is_declared, declared_table, rounds, lowest}

-- ---- the constraints of declared and undeclared methods

-- H is one of the held sets of method m of the program
pub record Entry (p : Program) (m H : ℕ) : Type 0 where
  pub method : m < method_count p
  pub set : H < entry_count p m

-- "A declared method has its declared table. An undeclared one satisfies its constraint if its root node's table is no larger than its
-- own."
pub record Meets (p : Program) (a : Assignment) : Type 0 where
  pub declared : (m H : ℕ) → Entry p m H → T (is_declared p m) → a m H ≡ declared_table p m H
  pub undeclared : (m H : ℕ) → Entry p m H → T (not (is_declared p m)) → root_table p a m H ≤ a m H

-- ---- the closed constraints

pub data Closed : Type 0 where
  declared_root : (method : ℕ) → Closed
  main_table : Closed
  forked_table : (method node : ℕ) → Closed

-- the method that a constraint belongs to, "for kind 3 the one that the fork stands in"
abbrev pub method_of : Closed → ℕ
method_of (declared_root m) = m
method_of main_table = 0
method_of (forked_table m n) = m

abbrev pub kind_of : Closed → ℕ
kind_of (declared_root m) = 1
kind_of main_table = 2
kind_of (forked_table m n) = 3

-- "fork node (counted from 0 within its method; 0 for kinds 1 and 2)"
abbrev pub node_of : Closed → ℕ
node_of (declared_root m) = 0
node_of main_table = 0
node_of (forked_table m n) = n

-- the method that node n of method m names
unfoldable pub named_method : Program → (m n : ℕ) → ℕ
named_method p m n = (node_at (method_at p m) n).U

-- how many held sets a constraint speaks of, from none held on
abbrev pub sets_of : Program → Closed → ℕ
sets_of p (declared_root m) = entry_count p m
sets_of p main_table = 1
sets_of p (forked_table m n) = entry_count p (named_method p m n)

-- whether a constraint holds at one held set. Kind 1: "the root's table is no larger than the declared one". Kind 2, of the main: "its own table is
-- at most 3 at its one entry". Kind 3: "the forked method's table is at most 3 wherever its lock 0, the thread's own lock, is held".
abbrev pub holds_at : Program → Assignment → Closed → (H : ℕ) → Bool
holds_at p a (declared_root m) H = leb (root_table p a m H) (declared_table p m H)
holds_at p a main_table H = leb (a 0 H) cmpd
holds_at p a (forked_table m n) H = not (held H 0) || leb (a (named_method p m n) H) cmpd

abbrev pub Met : Program → Assignment → Closed → Type 0
Met p a c = (H : ℕ) → H < sets_of p c → T (holds_at p a c H)

-- ---- their order

abbrev pub is_fork : Op → Bool
is_fork plain_value = false
is_fork read = false
is_fork write = false
is_fork sequence = false
is_fork choice = false
is_fork loop = false
is_fork synchronised = false
is_fork assertion = false
is_fork call = false
is_fork fork = true
is_fork no_op = false

unfoldable pub fork_at : Program → (m n : ℕ) → Bool
fork_at p m n = is_fork (op_of (node_at (method_at p m) n).op)

-- "each fork node in node order". It "counts even if no node names it".
unfoldable pub forks_of : Program → (m : ℕ) → List Closed
forks_of p m = together (λ n. only_if (fork_at p m n) (forked_table m n)) (up_to (length (method_at p m).nodes))

-- a method's closed constraints in order: kind 1 of a declared method, kind 2 of method 0, then the forks
unfoldable pub closed_of : Program → (m : ℕ) → List Closed
closed_of p m = only_if (is_declared p m) (declared_root m) ++ (only_if (eqb m 0) main_table ++ forks_of p m)

-- "The closed constraints come in this order, method by method": of some methods, and of all
unfoldable pub closed_of_all : Program → (methods : List ℕ) → List Closed
closed_of_all p methods = together (closed_of p) methods

unfoldable pub closed : Program → List Closed
closed p = closed_of_all p (up_to (method_count p))

-- an assignment that satisfies all constraints
pub record Satisfies (p : Program) (a : Assignment) : Type 0 where
  pub meets : Meets p a
  pub closed : All (Met p a) (closed p)

-- ---- the answer

-- "the lowest held set at which the named constraint is broken"; if none breaks it, the number of its sets
unfoldable pub broken_set : Program → Assignment → Closed → ℕ
broken_set p a c = first (sets_of p c) (λ H. not (holds_at p a c H))

unfoldable pub is_broken : Program → Assignment → Closed → Bool
is_broken p a c = ltb (broken_set p a c) (sets_of p c)

pub data Finding : Type 0 where
  none_broken : Finding
  broken : (c : Closed) (set : ℕ) → Finding

-- the first broken constraint of a list
unfoldable pub first_broken : Program → Assignment → List Closed → Finding
first_broken p a [] = none_broken
first_broken p a (c ∷ cs) =
    let later = first_broken p a cs in
    cond (is_broken p a c) (broken c (broken_set p a c)) later

-- the finding over some methods' constraints
unfoldable pub finding : Program → Assignment → (methods : List ℕ) → Finding
finding p a methods = first_broken p a (closed_of_all p methods)

-- accepted, with the rounds and each method's table; or refusal 7, with the method, kind, fork node and held set that it gives
pub data Answer : Type 0 where
  accepted : (rounds : ℕ) (tables : List (List ℕ)) → Answer
  refused : (method kind node set : ℕ) → Answer

-- the tables of an assignment, method by method, an entry for each held set
unfoldable pub tables_of : Program → Assignment → List (List ℕ)
tables_of p a = map (λ m. map (a m) (up_to (entry_count p m))) (up_to (method_count p))

-- an answer's tables read as an assignment
unfoldable pub entry_of : List (List ℕ) → Assignment
entry_of tables m H = get_or (get_or tables m []) H const

abbrev pub answer_by : Program → Finding → Answer
answer_by p none_broken = accepted (rounds p) (tables_of p (lowest p))
answer_by p (broken c H) = refused (method_of c) (kind_of c) (node_of c) H

unfoldable pub answer : Program → Answer
answer p = answer_by p (finding p (lowest p) (up_to (method_count p)))

-- ---- what a refusal names

-- "The lowest grades of a refused text are the lowest tables that meet the constraints of its undeclared methods, with declared tables
-- fixed."
pub record IsLowest (p : Program) (a : Assignment) : Type 0 where
  pub meets : Meets p a
  pub least : (b : Assignment) → Meets p b → NoWorse a b

-- c is the first of the constraints that is broken, and H the lowest held set at which it is
pub record FirstBroken (p : Program) (a : Assignment) (constraints : List Closed) (c : Closed) (H : ℕ) : Type 0 where
  pub before : List Closed
  pub behind : List Closed
  pub order : constraints ≡ before ++ (c ∷ behind)
  pub earlier : All (Met p a) before
  pub set : H < sets_of p c
  pub broken : T (not (holds_at p a c H))
  pub lower : (S : ℕ) → S < H → T (holds_at p a c S)
