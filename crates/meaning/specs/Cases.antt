-- Document 01's "Proved cases", and document 02's P13, as one joint statement; 01's "One whole session"; all computed from the definitions.
-- Assumes nothing.
use Rattle.std.specs.Prelude.{ℕ, true, false, List, [], ◌∷◌, map, ◌≡◌, refl, get_or}
use Rattle.grades.specs.Grades.{cap, composition, compose, join, closure, assert_atomic, lock_taken}
use Rattle.grades.specs.Access.{unprotected, guarded, read_access, write_access, access}
use Rattle.grades.specs.HeldSets.{entries, held, add, no_name, packed}
use Rattle.grades.specs.Cases.{ArithmeticCases, arithmetic-cases}
use Rattle.frames.specs.Program.{Field, Node, Method, Program, no_field, plain_node, no_method, field_at, method_at, node_at}
use Rattle.meaning.specs.Meaning.{root_of, op_of, children, first_name, field_access, allowed, choices, matching, largest, callee_entry, parts, whole, node_grade, below, meaning, root_table}
use Rattle.counting.specs.Counting.{every, first, up_to}
use Rattle.meaning.specs.Lowest.{method_count, entry_count, is_entry, on_entries, start, round, after, same, settled, open_entries, rounds_from, lowest_from, is_declared, declared_table, declarations, rounds, lowest}
use Rattle.meaning.specs.Constraints.{declared_root, main_table, forked_table, named_method, fork_at, forks_of, closed_of, closed_of_all, closed, broken_set, is_broken, first_broken, finding, accepted, refused, tables_of, answer}
use Rattle.meaning.specs.NotHeld.{as_not_held}

-- ---- nodes and methods as the cases write them

abbrev pub node : (op X Y U : ℕ) → List ℕ → Node
node op X Y U names = record { op = op; X = X; Y = Y; Z = 0; U = U; names = names }

abbrev pub plain : Node
plain = node 0 0 0 0 []

abbrev pub undeclared : ℕ → List Node → Method
undeclared k nodes = record { k = k; declared = false; table = []; nodes = nodes }

abbrev pub declared_at : ℕ → List ℕ → List Node → Method
declared_at k table nodes = record { k = k; declared = true; table = table; nodes = nodes }

-- ---- one node over given tables

-- a node's table over k names, in a program, where its child X has a table and each method has a table
abbrev over : (k : ℕ) → Node → (child callee : List ℕ) → Program → List ℕ
over k n child callee p =
    map (node_grade p (λ m S. get_or callee S 0) (λ c S. get_or child S 0) n) (up_to (entries k))

abbrev empty : Program
empty = record { fields = []; methods = [] }

-- synchronised on l
abbrev locked_on : (k l : ℕ) → List ℕ → List ℕ
locked_on k l child = over k (node 6 0 0 0 (l ∷ [])) child [] empty

-- a call, after a plain value, of a method whose number of names and table are given
abbrev calling : (k callee_names : ℕ) → (names callee : List ℕ) → List ℕ
calling k callee_names names callee =
    over k (node 8 0 0 0 names) [] callee (record { fields = []; methods = undeclared callee_names [] ∷ [] })

-- ---- P12

-- "main reads an unguarded narrow field, then calls itself"
abbrev pub calls_itself : Program
calls_itself =
    record {
      fields = record { width = 0; guard = 3 } ∷ [];
      methods = undeclared 0 (plain ∷ node 1 0 0 0 (0 ∷ []) ∷ node 8 1 0 0 [] ∷ []) ∷ [];
    }

-- ---- the session

-- the session's text, with its method 2 as given
abbrev pub session : Method → Program
session m2 =
    record {
      fields = record { width = 0; guard = 1 } ∷ [];
      methods =
          undeclared 0 (plain ∷ node 8 0 0 2 (no_name ∷ []) ∷ [])
          ∷ undeclared 1 (plain ∷ node 1 0 0 0 (0 ∷ []) ∷ node 6 1 0 0 (0 ∷ []) ∷ [])
          ∷ m2
          ∷ [];
    }

abbrev pub calls_twice : List Node
calls_twice = plain ∷ node 8 0 0 1 (0 ∷ []) ∷ plain ∷ node 8 2 0 1 (0 ∷ []) ∷ node 3 1 3 0 [] ∷ []

-- ---- the joint statement

pub record ProvedCases : Type 0 where
  pub arithmetic : ArithmeticCases
  pub P5 : locked_on 1 0 (1 ∷ 1 ∷ []) ≡ 2 ∷ 1 ∷ []
  pub P6 : locked_on 1 0 (4 ∷ 1 ∷ []) ≡ 2 ∷ 1 ∷ []
  pub P7 : locked_on 1 0 (3 ∷ 3 ∷ []) ≡ 3 ∷ 3 ∷ []
  pub P8 : locked_on 2 0 (4 ∷ 4 ∷ 1 ∷ 1 ∷ []) ≡ 4 ∷ 4 ∷ 2 ∷ 1 ∷ []
  pub P10 : calling 1 2 (0 ∷ 0 ∷ []) (4 ∷ 3 ∷ 2 ∷ 1 ∷ []) ≡ 4 ∷ 1 ∷ []
  pub P11 : calling 1 2 (0 ∷ no_name ∷ []) (4 ∷ 3 ∷ 2 ∷ 1 ∷ []) ≡ 4 ∷ 3 ∷ []
  pub P12 : answer calls_itself ≡ accepted 2 ((3 ∷ []) ∷ [])
  -- document 02's: "a supplier's declared [1,3], called with FF, must give 3"
  pub P13 : calling 1 1 (no_name ∷ []) (1 ∷ 3 ∷ []) ≡ 3 ∷ 3 ∷ []

pub proved-cases : ProvedCases
unfolding
    cap composition compose join closure assert_atomic lock_taken unprotected guarded read_access write_access access entries held add packed
    no_field plain_node no_method field_at method_at node_at root_of op_of children first_name field_access allowed choices matching largest callee_entry parts
    whole node_grade below meaning root_table every first method_count entry_count is_entry on_entries start round after same settled open_entries
    rounds_from lowest_from is_declared declared_table declarations rounds lowest named_method fork_at forks_of closed_of closed_of_all closed
    broken_set is_broken first_broken finding tables_of answer
proved-cases =
    record {
      arithmetic = arithmetic-cases;
      P5 = refl;
      P6 = refl;
      P7 = refl;
      P8 = refl;
      P10 = refl;
      P11 = refl;
      P12 = refl;
      P13 = refl;
    }

-- ---- the session's two answers, and cases that tell this meaning from its easy errors

-- main forks method 1 at a node that nothing names; method 1 writes a final field, so it is error whatever is held
abbrev forks_unnamed : Program
forks_unnamed =
    record {
      fields = record { width = 0; guard = 0 } ∷ [];
      methods =
          undeclared 0 (plain ∷ node 9 0 0 1 [] ∷ plain ∷ [])
          ∷ undeclared 1 (plain ∷ plain ∷ node 2 0 1 0 (0 ∷ []) ∷ [])
          ∷ [];
    }

-- method 1 does nothing and is declared atomic; main calls it
abbrev declared_higher : Program
declared_higher =
    record {
      fields = [];
      methods = undeclared 0 (plain ∷ node 8 0 0 1 [] ∷ []) ∷ declared_at 0 (2 ∷ []) (plain ∷ []) ∷ [];
    }

-- main is declared cmpd, does what is error and forks what is error: kinds 1 and 3 are broken, kind 2 is not
abbrev breaks_twice : (declared_grade : ℕ) → Program
breaks_twice g =
    record {
      fields = record { width = 0; guard = 0 } ∷ [];
      methods =
          declared_at 0 (g ∷ []) (plain ∷ plain ∷ node 2 0 1 0 (0 ∷ []) ∷ node 9 2 0 1 [] ∷ [])
          ∷ undeclared 1 (plain ∷ plain ∷ node 2 0 1 0 (0 ∷ []) ∷ [])
          ∷ [];
    }

-- method 1 calls only itself
abbrev recursive : Program
recursive =
    record {
      fields = [];
      methods = undeclared 0 (plain ∷ node 8 0 0 1 [] ∷ []) ∷ undeclared 0 (plain ∷ node 8 0 0 1 [] ∷ []) ∷ [];
    }

-- main reads an unguarded narrow field in a loop
abbrev loops : Program
loops =
    record {
      fields = record { width = 0; guard = 3 } ∷ [];
      methods = undeclared 0 (plain ∷ plain ∷ node 1 1 0 0 (0 ∷ []) ∷ node 5 0 2 0 [] ∷ []) ∷ [];
    }

-- one method, its fields given
abbrev single : List Field → Method → Program
single fields main = record { fields = fields; methods = main ∷ [] }

-- a narrow field without a guard, and one that is write-guarded
abbrev unguarded : Field
unguarded = record { width = 0; guard = 3 }

abbrev write_guarded : Field
write_guarded = record { width = 1; guard = 2 }

-- a plain value, then either of two reads of the unguarded field
abbrev chooses : Program
chooses =
    single (unguarded ∷ [])
    (undeclared 0 (plain ∷ plain ∷ node 1 1 0 0 (0 ∷ []) ∷ plain ∷ node 1 3 0 0 (0 ∷ []) ∷ record { op = 4; X = 0; Y = 2; Z = 4; U = 0; names = [] } ∷ []))

-- a read of the unguarded field, then either a plain value or such a read; Y and Z say which comes first
abbrev chooses_by_field : (Y Z : ℕ) → Method
chooses_by_field Y Z =
    undeclared 0 (plain ∷ node 1 0 0 0 (0 ∷ []) ∷ plain ∷ plain ∷ node 1 3 0 0 (0 ∷ []) ∷ record { op = 4; X = 1; Y = Y; Z = Z; U = 0; names = [] } ∷ [])

-- loops on a read of the unguarded field, with an empty body
abbrev waits : Program
waits = single (unguarded ∷ []) (undeclared 0 (plain ∷ node 1 0 0 0 (0 ∷ []) ∷ plain ∷ node 5 1 2 0 [] ∷ []))

-- main reads the unguarded field of what it reads there; method 1 reads it twice, then writes the guarded field
abbrev follows : Program
follows =
    record {
      fields = unguarded ∷ record { width = 0; guard = 1 } ∷ [];
      methods =
          undeclared 0 (plain ∷ node 1 0 0 0 (0 ∷ []) ∷ node 1 1 0 0 (0 ∷ []) ∷ [])
          ∷ undeclared 1 (plain ∷ node 1 0 0 0 (0 ∷ []) ∷ plain ∷ node 1 2 0 0 (0 ∷ []) ∷ node 2 1 3 1 (0 ∷ []) ∷ [])
          ∷ [];
    }

-- asserts that two reads of the unguarded field, one after the other, are atomic
abbrev asserts : Program
asserts =
    single (unguarded ∷ [])
    (undeclared 0 (plain ∷ node 1 0 0 0 (0 ∷ []) ∷ plain ∷ node 1 2 0 0 (0 ∷ []) ∷ node 3 1 3 0 [] ∷ node 7 4 0 0 [] ∷ []))

-- method 1 reads, method 2 writes the write-guarded wide field; main forks a method that does nothing
abbrev accesses : Program
accesses =
    record {
      fields = unguarded ∷ write_guarded ∷ [];
      methods =
          undeclared 0 (plain ∷ node 9 0 0 1 [] ∷ [])
          ∷ undeclared 1 (plain ∷ node 1 0 0 1 (0 ∷ []) ∷ [])
          ∷ undeclared 1 (plain ∷ plain ∷ node 2 0 1 1 (0 ∷ []) ∷ [])
          ∷ [];
    }

-- a supplier's method, declared to get worse where its lock is held; main calls it, and has no name for that lock
abbrev supplied : Program
supplied =
    record {
      fields = [];
      methods = undeclared 0 (plain ∷ node 8 0 0 1 (no_name ∷ []) ∷ []) ∷ declared_at 1 (1 ∷ 3 ∷ []) (plain ∷ []) ∷ [];
    }

pub record WorkedCases : Type 0 where
  pub session-accepted : answer (session (undeclared 1 calls_twice)) ≡ accepted 3 ((3 ∷ []) ∷ (2 ∷ 1 ∷ []) ∷ (3 ∷ 1 ∷ []) ∷ [])
  pub session-refused : answer (session (declared_at 1 (2 ∷ 2 ∷ []) calls_twice)) ≡ refused 2 1 0 0
  -- "A fork node's kind 3 constraint counts even if no node names it": at node 1 of main, at the lowest set with lock 0 held
  pub unnamed-fork : answer forks_unnamed ≡ refused 0 3 1 1
  -- callers use the declaration and not the body
  pub declaration-used : answer declared_higher ≡ accepted 1 ((2 ∷ []) ∷ (2 ∷ []) ∷ [])
  -- kind 1 comes before kind 2, and kind 2 before kind 3
  pub kind-1-first : answer (breaks_twice 3) ≡ refused 0 1 0 0
  pub kind-2-next : answer (breaks_twice 4) ≡ refused 0 2 0 0
  -- recursion gets the lowest solution: nothing is done, so const, and no round changes it
  pub recursion-lowest : answer recursive ≡ accepted 0 ((0 ∷ []) ∷ (0 ∷ []) ∷ [])
  -- kind 2 is about the main's own table, which is its declaration
  pub own-table : answer (single [] (declared_at 0 (4 ∷ []) (plain ∷ []))) ≡ refused 0 2 0 0
  -- "in this order .. within one method"
  pub kinds-in-order : closed_of (breaks_twice 4) 0 ≡ declared_root 0 ∷ main_table ∷ forked_table 0 3 ∷ []
  pub choice-joined : answer chooses ≡ accepted 1 ((2 ∷ []) ∷ [])
  pub assert-broken : answer asserts ≡ refused 0 2 0 0
  pub accesses-graded : answer accesses ≡ accepted 1 ((2 ∷ []) ∷ (3 ∷ 1 ∷ []) ∷ (4 ∷ 3 ∷ []) ∷ [])
  pub loop-closed : answer loops ≡ accepted 1 ((3 ∷ []) ∷ [])
  -- each operand counts: a choice's X, Y and Z, a read's X, a write's X and Y, and a loop's X once more, after its Y
  pub choice-operands : answer (record { fields = unguarded ∷ []; methods = chooses_by_field 4 2 ∷ chooses_by_field 2 4 ∷ [] }) ≡ accepted 1 ((3 ∷ []) ∷ (3 ∷ []) ∷ [])
  pub access-operands : answer follows ≡ accepted 1 ((3 ∷ []) ∷ (4 ∷ 3 ∷ []) ∷ [])
  pub loop-operands : answer waits ≡ accepted 1 ((3 ∷ []) ∷ [])
  -- P13 as a whole program
  pub supplier : answer supplied ≡ accepted 1 ((3 ∷ []) ∷ (1 ∷ 3 ∷ []) ∷ [])
  -- which 01, with the lock not held, lets pass as a mover
  pub supplier-by-01 : answer (as_not_held 0xFE supplied) ≡ accepted 1 ((1 ∷ []) ∷ (1 ∷ 3 ∷ []) ∷ [])
  -- each FF is chosen apart: the largest entry stands where the one lock is held and the other is not
  pub chosen-apart : calling 0 2 (no_name ∷ no_name ∷ []) (0 ∷ 3 ∷ 1 ∷ 2 ∷ []) ≡ 3 ∷ []
  pub chosen-apart-too : calling 0 2 (no_name ∷ no_name ∷ []) (0 ∷ 1 ∷ 3 ∷ 2 ∷ []) ≡ 3 ∷ []
  -- in rising order, with a name that is held between two FF
  pub rising : matching (no_name ∷ 0 ∷ no_name ∷ []) 1 ≡ 2 ∷ 3 ∷ 6 ∷ 7 ∷ []
  -- beside an FF, a name is held exactly if it is in H
  pub beside-a-name : calling 1 2 (no_name ∷ 0 ∷ []) (1 ∷ 2 ∷ 0 ∷ 3 ∷ []) ≡ 2 ∷ 3 ∷ []

pub worked-cases : WorkedCases
unfolding
    cap composition compose join closure assert_atomic lock_taken unprotected guarded read_access write_access access entries held add packed
    no_field plain_node no_method field_at method_at node_at root_of op_of children first_name field_access allowed choices matching largest callee_entry parts
    whole node_grade below meaning root_table every first method_count entry_count is_entry on_entries start round after same settled open_entries
    rounds_from lowest_from is_declared declared_table declarations rounds lowest named_method fork_at forks_of closed_of closed_of_all closed
    broken_set is_broken first_broken finding tables_of answer as_not_held
worked-cases =
    record {
      session-accepted = refl;
      session-refused = refl;
      unnamed-fork = refl;
      declaration-used = refl;
      kind-1-first = refl;
      kind-2-next = refl;
      recursion-lowest = refl;
      own-table = refl;
      kinds-in-order = refl;
      choice-joined = refl;
      assert-broken = refl;
      accesses-graded = refl;
      loop-closed = refl;
      choice-operands = refl;
      access-operands = refl;
      loop-operands = refl;
      supplier = refl;
      supplier-by-01 = refl;
      chosen-apart = refl;
      chosen-apart-too = refl;
      rising = refl;
      beside-a-name = refl;
    }
