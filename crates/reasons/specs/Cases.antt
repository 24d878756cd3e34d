-- Reasons computed from the definitions: of document 01's P12 and its session, of a call with FF, and of an assert.
-- Assumes nothing.
use Rattle.std.specs.Prelude.{ℕ, [], ◌∷◌, ◌≡◌, refl}
use Rattle.counting.specs.Counting.{every, first, member}
use Rattle.grades.specs.Grades.{cap, composition, compose, join, closure, assert_atomic, lock_taken}
use Rattle.grades.specs.Access.{unprotected, guarded, read_access, write_access, access}
use Rattle.grades.specs.HeldSets.{entries, held, add, no_name, packed}
use Rattle.frames.specs.Program.{Program, no_field, plain_node, no_method, field_at, method_at, node_at}
use Rattle.meaning.specs.Cases.{node, plain, undeclared, declared_at, calls_itself, session, calls_twice}
use Rattle.meaning.specs.Meaning.{root_of, op_of, children, first_name, field_access, allowed, choices, matching, largest, callee_entry, parts, whole, node_grade, below, meaning, root_table}
use Rattle.meaning.specs.Lowest.{method_count, entry_count, is_entry, on_entries, start, round, after, same, settled, open_entries, rounds_from, lowest_from, is_declared, declared_table, declarations, rounds, lowest}
use Rattle.reasons.specs.Steps.{Step, tables_before, node_here, grade_at, first_round, root_place, first_place, parts_at, part_grade_at, first_part, last_atomic, pick_of, pick_at, callee_set, callee_place, call_turn, turn_at, step_at, steps_from, open_nodes, most_steps, chain_from, declared_step, reason, body_place, body_reason}

abbrev step : (method node set round grade rule : ℕ) → Step
step method node set round grade rule =
    record { method = method; node = node; set = set; round = round; grade = grade; rule = rule }

-- of a declared callee's entries 1, 2, 2, 0 the lowest set with the largest is 1; method 2 calls it with both names, method 3 that with two FF, method 4
-- that with one
abbrev calls_unnamed : Program
calls_unnamed =
    record {
      fields = [];
      methods =
          undeclared 0 (plain ∷ [])
          ∷ declared_at 2 (1 ∷ 2 ∷ 2 ∷ 0 ∷ []) (plain ∷ [])
          ∷ undeclared 2 (plain ∷ node 8 0 0 1 (0 ∷ 1 ∷ []) ∷ [])
          ∷ undeclared 2 (plain ∷ node 8 0 0 2 (no_name ∷ no_name ∷ []) ∷ [])
          ∷ undeclared 1 (plain ∷ node 8 0 0 3 (0 ∷ no_name ∷ []) ∷ [])
          ∷ [];
    }

-- main asserts that two reads of an unguarded narrow field are atomic
abbrev asserts_two_reads : Program
asserts_two_reads =
    record {
      fields = record { width = 0; guard = 3 } ∷ [];
      methods =
          undeclared 0 (plain ∷ node 1 0 0 0 (0 ∷ []) ∷ plain ∷ node 1 2 0 0 (0 ∷ []) ∷ node 3 1 3 0 [] ∷ node 7 4 0 0 [] ∷ [])
          ∷ [];
    }

pub record ReasonCases : Type 0 where
  pub P12 : reason calls_itself 0 0 ≡ step 0 2 0 2 3 10 ∷ step 0 2 0 1 2 1 ∷ step 0 1 0 1 2 3 ∷ []
  pub session-main : reason (session (undeclared 1 calls_twice)) 0 0
      ≡ step 0 1 0 3 3 2 ∷ step 2 4 0 2 3 9 ∷ step 2 3 0 2 2 2 ∷ step 1 2 0 1 2 5 ∷ []
  pub session-locked : reason (session (undeclared 1 calls_twice)) 1 0 ≡ step 1 2 0 1 2 5 ∷ []
  pub session-held : reason (session (undeclared 1 calls_twice)) 1 1 ≡ step 1 2 1 1 1 1 ∷ step 1 1 1 1 1 3 ∷ []
  pub session-twice : reason (session (undeclared 1 calls_twice)) 2 0 ≡ step 2 4 0 2 3 9 ∷ step 2 3 0 2 2 2 ∷ step 1 2 0 1 2 5 ∷ []
  pub session-twice-held : reason (session (undeclared 1 calls_twice)) 2 1
      ≡ step 2 4 1 2 1 1 ∷ step 2 1 1 2 1 2 ∷ step 1 2 1 1 1 1 ∷ step 1 1 1 1 1 3 ∷ []
  pub unnamed : reason calls_unnamed 3 0 ≡ step 3 1 0 2 2 2 ∷ step 2 1 1 1 2 7 ∷ []
  pub unnamed-twice : reason calls_unnamed 4 1 ≡ step 4 1 1 3 2 2 ∷ step 3 1 1 2 2 2 ∷ step 2 1 1 1 2 7 ∷ []
  -- "Rounds count from 1, also for a grade of 0."
  pub grade-0 : reason calls_unnamed 2 3 ≡ step 2 1 3 1 0 1 ∷ step 2 0 3 1 0 0 ∷ []
  pub declared : reason calls_unnamed 1 2 ≡ step 1 0 2 0 2 7 ∷ []
  pub asserted : reason asserts_two_reads 0 0 ≡ step 0 5 0 1 4 6 ∷ []
  -- the session with its method 2 declared lower than its body: the body's reason
  pub body : body_reason (session (declared_at 1 (2 ∷ 2 ∷ []) calls_twice)) 2 0 ≡ step 2 4 0 2 3 9 ∷ step 2 3 0 2 2 2 ∷ step 1 2 0 1 2 5 ∷ []

pub reason-cases : ReasonCases
unfolding
    cap composition compose join closure assert_atomic lock_taken unprotected guarded read_access write_access access entries held add packed
    no_field plain_node no_method field_at method_at node_at root_of op_of children first_name field_access allowed choices matching largest callee_entry parts
    whole node_grade below meaning root_table every first member method_count entry_count is_entry on_entries start round after same settled open_entries
    rounds_from lowest_from is_declared declared_table declarations rounds lowest
    tables_before node_here grade_at first_round root_place first_place parts_at part_grade_at first_part last_atomic pick_of pick_at callee_set callee_place call_turn turn_at
    step_at steps_from open_nodes most_steps chain_from declared_step reason body_place body_reason
reason-cases =
    record {
      P12 = refl;
      session-main = refl;
      session-locked = refl;
      session-held = refl;
      session-twice = refl;
      session-twice-held = refl;
      unnamed = refl;
      unnamed-twice = refl;
      grade-0 = refl;
      declared = refl;
      asserted = refl;
      body = refl;
    }
