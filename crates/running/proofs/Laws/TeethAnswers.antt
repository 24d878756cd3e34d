-- The answers to the programs of `Teeth`, computed.
-- Assumes nothing.
use Rattle.std.specs.Prelude.{◌≡◌, refl}
use Rattle.grades.specs.Grades.{cap, composition, compose, join, closure, assert_atomic, lock_taken, atomic, cmpd}
use Rattle.grades.specs.Access.{unprotected, guarded, read_access, write_access, access}
use Rattle.grades.specs.HeldSets.{entries, held, add, packed}
use Rattle.frames.specs.Program.{no_field, plain_node, no_method, field_at, method_at, node_at}
use Rattle.meaning.specs.Meaning.{root_of, op_of, children, first_name, field_access, allowed, choices, matching, largest, callee_entry, parts, whole, node_grade, below, meaning, root_table}
use Rattle.counting.specs.Counting.{every, first}
use Rattle.meaning.specs.Lowest.{method_count, entry_count, is_entry, on_entries, start, round, after, same, settled, open_entries, rounds_from, lowest_from, is_declared, declared_table, declarations, rounds, lowest}
use Rattle.meaning.specs.Constraints.{named_method, fork_at, forks_of, closed_of, closed_of_all, closed, broken_set, is_broken, first_broken, finding, accepted, refused, tables_of, entry_of, answer}
use Rattle.running.specs.Teeth.{reads_twice, reads_twice_tables, reads_wide, reads_wide_tables, reads_unguarded, crosses, crosses_tables, calls_stub, calls_stub_tables}

pub record Answers : Type 0 where
  pub reads_twice-answered : answer reads_twice ≡ accepted 1 reads_twice_tables
  pub reads_twice-graded : entry_of reads_twice_tables 1 1 ≡ cmpd
  pub reads_wide-answered : answer reads_wide ≡ accepted 1 reads_wide_tables
  pub reads_wide-graded : entry_of reads_wide_tables 1 1 ≡ cmpd
  pub reads_unguarded-answered : answer reads_unguarded ≡ refused 0 2 0 0
  pub crosses-answered : answer crosses ≡ accepted 1 crosses_tables
  pub crosses-graded-1 : entry_of crosses_tables 1 1 ≡ atomic
  pub crosses-graded-2 : entry_of crosses_tables 2 1 ≡ atomic
  pub calls_stub-answered : answer calls_stub ≡ accepted 1 calls_stub_tables
  pub calls_stub-graded : entry_of calls_stub_tables 1 1 ≡ atomic
  pub calls_stub-declared : declared_table calls_stub 2 1 ≡ cmpd

pub answers : Answers
unfolding
    cap composition compose join closure assert_atomic lock_taken unprotected guarded read_access write_access access entries held add packed
    no_field plain_node no_method field_at method_at node_at root_of op_of children first_name field_access allowed choices matching largest callee_entry parts
    whole node_grade below meaning root_table every first method_count entry_count is_entry on_entries start round after same settled open_entries
    rounds_from lowest_from is_declared declared_table declarations rounds lowest named_method fork_at forks_of closed_of closed_of_all closed
    broken_set is_broken first_broken finding tables_of entry_of answer
answers =
    record {
      reads_twice-answered = refl;
      reads_twice-graded = refl;
      reads_wide-answered = refl;
      reads_wide-graded = refl;
      reads_unguarded-answered = refl;
      crosses-answered = refl;
      crosses-graded-1 = refl;
      crosses-graded-2 = refl;
      calls_stub-answered = refl;
      calls_stub-graded = refl;
      calls_stub-declared = refl;
    }
