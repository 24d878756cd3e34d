-- The texts of `Teeth` read as its programs: computed.
-- Assumes nothing.
use Rattle.std.specs.Prelude.{refl}
use Rattle.counting.specs.Counting.{every, member, tabulate}
use Rattle.lines.specs.Lines.{joined, lines, digit, is_digit, paired, bytes, frame_length, well_formed}
use Rattle.frames.specs.Frames.{frames_of, due, placed}
use Rattle.frames.specs.Ranges.{header_in_range, field_in_range, grades_listed, grade_in_range, method_in_range, children_listed, names_listed, name_in_range, node_in_range, in_range}
use Rattle.frames.specs.Links.{nodes_before, owner_up_to, children_of, naming, named_by, fresh, access_linked, call_name_linked, call_linked, fork_linked, names_linked, node_linked, method_linked, node_linked_at, linked}
use Rattle.frames.specs.Tables.{grade_of, program_of}
use Rattle.frames.specs.Reading.{fault_of, fault_at, read_from, read_one, read_all, checked_lines, read_text}
use Rattle.running.specs.Teeth.{Reads, reads_twice, reads_twice_text, reads_wide, reads_wide_text, reads_unguarded, reads_unguarded_text, crosses, crosses_text, calls_stub, calls_stub_text}

pub record Readings : Type 0 where
  pub reads_twice-reads : Reads reads_twice_text reads_twice
  pub reads_wide-reads : Reads reads_wide_text reads_wide
  pub reads_unguarded-reads : Reads reads_unguarded_text reads_unguarded
  pub crosses-reads : Reads crosses_text crosses
  pub calls_stub-reads : Reads calls_stub_text calls_stub

pub readings : Readings
unfolding
    every member tabulate joined lines digit is_digit paired bytes frame_length well_formed frames_of due placed header_in_range field_in_range grades_listed grade_in_range
    method_in_range children_listed names_listed name_in_range node_in_range in_range nodes_before owner_up_to children_of naming named_by fresh access_linked call_name_linked
    call_linked fork_linked names_linked node_linked method_linked node_linked_at linked grade_of program_of fault_of fault_at read_from read_one read_all checked_lines read_text
readings =
    record {
      reads_twice-reads = record { whole = refl; program = refl };
      reads_wide-reads = record { whole = refl; program = refl };
      reads_unguarded-reads = record { whole = refl; program = refl };
      crosses-reads = record { whole = refl; program = refl };
      calls_stub-reads = record { whole = refl; program = refl };
    }
