-- Every number of the frames' layout, in one value, and what is made of them; the other definitions cite them by name.
-- Assumes nothing.
use Rattle.std.specs.Prelude.{ℕ, ◌*◌}

pub record Layout : Type 0 where
  -- the first byte of a frame, its kind
  pub header_kind : ℕ
  pub field_kind : ℕ
  pub method_kind : ℕ
  pub node_kind : ℕ
  -- how many bytes a frame has
  pub header_length : ℕ
  pub field_length : ℕ
  pub method_length : ℕ
  pub node_length : ℕ
  -- the greatest numbers
  pub most_methods : ℕ
  pub most_fields : ℕ
  pub most_nodes : ℕ
  pub most_names : ℕ
  pub most_width : ℕ
  pub most_guard : ℕ
  pub most_declared : ℕ
  pub most_grade : ℕ
  pub most_op : ℕ
  -- how many grades a method frame has, and how many names a node frame
  pub grades : ℕ
  pub names : ℕ
  -- where the bytes stand in a header: methods, fields, nodes (two bytes)
  pub methods_at : ℕ
  pub fields_at : ℕ
  pub nodes_at : ℕ
  -- in a field: width, guard
  pub width_at : ℕ
  pub guard_at : ℕ
  -- in a method: k, node count (two bytes), declared, the first grade
  pub k_at : ℕ
  pub count_at : ℕ
  pub declared_at : ℕ
  pub grades_at : ℕ
  -- in a node: op, X, Y, Z (two bytes each), U, T0
  pub op_at : ℕ
  pub XAt : ℕ
  pub YAt : ℕ
  pub ZAt : ℕ
  pub UAt : ℕ
  pub names_at : ℕ
  -- a name that the caller does not have
  pub no_name : ℕ
  -- the longest text, in bytes
  pub most_text : ℕ
  -- the checked tables: how many bytes a frame takes in them, and how many frames they hold
  pub stride : ℕ
  pub most_frames : ℕ

-- document 01's table of frames
abbrev pub layout : Layout
layout =
    record {
      header_kind = 0x01;
      field_kind = 0x02;
      method_kind = 0x04;
      node_kind = 0x03;
      header_length = 5;
      field_length = 3;
      method_length = 21;
      node_length = 13;
      most_methods = 64;
      most_fields = 64;
      most_nodes = 1024;
      most_names = 4;
      most_width = 1;
      most_guard = 3;
      most_declared = 1;
      most_grade = 4;
      most_op = 9;
      grades = 16;
      names = 4;
      methods_at = 1;
      fields_at = 2;
      nodes_at = 3;
      width_at = 1;
      guard_at = 2;
      k_at = 1;
      count_at = 2;
      declared_at = 4;
      grades_at = 5;
      op_at = 1;
      XAt = 2;
      YAt = 4;
      ZAt = 6;
      UAt = 8;
      names_at = 9;
      no_name = 0xFF;
      most_text = 32768;
      stride = 21;
      most_frames = 1153;
    }

-- how many bytes the checked tables have
abbrev pub tables_length : ℕ
tables_length = layout.most_frames * layout.stride

-- "The lent answer holds 1,024 bytes": an entry for each grade of each method
abbrev pub answer_length : ℕ
answer_length = layout.most_methods * layout.grades
