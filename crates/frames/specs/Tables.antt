-- The checked tables: the frames of a text, each at the same stride, and the program that they stand for.
-- Assumes nothing.
use Rattle.std.specs.Prelude.{ℕ, ◌+◌, ◌*◌, ◌/◌, ◌%◌, ◌^◌, ◌<◌, ◌≡◌, cond, ◌&&◌, List, ltb, eqb, get_or}
use Rattle.frames.specs.Layout.{layout, tables_length}
use Rattle.frames.specs.Program.{Field, Node, Method, Program}
use Rattle.frames.specs.Frames.{Frame, Frames, two, methods_in, fields_in, field_frame, method_frame, first_node}
use Rattle.frames.specs.Links.{nodes_before, node_count}
use Rattle.counting.specs.Counting.{tabulate}

-- what a call gives for a byte, and for a two-byte number: the number meant, and that it is small
pub record Byte (r x : ℕ) : Type 0 where
  pub is : r ≡ x
  pub small : r < 256

pub record Wide (r x : ℕ) : Type 0 where
  pub is : r ≡ x
  pub small : r < 65536

-- byte b of frame j of the tables; 0 for a frame or a byte that they have no room for
unfoldable pub cell : List ℕ → Frames
cell t j b =
    cond (ltb j layout.most_frames && ltb b layout.stride) (get_or t (j * layout.stride + b) 0) 0

-- the tables that hold these frames
unfoldable pub table_of : Frames → List ℕ
table_of f = tabulate tables_length (λ p. f (p / layout.stride) (p % layout.stride))

-- the field, and the node, that a frame stands for
abbrev pub field_of : Frame → Field
field_of r = record { width = r layout.width_at; guard = r layout.guard_at }

abbrev pub node_of : Frame → Node
node_of r =
    record {
      op = r layout.op_at;
      X = two r layout.XAt;
      Y = two r layout.YAt;
      Z = two r layout.ZAt;
      U = r layout.UAt;
      names = tabulate layout.names (λ j. r (layout.names_at + j));
    }

-- the grade of entry h in a method frame; 0 past the grades that it has room for
unfoldable pub grade_of : Frame → ℕ → ℕ
grade_of r h = cond (ltb h layout.grades) (r (layout.grades_at + h)) 0

-- the frame of method m's first node
abbrev pub first_frame : Frames → ℕ → ℕ
first_frame f m = first_node f + nodes_before f m

-- method m: its table has an entry for each held set, its nodes are as many as it counts
abbrev pub method_of : Frames → ℕ → Method
method_of f m =
    record {
      k = method_frame f m layout.k_at;
      declared = eqb (method_frame f m layout.declared_at) 1;
      table = tabulate (2 ^ method_frame f m layout.k_at) (grade_of (method_frame f m));
      nodes = tabulate (node_count f m) (λ n. node_of (f (first_frame f m + n)));
    }

-- the program that frames stand for
unfoldable pub program_of : Frames → Program
program_of f =
    record {
      fields = tabulate (fields_in f) (λ i. field_of (field_frame f i));
      methods = tabulate (methods_in f) (method_of f);
    }
