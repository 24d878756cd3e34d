-- The parts of the program that frames stand for, by number: what the accessors' contracts cite is what the program has.
-- Assumes nothing.
use Rattle.std.specs.Prelude.{ℕ, ◌+◌, ◌≤◌, ◌<◌, ◌≡◌, length}
use Rattle.frames.specs.Layout.{layout}
use Rattle.frames.specs.Frames.{Frame, Frames, methods_in, fields_in, field_frame}
use Rattle.frames.specs.Links.{node_count}
use Rattle.frames.specs.Tables.{field_of, node_of, method_of, first_frame, program_of}
use Rattle.frames.specs.WellFormed.{name_at}
use Rattle.counting.specs.Laws.Lists.{length-tabulate, get_or-tabulate, get_or-past-tabulate}
use Rattle.frames.specs.Program.{no_field, plain_node, no_method, field_at, method_at, node_at}

module _ (f : Frames) where
  pub field_is : (i : ℕ) → i < fields_in f → field_at (program_of f) i ≡ field_of (field_frame f i)
  unfolding program_of field_at
  field_is i h = get_or-tabulate (fields_in f) (λ i. field_of (field_frame f i)) i no_field h

  pub method-is : (m : ℕ) → m < methods_in f → method_at (program_of f) m ≡ method_of f m
  unfolding program_of method_at
  method-is m h = get_or-tabulate (methods_in f) (method_of f) m no_method h

  pub node-is : (m n : ℕ) → n < node_count f m → node_at (method_of f m) n ≡ node_of (f (first_frame f m + n))
  unfolding node_at
  node-is m n h = get_or-tabulate (node_count f m) (λ n. node_of (f (first_frame f m + n))) n plain_node h

  pub fields-length : length (program_of f).fields ≡ fields_in f
  unfolding program_of
  fields-length = length-tabulate (fields_in f) (λ i. field_of (field_frame f i))

  pub methods-length : length (program_of f).methods ≡ methods_in f
  unfolding program_of
  methods-length = length-tabulate (methods_in f) (method_of f)

  pub name-is : (r : Frame) (j : ℕ) → j < layout.names → name_at (node_of r) j ≡ r (layout.names_at + j)
  name-is r j h = get_or-tabulate layout.names (λ j. r (layout.names_at + j)) j 0 h

  pub name-past : (r : Frame) (j : ℕ) → layout.names ≤ j → name_at (node_of r) j ≡ 0
  name-past r j h = get_or-past-tabulate layout.names (λ j. r (layout.names_at + j)) j 0 h
