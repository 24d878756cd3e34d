-- The frames of a text, and which frame is due.
-- Assumes nothing.
use Rattle.std.specs.Prelude.{ℕ, ◌+◌, ◌*◌, Bool, cond, ◌&&◌, List, [], ltb, eqb, get_or}
use Rattle.frames.specs.Layout.{layout}
use Rattle.lines.specs.Lines.{bytes, frame_length}
use Rattle.frames.specs.declared.Due.{Due}
use Rattle.frames.specs.declared.Due.TheVariants.{Header, Field, Method, Node, End}

-- a frame: its byte at each place, 0 past its end
abbrev pub Frame : Type 0
Frame = ℕ → ℕ

-- frames by their number: the header is frame 0
abbrev pub Frames : Type 0
Frames = ℕ → Frame

-- the frames that lines stand for
unfoldable pub frames_of : List (List ℕ) → Frames
frames_of ls j b = get_or (bytes (get_or ls j [])) b 0

-- "Two-byte numbers are high byte first."
abbrev pub two : Frame → ℕ → ℕ
two r b = 256 * r b + r (b + 1)

-- what the header says
abbrev pub methods_in : Frames → ℕ
methods_in f = f 0 layout.methods_at

abbrev pub fields_in : Frames → ℕ
fields_in f = f 0 layout.fields_at

abbrev pub nodes_in : Frames → ℕ
nodes_in f = two (f 0) layout.nodes_at

-- "Order: header, fields, methods, nodes": the frames of field i, method m and of node a, counted through all methods
abbrev pub field_frame : Frames → ℕ → Frame
field_frame f i = f (1 + i)

abbrev pub first_method : Frames → ℕ
first_method f = 1 + fields_in f

abbrev pub method_frame : Frames → ℕ → Frame
method_frame f m = f (first_method f + m)

abbrev pub first_node : Frames → ℕ
first_node f = 1 + fields_in f + methods_in f

-- how many frames a text with this header has
abbrev pub all_frames : Frames → ℕ
all_frames f = first_node f + nodes_in f

-- the frame that is due as number i
unfoldable pub due : Frames → ℕ → Due
due f i =
    cond (eqb i 0)
    Header
    (cond (ltb i (first_method f))
    Field
    (cond (ltb i (first_node f)) Method (cond (ltb i (all_frames f)) Node End)))

-- its kind and length; no line is due at the end
abbrev pub kind_of : Due → ℕ
kind_of Header = layout.header_kind
kind_of Field = layout.field_kind
kind_of Method = layout.method_kind
kind_of Node = layout.node_kind
kind_of End = 0

abbrev pub length_of : Due → ℕ
length_of Header = layout.header_length
length_of Field = layout.field_length
length_of Method = layout.method_length
length_of Node = layout.node_length
length_of End = 0

-- the line's frame is "of the kind due" and not "of wrong length"
unfoldable pub placed : Due → List ℕ → Bool
placed d l = eqb (frame_length l) (length_of d) && eqb (get_or (bytes l) 0 0) (kind_of d)
