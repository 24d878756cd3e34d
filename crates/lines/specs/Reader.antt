-- "The reader keeps the text and the place reached together in one record, which gives out the next frame."
-- Assumes nothing.
use Rattle.std.specs.Prelude.{ℕ, cond, List, ltb, length, Option, Some, None}
use Rattle.std.specs.Borrow.{Bor}
use Rattle.lines.specs.Lines.{frame_length}
use Rattle.lines.specs.Places.{past_line, line_from}
use Rattle.lines.specs.declared.Place.{Place}
use Rattle.lines.specs.declared.Reader.{Reader}
use Rattle.lines.specs.declared.Frame.{Frame}

-- before the first byte, at line 1
abbrev pub start : Place
start = record { at = 0; line = 1 }

-- a frame: its place, how many bytes it has, and the place after it
abbrev pub found : Place → ℕ → Place → Frame
found p b a = record { place = p; bytes = b; after = a }

-- the frame of the line that stands at a place, and the place after it; a place past the text counts as its end
unfoldable pub frame_at : List ℕ → Place → Option Frame
frame_at t p =
    cond (ltb p.at (length t))
    (Some (found p (frame_length (line_from t p.at)) (past_line t p)))
    None

-- the place that a reader has reached
abbrev pub place_of : Reader → Place
place_of r = r.place

-- a reader of the whole text
abbrev pub opened : Bor (List ℕ) → Reader
opened text = record { text = text; place = start }

-- the same text, at another place
abbrev pub moved_to : Reader → Place → Reader
moved_to r p = record { text = r.text; place = p }

-- "gives out the next frame"
abbrev pub next_frame : Reader → Option Frame
next_frame r = frame_at r.text.now (place_of r)
