-- Reading a text: "2, then line by line, in each line 3, 4, 5, 6". Every text is read to the first line with a fault, or whole.
-- Assumes nothing.
use Rattle.std.specs.Prelude.{ℕ, zero, suc, ◌+◌, Bool, cond, List, [], ltb, length, get_or, Option, Some, None, Result, Ok, Err}
use Rattle.frames.specs.Layout.{layout}
use Rattle.lines.specs.Lines.{lines, well_formed}
use Rattle.frames.specs.Frames.{Frames, frames_of, due, placed}
use Rattle.frames.specs.Ranges.{in_range}
use Rattle.frames.specs.Links.{linked}
use Rattle.frames.specs.Tables.{table_of}
use Rattle.frames.specs.declared.Tables.{Tables}
use Rattle.frames.specs.declared.Refusal.{Refusal}
use Rattle.frames.specs.declared.Due.{Due}
use Rattle.frames.specs.declared.Due.TheVariants.{Header, Field, Method, Node, End}
use Rattle.frames.specs.declared.Fault.{Fault}
use Rattle.frames.specs.declared.Fault.TheVariants.{Malformed, Misplaced, OutOfRange, Unlinked}

-- "in each line 3, 4, 5, 6": the lowest refusal that applies, of what the four tests say; None if none does
abbrev pub lowest_fault : (formed placed ranged linked : Bool) → Option Fault
lowest_fault formed placed ranged linked =
    cond formed (cond placed (cond ranged (cond linked None (Some Unlinked)) (Some OutOfRange)) (Some Misplaced)) (Some Malformed)

-- of a line l that is read as frame i, where d is due; f has the frames of all lines
unfoldable pub fault_of : Frames → Due → ℕ → List ℕ → Option Fault
fault_of f d i l = lowest_fault (well_formed l) (placed d l) (in_range f d i) (linked f d i)

-- the fault of line i, counted from 0
unfoldable pub fault_at : List (List ℕ) → ℕ → Option Fault
fault_at ls i = fault_of (frames_of ls) (due (frames_of ls) i) i (get_or ls i [])

-- where reading stops: the fault, None if there is none, and the number of lines before it
pub record Stop : Type 0 where
  pub fault : Option Fault
  pub before : ℕ

-- no line is left: "text ended early" unless the end is due
abbrev pub ended : Due → Option Fault
ended Header = Some Misplaced
ended Field = Some Misplaced
ended Method = Some Misplaced
ended Node = Some Misplaced
ended End = None

-- go on after a sound line, else stop
abbrev pub on_fault : Option Fault → ℕ → Stop → Stop
on_fault None i rest = rest
on_fault (Some x) i rest = record { fault = Some x; before = i }

-- stop where the end is due, else go on
abbrev pub on_due : Due → ℕ → Stop → Stop
on_due Header i rest = rest
on_due Field i rest = rest
on_due Method i rest = rest
on_due Node i rest = rest
on_due End i rest = record { fault = None; before = i }

-- one text, from line i on, where at most n lines follow
unfoldable pub read_from : List (List ℕ) → ℕ → ℕ → Stop
read_from ls i zero = record { fault = ended (due (frames_of ls) i); before = i }
read_from ls i (suc n) = on_due (due (frames_of ls) i) i (on_fault (fault_at ls i) i (read_from ls (suc i) n))

unfoldable pub read_one : List (List ℕ) → Stop
read_one ls = read_from ls 0 (length ls)

-- the whole of the lines is one text: a line that stands where the end is due is "a line too many", unless it is malformed
abbrev pub nothing_more : List (List ℕ) → Option Fault → ℕ → Stop
nothing_more ls None i =
    record { fault = cond (ltb i (length ls)) (fault_at ls i) None; before = i }
nothing_more ls (Some x) i = record { fault = Some x; before = i }

unfoldable pub read_all : List (List ℕ) → Stop
read_all ls = nothing_more ls (read_one ls).fault (read_one ls).before

-- a fault's refusal: "Refusals 3 to 6 give the line, from 1"
abbrev pub refusal_of : Fault → ℕ → Refusal
refusal_of Malformed i = Refusal.Malformed (i + 1)
refusal_of Misplaced i = Refusal.Misplaced (i + 1)
refusal_of OutOfRange i = Refusal.OutOfRange (i + 1)
refusal_of Unlinked i = Refusal.Unlinked (i + 1)

-- what lines come to: the tables with their frames, or the refusal where reading stopped at a fault
abbrev pub checked : List (List ℕ) → Option Fault → ℕ → Result Tables Refusal
checked ls None i = Ok (record { bytes = table_of (frames_of ls) })
checked ls (Some x) i = Err (refusal_of x i)

unfoldable pub checked_lines : List (List ℕ) → Result Tables Refusal
checked_lines ls = checked ls (read_all ls).fault (read_all ls).before

-- "the text is longer than 32,768 bytes" comes first
unfoldable pub read_text : List ℕ → Result Tables Refusal
read_text t = cond (ltb layout.most_text (length t)) (Err Refusal.Overlong) (checked_lines (lines t))
