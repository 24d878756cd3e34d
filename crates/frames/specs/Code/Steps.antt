-- What the reader carries from line to line, and what its private steps come to. `Reading` says what it all means.
-- Assumes nothing.
use Rattle.std.specs.Prelude.{ℕ, ◌+◌, ◌-◌, ◌*◌, ◌≤◌, ◌<◌, ◌≡◌, cond, List, [], ◌∷◌, ltb, eqb, length, set, drop, Option, Some, None, Result, Ok, Err}
use Rattle.std.proofs.Math.Seq.{paste}
use Rattle.frames.specs.Layout.{layout, tables_length}
use Rattle.lines.specs.Lines.{lines, bytes, frame_length, well_formed}
use Rattle.frames.specs.Frames.{Frames, frames_of, placed, methods_in, first_node}
use Rattle.frames.specs.Ranges.{in_range}
use Rattle.frames.specs.Links.{node_count, nodes_before, named_by}
use Rattle.frames.specs.Code.Marks.{linked_by, marked_by}
use Rattle.frames.specs.Tables.{cell, table_of}
use Rattle.frames.specs.Reading.{fault_at, read_one, read_from, refusal_of}
use Rattle.frames.specs.declared.Due.{Due}
use Rattle.frames.specs.declared.Due.TheVariants.{Header, Field, Method, Node, End}
use Rattle.frames.specs.declared.Fault.{Fault}
use Rattle.frames.specs.declared.Fault.TheVariants.{Malformed, Misplaced, OutOfRange, Unlinked}
use Rattle.frames.specs.declared.Refusal.{Refusal}
use Rattle.frames.specs.declared.Stand.{Stand}
use Rattle.frames.specs.declared.OneText.{OneText}
use Rattle.counting.specs.Counting.{zeros}

-- refusals 5 and 6 of frame i, which stands in the tables
unfoldable pub fault_by : Frames → List ℕ → Due → (i m n : ℕ) → Option Fault
fault_by f marks d i m n = cond (in_range f d i) (cond (linked_by f marks d i m n) None (Some Unlinked)) (Some OutOfRange)

-- the tables with a line's bytes as frame i
abbrev pub stored : List ℕ → ℕ → List ℕ → List ℕ
stored t i l = paste t (i * layout.stride) (bytes l) (frame_length l)

-- refusals 3 to 6 of a line that is read as frame i
unfoldable pub line_fault : List ℕ → Due → (t marks : List ℕ) → (i m n : ℕ) → Option Fault
line_fault l d t marks i m n =
    cond (well_formed l) (cond (placed d l) (fault_by (cell (stored t i l)) marks d i m n) (Some Misplaced)) (Some Malformed)

pub record Taken (r : Option Fault) (l : List ℕ) (d : Due) (t t' before after : List ℕ) (i m n : ℕ) : Type 0 where
  pub is : r ≡ line_fault l d t before i m n
  pub tables : r ≡ None → t' ≡ stored t i l
  pub marks : r ≡ None → after ≡ marked_by (cell (stored t i l)) before d i

-- where the node after a sound frame stands
abbrev pub next_node : Frames → Stand → Stand
next_node f s =
    cond (eqb (s.number + 1) (node_count f s.method))
    (record { method = s.method + 1; number = 0 })
    (record { method = s.method; number = s.number + 1 })

abbrev pub next_stand : Frames → Due → Stand → Stand
next_stand f Header s = s
next_stand f Field s = s
next_stand f Method s = s
next_stand f Node s = next_node f s
next_stand f End s = s

-- the marks that stand for the nodes named so far
unfoldable pub marks_of : List ℕ → List ℕ
marks_of [] = zeros layout.most_nodes
marks_of (c ∷ cs) = set (marks_of cs) c 1

-- the first n frames, and nothing after them
unfoldable pub first_frames : ℕ → Frames → Frames
first_frames n f j b = cond (ltb j n) (f j b) 0

-- what holds where line i of a text is to be read
pub record Going (text : List ℕ) (ls : List (List ℕ)) (t marks : List ℕ) (at line i : ℕ) (s : Stand) : Type 0 where
  pub wide : length t ≡ tables_length
  pub holds : (j b : ℕ) → cell t j b ≡ first_frames i (frames_of ls) j b
  pub rest : lines (drop at text) ≡ drop i ls
  pub inside : i ≤ length ls
  pub counted : line ≡ i + 1
  pub clean : (j : ℕ) → j < i → fault_at ls j ≡ None
  pub same : (n : ℕ) → i + n ≡ length ls → read_one ls ≡ read_from ls i n
  pub stands : nodes_before (frames_of ls) s.method + s.number ≡ i - first_node (frames_of ls)
  pub within : s.number ≤ node_count (frames_of ls) s.method - 1
  pub owned : s.method ≤ methods_in (frames_of ls)
  pub named : marks ≡ marks_of (named_by (frames_of ls) (nodes_before (frames_of ls) s.method) s.number)

-- one text that reads: its tables are those of the lines it took
pub record OneWhole (text : List ℕ) (ls : List (List ℕ)) (one : OneText) : Type 0 where
  pub sound : (read_one ls).fault ≡ None
  pub table : one.tables.bytes ≡ table_of (first_frames (read_one ls).before (frames_of ls))
  pub rest : lines (drop one.after.at text) ≡ drop (read_one ls).before ls
  pub line : one.after.line ≡ (read_one ls).before + 1

-- one that is refused: its fault, and where
pub record OneRefused (ls : List (List ℕ)) (r : Refusal) : Type 0 where
  pub fault : Fault
  pub found : (read_one ls).fault ≡ Some fault
  pub refusal : r ≡ refusal_of fault (read_one ls).before

-- what one text comes to
abbrev pub OneRead : List ℕ → List (List ℕ) → Result OneText Refusal → Type 0
OneRead text ls (Ok one) = OneWhole text ls one
OneRead text ls (Err r) = OneRefused ls r

-- a line where the end is due
abbrev pub surplus : List ℕ → ℕ → Refusal
surplus l n = cond (well_formed l) (Refusal.Misplaced n) (Refusal.Malformed n)
