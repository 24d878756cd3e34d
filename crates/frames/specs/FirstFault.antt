-- The first fault of a text's lines, and what each refusal of a line says: "in each line 3, 4, 5, 6".
-- Assumes nothing.
use Rattle.std.specs.Prelude.{ℕ, ◌<◌, ◌≡◌, true, false, List, ◌⊎◌, length, Option, Some, None}
use Rattle.lines.specs.Lines.{well_formed}
use Rattle.frames.specs.Frames.{Frames, frames_of, due, placed}
use Rattle.frames.specs.Ranges.{in_range}
use Rattle.frames.specs.Links.{linked}
use Rattle.frames.specs.Reading.{fault_at}
use Rattle.frames.specs.declared.Due.{Due}
use Rattle.frames.specs.declared.Due.TheVariants.{End}
use Rattle.frames.specs.declared.Fault.{Fault}
use Rattle.frames.specs.declared.Fault.TheVariants.{Malformed, Misplaced, OutOfRange, Unlinked}

-- in a line with this fault the lower numbers do not apply, and its own does; in a line with none, no number does
abbrev pub Lowest : Frames → Due → ℕ → List ℕ → Option Fault → Type 0
Lowest f d i l (Some Malformed) = well_formed l ≡ false
Lowest f d i l (Some Misplaced) = (well_formed l ≡ true) × (placed d l ≡ false)
Lowest f d i l (Some OutOfRange) = (well_formed l ≡ true) × (placed d l ≡ true) × (in_range f d i ≡ false)
Lowest f d i l (Some Unlinked) = (well_formed l ≡ true) × (placed d l ≡ true) × (in_range f d i ≡ true) × (linked f d i ≡ false)
Lowest f d i l None = (well_formed l ≡ true) × (placed d l ≡ true) × (in_range f d i ≡ true) × (linked f d i ≡ true)

-- the lines before number i have no fault; line i has this one, or the text ended early there
pub record First (ls : List (List ℕ)) (x : Fault) (i : ℕ) : Type 0 where
  pub earlier : (j : ℕ) → j < i → fault_at ls j ≡ None
  pub here : ((i < length ls) × (fault_at ls i ≡ Some x)) ⊎ ((i ≡ length ls) × (x ≡ Misplaced) × (due (frames_of ls) i ≡ End → ⊥))

-- no line has a fault, and the end is due after the last
pub record Faultless (ls : List (List ℕ)) : Type 0 where
  pub sound : (j : ℕ) → j < length ls → fault_at ls j ≡ None
  pub ends : due (frames_of ls) (length ls) ≡ End
