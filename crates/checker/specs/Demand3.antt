-- Demand 3. Three laws over the grades of demand 2, of the bytes that the call leaves in the answer:
-- (a) if no declared table gets worse as more locks are held, no method's grade does;
-- (b) strike out any declarations of an accepted text's program: a text for that is accepted, and no grade is worse;
-- (c) write found grades into an accepted text's program as declarations: a text for that is accepted, and every grade is the same.
-- Assumes nothing.
use Rattle.std.specs.Prelude.{ℕ, ◌+◌, ◌*◌, ◌≤◌, ◌<◌, List, ◌≡◌, length, get_or}
use Rattle.frames.specs.Layout.{layout}
use Rattle.grades.specs.HeldSets.{Within}
use Rattle.meaning.specs.Lowest.{entry_count}
use Rattle.meaning.specs.Constraints.{accepted, answer, entry_of}
use Rattle.meaning.specs.Changes.{StruckOut, WrittenBack, DeclaredAntitone}
use Rattle.checker.specs.Grading.{program_read, accepted_with, verdict_of, answer_of}
use Rattle.checker.specs.Demand1.{Gradable}

-- the call accepts a sound text, with an answer of the right length lent
pub record Passes (text old : List ℕ) : Type 0 where
  pub sound : Gradable text (length old)
  pub methods : ℕ
  pub rounds : ℕ
  pub accepts : verdict_of text (length old) ≡ accepted_with methods rounds

-- (a)
abbrev pub FallingBytes : (text old : List ℕ) → Type 0
FallingBytes text old =
    DeclaredAntitone (program_read text) → (m H H' : ℕ) → m < layout.most_methods → H < layout.grades → H' < layout.grades → H < entry_count (program_read text) m → H' < entry_count (program_read text) m
    → Within H H' → get_or (answer_of text old) (layout.grades * m + H') 0 ≤ get_or (answer_of text old) (layout.grades * m + H) 0

-- (b)
pub record NoWorseBytes (text old text' old' : List ℕ) : Type 0 where
  pub passes : Passes text' old'
  pub no_worse : (i : ℕ) → get_or (answer_of text' old') i 0 ≤ get_or (answer_of text old) i 0

-- (c)
pub record SameBytes (text old text' old' : List ℕ) : Type 0 where
  pub passes : Passes text' old'
  pub same : answer_of text' old' ≡ answer_of text old

pub record Demand3 (text old : List ℕ) : Type 0 where
  pub held-sets : FallingBytes text old
  pub striking-out : (text' old' : List ℕ) → Gradable text' (length old') → StruckOut (program_read text) (program_read text') → NoWorseBytes text old text' old'
  pub writing-back : (text' old' : List ℕ) (tables : List (List ℕ)) (r : ℕ) → answer (program_read text) ≡ accepted r tables → Gradable text' (length old')
      → WrittenBack (program_read text) (entry_of tables) (program_read text') → SameBytes text old text' old'
