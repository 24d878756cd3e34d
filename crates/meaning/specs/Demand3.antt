-- Demand 3. Three laws of the grades of demand 2, for every program:
-- (a) where the declared tables get no larger as more is held, no table does;
-- (b) an accepted program with declarations struck out, any ones, is accepted, and no grade is higher;
-- (c) an accepted program with found tables written in as declarations is accepted, with the same tables.
-- Assumes nothing.
use Rattle.std.specs.Prelude.{ℕ, List, ◌≡◌}
use Rattle.frames.specs.Program.{Program}
use Rattle.meaning.specs.Meaning.{Assignment}
use Rattle.meaning.specs.Lowest.{NoWorse}
use Rattle.meaning.specs.Constraints.{accepted, entry_of, answer, IsLowest}
use Rattle.meaning.specs.Changes.{StruckOut, WrittenBack, AntitoneAt, DeclaredAntitone}

-- (a), of an accepted program's tables, and of a refused one's lowest tables as well
pub record FallingGrades (p : Program) : Type 0 where
  pub accepted : (r : ℕ) (tables : List (List ℕ)) → answer p ≡ accepted r tables → (m : ℕ) → AntitoneAt p (entry_of tables) m
  pub lowest : (a : Assignment) → IsLowest p a → (m : ℕ) → AntitoneAt p a m

-- (b) of q, which is p with declarations struck out: it is accepted, and its grades are nowhere higher
pub record StrikingOut (q : Program) (tables : List (List ℕ)) : Type 0 where
  pub rounds : ℕ
  pub found : List (List ℕ)
  pub says : answer q ≡ accepted rounds found
  pub no_higher : NoWorse (entry_of found) (entry_of tables)

-- (c) of q, which is p with found tables written in: it is accepted, with the same tables
pub record WritingBack (q : Program) (tables : List (List ℕ)) : Type 0 where
  pub rounds : ℕ
  pub says : answer q ≡ accepted rounds tables

pub record Demand3 (p : Program) : Type 0 where
  pub held-sets : DeclaredAntitone p → FallingGrades p
  pub striking-out : (r : ℕ) (tables : List (List ℕ)) → answer p ≡ accepted r tables
      → (q : Program) → StruckOut p q → StrikingOut q tables
  pub writing-back : (r : ℕ) (tables : List (List ℕ)) → answer p ≡ accepted r tables
      → (q : Program) → WrittenBack p (entry_of tables) q → WritingBack q tables
