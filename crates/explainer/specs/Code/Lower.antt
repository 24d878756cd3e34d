-- What is known of the tables that a chain is walked over, and what the grades of a method's nodes come to.
-- Assumes nothing.
use Rattle.std.specs.Prelude.{ℕ, ◌+◌, ◌*◌, ◌<◌, cond, List, ◌≡◌, ltb, length, get_or}
use Rattle.frames.specs.Layout.{layout}
use Rattle.frames.specs.Program.{method_at, node_at}
use Rattle.frames.specs.WellFormed.{WellFormed}
use Rattle.meaning.specs.Meaning.{Assignment, meaning}
use Rattle.meaning.specs.Lowest.{entry_count}
use Rattle.solver.specs.Flat.{program_in}
use Rattle.solver.specs.Rises.{rises}
use Rattle.solver.specs.Code.Rounds.{Fits}

-- checked tables that a text gave
pub record Read (t : List ℕ) : Type 0 where
  pub well_formed : WellFormed (program_in t)
  pub fits : Fits t

-- and the rounds of the rises of the program that they stand for
pub record Ready (t noted : List ℕ) : Type 0 where
  pub read : Read t
  pub rises : noted ≡ rises (program_in t)

-- room for every node of a method at every held set
abbrev pub lower_length : ℕ
lower_length = layout.grades * layout.most_nodes

-- the grades of method m's nodes below n, under each of its held sets
pub record Lower (t : List ℕ) (a : Assignment) (m n : ℕ) (lower : List ℕ) : Type 0 where
  pub size : length lower ≡ lower_length
  pub node : (c S : ℕ) → c < n → S < entry_count (program_in t) m
      → get_or lower (layout.grades * c + S) 0 ≡ meaning (program_in t) a (node_at (method_at (program_in t) m)) c S

-- the grade of a child among them; 0 of one that the op does not list
unfoldable pub child_grade : List ℕ → (c S : ℕ) → ℕ
child_grade lower c S = cond (ltb c layout.most_nodes) (get_or lower (layout.grades * c + S) 0) 0
