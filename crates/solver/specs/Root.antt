-- A root's grade in the lowest tables: the contract of `lowest_root`.
-- Assumes nothing.
use Rattle.std.specs.Prelude.{ℕ, cond, List, Option, Some, None}
use Rattle.frames.specs.Program.{Program}
use Rattle.meaning.specs.Meaning.{root_table}
use Rattle.meaning.specs.Lowest.{is_entry, lowest}
use Rattle.solver.specs.Room.{has_room}
use Rattle.solver.specs.Flat.{program_in}

-- of a program: the grade of method m's root under H in the lowest tables, if H is one of the held sets of m
unfoldable pub lowest_root : Program → (m H : ℕ) → Option ℕ
lowest_root p m H = cond (is_entry p m H) (Some (root_table p (lowest p) m H)) None

-- of checked tables
unfoldable pub root_in : List ℕ → (m H : ℕ) → Option ℕ
root_in t m H = cond (has_room t) (lowest_root (program_in t) m H) None
