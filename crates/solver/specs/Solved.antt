-- What checked tables come to: the contract of `solve`.
-- Assumes nothing.
use Rattle.std.specs.Prelude.{ℕ, Bool, true, false, List, Option, Some, None}
use Rattle.counting.specs.Counting.{up_to}
use Rattle.meaning.specs.Lowest.{method_count, rounds, lowest}
use Rattle.meaning.specs.Constraints.{finding}
use Rattle.solver.specs.Flat.{program_in, flat}
use Rattle.solver.specs.Room.{has_room}
use Rattle.solver.specs.declared.Solved.{Solved}
use Rattle.solver.specs.Findings.{found}

-- what the program that they stand for comes to
abbrev pub solution : List ℕ → Solved
solution t =
    record {
      broken = found (finding (program_in t) (lowest (program_in t)) (up_to (method_count (program_in t))));
      rounds = rounds (program_in t);
      grades = flat (lowest (program_in t));
    }

-- none where the engine has no room for them
abbrev pub solved_by : Bool → List ℕ → Option Solved
solved_by true t = Some (solution t)
solved_by false t = None

unfoldable pub solved : List ℕ → Option Solved
solved t = solved_by (has_room t) t
