-- The rounds at which entries rise: the contract of `solve_rises`. Entries only rise, so these rounds say all tables of all rounds.
-- Assumes nothing.
use Rattle.std.specs.Prelude.{ℕ, suc, ◌*◌, ◌/◌, ◌%◌, Bool, true, false, cond, List, Option, Some, None, leb}
use Rattle.counting.specs.Counting.{first, up_to, tabulate}
use Rattle.frames.specs.Layout.{layout, answer_length}
use Rattle.frames.specs.Program.{Program}
use Rattle.meaning.specs.Lowest.{method_count, after, declarations, rounds, lowest}
use Rattle.meaning.specs.Constraints.{finding}
use Rattle.solver.specs.Flat.{program_in}
use Rattle.solver.specs.Room.{has_room}
use Rattle.solver.specs.declared.rises.Risen.{Risen}
use Rattle.solver.specs.Findings.{found}

-- in place of a round, where an entry never comes to a grade
abbrev pub never : ℕ
never = 65535

-- how many numbers there are: one for each entry of flat tables and each grade over const
abbrev pub rises_length : ℕ
rises_length = layout.most_grade * answer_length

-- an entry, given round by round: after how many rounds, of the first n, it is first grade g or over it
unfoldable pub rise_by : (entry : ℕ → ℕ) → (n g : ℕ) → ℕ
rise_by entry n g = cond (leb g (entry n)) (first n (λ i. leb g (entry i))) never

-- entry e of flat tables, round by round
abbrev pub entry_after : Program → (e n : ℕ) → ℕ
entry_after p e n = after p (declarations p) n (e / layout.grades) (e % layout.grades)

-- all rises of the first n rounds: of entry e to grade g at 4e + g - 1
unfoldable pub rises_after : Program → (n : ℕ) → List ℕ
rises_after p n =
    tabulate rises_length (λ i. rise_by (entry_after p (i / layout.most_grade)) n (suc (i % layout.most_grade)))

unfoldable pub rises : Program → List ℕ
rises p = rises_after p (rounds p)

-- what the program that checked tables stand for comes to
abbrev pub risen : List ℕ → Risen
risen t =
    record {
      broken = found (finding (program_in t) (lowest (program_in t)) (up_to (method_count (program_in t))));
      rounds = rounds (program_in t);
      rises = rises (program_in t);
    }

-- none where the engine has no room for them
abbrev pub risen_by : Bool → List ℕ → Option Risen
risen_by true t = Some (risen t)
risen_by false t = None

unfoldable pub risen_in : List ℕ → Option Risen
risen_in t = risen_by (has_room t) t
