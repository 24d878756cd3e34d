-- A root's grade in the lowest tables of a text's program: the contract of `lowest_root`.
-- Assumes nothing.
use Rattle.std.specs.Prelude.{ℕ, List, Option, None, Result, Ok, Err}
use Rattle.frames.specs.Program.{Program}
use Rattle.frames.specs.Reading.{read_text}
use Rattle.frames.specs.declared.Tables.{Tables}
use Rattle.frames.specs.declared.Refusal.{Refusal as TextRefusal}
use Rattle.solver.specs.Root.{lowest_root}
use Rattle.checker.specs.Grading.{program_read}

abbrev pub root_by_reading : Result Tables TextRefusal → Program → (m H : ℕ) → Option ℕ
root_by_reading (Ok tables) p m H = lowest_root p m H
root_by_reading (Err refusal) p m H = None

-- of a text: the grade of method m's root under H in the lowest tables of its program; none where the text does not read
unfoldable pub root_read : List ℕ → (m H : ℕ) → Option ℕ
root_read text m H = root_by_reading (read_text text) (program_read text) m H
