-- The program that checked tables stand for, and flat tables of grades: "entry number h of method m at 16m + h; every other byte 0".
-- Assumes nothing.
use Rattle.std.specs.Prelude.{ℕ, ◌+◌, ◌*◌, ◌/◌, ◌%◌, cond, List, ltb, get_or, replicate}
use Rattle.counting.specs.Counting.{tabulate}
use Rattle.frames.specs.Layout.{layout, answer_length}
use Rattle.frames.specs.Program.{Program}
use Rattle.frames.specs.Tables.{cell, program_of}
use Rattle.meaning.specs.Meaning.{Assignment}

-- the program that checked tables stand for
abbrev pub program_in : List ℕ → Program
program_in t = program_of (cell t)

-- all 0
unfoldable pub blank : List ℕ
blank = replicate answer_length 0

unfoldable pub flat : Assignment → List ℕ
flat a = tabulate answer_length (λ i. a (i / layout.grades) (i % layout.grades))

-- flat tables read as an assignment: "entry number h of method m at 16m + h"
unfoldable pub tables_in : List ℕ → Assignment
tables_in g m H = cond (ltb H layout.grades) (get_or g (layout.grades * m + H) 0) 0
