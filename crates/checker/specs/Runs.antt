-- What goes beyond the demands: the grades mean what they say of every run. For every text that the call accepts, with the bytes that it leaves in the
-- answer as the grades: every run of the program that the text reads as is disciplined, and it is serialised for the invocations that the answer's bytes
-- grade at most atomic at the held set that they were called with. `running` says what a run is.
-- Assumes nothing.
use Rattle.std.specs.Prelude.{ℕ, ◌+◌, ◌*◌, List, get_or}
use Rattle.frames.specs.Layout.{layout}
use Rattle.meaning.specs.Meaning.{Assignment}
use Rattle.running.specs.Runs.{RunsAsGraded}
use Rattle.checker.specs.Grading.{program_read, answer_of}
use Rattle.checker.specs.Demand3.{Passes}

-- the grades that the answer's bytes give: "entry number h of method m at 16m + h"
abbrev pub grades_in : (answer : List ℕ) → Assignment
grades_in answer m h = get_or answer (layout.grades * m + h) 0

-- of the call that was lent the answer `old`; `Passes` says that it accepts the text
abbrev pub RunsOfTheCall : (text old : List ℕ) → Type 0
RunsOfTheCall text old = Passes text old → RunsAsGraded (program_read text) (grades_in (answer_of text old))
