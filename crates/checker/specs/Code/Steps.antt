-- What the call's steps come to where a text was read.
-- Assumes nothing.
use Rattle.std.specs.Prelude.{ℕ, List}
use Rattle.meaning.specs.Lowest.{method_count}
use Rattle.meaning.specs.Constraints.{answer}
use Rattle.checker.specs.Grading.{Verdict, by_answer, bytes_by_answer}
use Rattle.solver.specs.Flat.{program_in}

-- over tables that were read
unfoldable pub solved_verdict : List ℕ → Verdict
solved_verdict t = by_answer (answer (program_in t)) (method_count (program_in t))

unfoldable pub solved_bytes : List ℕ → List ℕ → List ℕ
solved_bytes t old = bytes_by_answer (answer (program_in t)) old
