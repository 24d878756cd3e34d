-- What the solver hands over is the answer of `meaning`.
-- Assumes nothing.
use Rattle.std.specs.Prelude.{ℕ, Bool, true, List, ◌≡◌, refl, Some, None, Err}
use Rattle.std.proofs.Math.Path.{sym, ap, ap₂, fun_ext}
use Rattle.std.proofs.Common.{◌∙◌, arith}
use Rattle.frames.specs.Frames.{methods_in}
use Rattle.frames.specs.Tables.{cell}
use Rattle.counting.specs.Counting.{up_to}
use Rattle.meaning.specs.Lowest.{method_count, rounds, lowest}
use Rattle.meaning.specs.Constraints.{Finding, Answer, none_broken, broken, finding, accepted, refused, tables_of, answer_by, answer}
use Rattle.meaning.proofs.Laws.Answers.{entry-lowest}
use Rattle.solver.specs.Laws.Views.{method-count}
use Rattle.solver.specs.Flat.{program_in, flat}
use Rattle.solver.specs.Room.{has_room}
use Rattle.solver.specs.Solved.{solution, solved_by, solved}
use Rattle.solver.specs.declared.Solved.{Solved}
use Rattle.solver.specs.declared.constraints.Broken.{Broken}
use Rattle.checker.specs.Grading.{accepted_with, by_answer, bytes_by_answer}
use Rattle.checker.specs.Code.Steps.{solved_verdict, solved_bytes}
use Rattle.checker.specs.declared.Refusal.{Refusal}
use Rattle.solver.specs.Findings.{found}

module _ (t : List ℕ) (room : has_room t ≡ true) where
  abbrev found-by : Finding
  found-by = finding (program_in t) (lowest (program_in t)) (up_to (method_count (program_in t)))

  -- what has room is solved
  pub is-solved : solved t ≡ Some (solution t)
  unfolding solved
  is-solved = ap (λ (b : Bool). solved_by b t) room

  none_found : (v : Finding) → found v ≡ None → v ≡ none_broken
  none_found none_broken e = refl
  none_found (broken c H) e = let z : ◌≡◌ {A = ℕ} 0 1 = cc in absurd (omega arith)

  refused-by : (v : Finding) (b : Broken) → found v ≡ Some b → answer_by (program_in t) v ≡ refused b.method b.kind b.node b.set
  refused-by none_broken b e = let z : ◌≡◌ {A = ℕ} 0 1 = cc in absurd (omega arith)
  refused-by (broken c H) b e = cc

  module _ (r : Solved) (is : Some r ≡ solved t) where
    whole : r ≡ solution t
    whole = let e : Some r ≡ Some (solution t) = is ∙ is-solved in cc

    its-finding : r.broken ≡ found found-by
    its-finding = ap (λ (s : Solved). s.broken) whole

    accepted-by : r.broken ≡ None → answer (program_in t) ≡ accepted (rounds (program_in t)) (tables_of (program_in t) (lowest (program_in t)))
    unfolding answer
    accepted-by e = ap (answer_by (program_in t)) (none_found found-by (sym its-finding ∙ e))

    pub accepted-verdict : r.broken ≡ None → (methods : ℕ) → methods ≡ methods_in (cell t) → accepted_with methods r.rounds ≡ solved_verdict t
    unfolding solved_verdict
    accepted-verdict e methods h =
        ap₂ accepted_with (h ∙ sym (method-count t)) (ap (λ (s : Solved). s.rounds) whole)
        ∙ ap (λ (x : Answer). by_answer x (method_count (program_in t))) (sym (accepted-by e))

    pub accepted-bytes : r.broken ≡ None → (old : List ℕ) → r.grades ≡ solved_bytes t old
    unfolding solved_bytes
    accepted-bytes e old =
        ap (λ (s : Solved). s.grades) whole
        ∙ ap flat (sym (fun_ext (λ m. fun_ext (entry-lowest (program_in t) m))))
        ∙ ap (λ (x : Answer). bytes_by_answer x old) (sym (accepted-by e))

    broken-answer : (b : Broken) → r.broken ≡ Some b → answer (program_in t) ≡ refused b.method b.kind b.node b.set
    unfolding answer
    broken-answer b e = refused-by found-by b (sym its-finding ∙ e)

    pub broken-verdict : (b : Broken) → r.broken ≡ Some b → Err (Refusal.Broken b) ≡ solved_verdict t
    unfolding solved_verdict
    broken-verdict b e = ap (λ (x : Answer). by_answer x (method_count (program_in t))) (sym (broken-answer b e))

    pub broken-bytes : (b : Broken) → r.broken ≡ Some b → (old : List ℕ) → old ≡ solved_bytes t old
    unfolding solved_bytes
    broken-bytes b e old = ap (λ (x : Answer). bytes_by_answer x old) (sym (broken-answer b e))
