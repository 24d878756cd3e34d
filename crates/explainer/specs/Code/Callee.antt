-- What the functions that look for a callee's set come to.
-- Assumes nothing.
use Rattle.std.specs.Prelude.{ℕ, ◌≤◌, ◌<◌, Bool, true, not, cond, List, ◌≡◌, Option, MatchOption, T, eqb, take}
use Rattle.counting.specs.Counting.{member}
use Rattle.grades.specs.HeldSets.{held, no_name}
use Rattle.meaning.specs.Meaning.{matching}
use Rattle.explainer.specs.declared.callee.Entry.{Entry}

-- whether the callee's set S has its lock i as the caller's name for it allows
unfoldable pub agrees : (H S i name : ℕ) → Bool
agrees H S i name = cond (eqb name no_name) true (cond (held H name) (held S i) (not (held S i)))

-- S is one of the callee's held sets that a call with these names can meet
abbrev pub Meets : (names : List ℕ) (k H S : ℕ) → Type 0
Meets names k H S = T (member S (matching (take k names) H))

-- of the sets below b that a call can meet, the lowest at which the table is largest, and its entry there
pub record BestAt (table : ℕ → ℕ) (names : List ℕ) (k H b : ℕ) (grade set : ℕ) : Type 0 where
  pub within : set < b
  pub found : Meets names k H set
  pub is : table set ≡ grade
  pub largest : (S : ℕ) → S < b → Meets names k H S → table S ≤ grade
  pub lowest : (S : ℕ) → S < set → Meets names k H S → table S < grade

-- no entry where it can meet none of them
abbrev pub Best : (table : ℕ → ℕ) (names : List ℕ) (k H b : ℕ) → Option Entry → Type 0
Best table names k H b r = MatchOption r ((S : ℕ) → S < b → Meets names k H S → ⊥) (λ e. BestAt table names k H b e.grade e.set)
