-- What makes a chain a reason: it is enough by itself. Whatever any tables give the methods that the chain does not enter, and the entries that it does
-- not enter, they cannot be lower than the grade at the entry asked for, if they meet the constraints of the entries that the chain enters and are nowhere
-- below the declared entry that it ends at. So the other methods cannot lower the grade, whatever they are: one of the chain's methods has to change, or the
-- declaration that it ends at.
-- Not every chain is enough. Where 8 is added, the chain goes on with one part of grade 2, and a second one, or in a loop the same one again, counts
-- too. Where it ends with rule 6, the assert's child has 3 for a reason that the chain does not show. What holds there is said too.
-- Proved in `Laws.Enough`.
-- Assumes nothing.
use Rattle.std.specs.Prelude.{ℕ, ◌≤◌, ◌<◌, not, List, [], ◌∷◌, ◌++◌, ◌⊎◌, ◌≡◌, T}
use Rattle.counting.specs.Counting.{All}
use Rattle.grades.specs.Grades.{atomic, cmpd}
use Rattle.frames.specs.Program.{Program, method_at, node_at}
use Rattle.meaning.specs.Meaning.{Assignment, root_of, meaning, root_table}
use Rattle.meaning.specs.Lowest.{is_declared, declared_table, lowest}
use Rattle.meaning.specs.Constraints.{Entry}
use Rattle.reasons.specs.Steps.{Step, reason, body_reason}
use Rattle.reasons.specs.Reason.{First, node_of, set_of}

-- ---- a step in other tables

-- the grade that some tables give a step's node, under its set
abbrev pub grade_in : Program → Assignment → Step → ℕ
grade_in p b s = meaning p b (node_at (method_at p s.method)) s.node s.set

-- and its first child
abbrev pub child_grade_in : Program → Assignment → Step → ℕ
child_grade_in p b s = meaning p b (node_at (method_at p s.method)) (node_of p s).X s.set

-- ---- what is asked of the tables

-- a step that ends at a declared callee, at an entry of grade g: the tables are not below that entry
abbrev pub AboveEntry : Program → Assignment → Step → (g : ℕ) → Type 0
AboveEntry p b s g = declared_table p (node_of p s).U (set_of p s g) ≤ b (node_of p s).U (set_of p s g)

abbrev pub AboveDeclared : Program → Assignment → Step → Type 0
AboveDeclared p b s = s.rule ≡ 7 → AboveEntry p b s s.grade

-- a step on a method's root enters the method under its set: there the tables meet the method's constraint
abbrev pub MeetsEntered : Program → Assignment → Step → Type 0
MeetsEntered p b s = s.node ≡ root_of (method_at p s.method) → root_table p b s.method s.set ≤ b s.method s.set

-- ---- what is asked of the chain

-- no 8 is added
abbrev pub NoEight : List Step → Type 0
NoEight = All (λ s. s.rule < 8)

-- "a chain that has no 8 and does not end with rule 6"
pub record Whole (steps : List Step) : Type 0 where
  pub no_eight : NoEight steps
  pub no_assert : All (λ s. s.rule ≡ 6 → ⊥) steps

-- ---- the statement, of an undeclared method's entry

pub record Enough (p : Program) (m H : ℕ) : Type 0 where
  -- a whole chain is enough by itself
  pub enough : Whole (reason p m H) → (b : Assignment) → All (AboveDeclared p b) (reason p m H) → All (MeetsEntered p b) (reason p m H) → lowest p m H ≤ b m H
  -- the reason of 0, 1 or 2 is always whole
  pub low : lowest p m H ≤ atomic → Whole (reason p m H)
  -- up to the first 8, or up to an assert: tables that give a step's node at least its grade give the entry asked for at least the grade
  pub carried : (before behind : List Step) (s : Step) → reason p m H ≡ before ++ (s ∷ behind) → NoEight before
      → (b : Assignment) → All (MeetsEntered p b) (before ++ (s ∷ [])) → s.grade ≤ grade_in p b s → lowest p m H ≤ b m H
  -- behind an 8: the next step has grade 2, and the steps from there on are enough for that
  pub behind : (before behind : List Step) (s : Step) → reason p m H ≡ before ++ (s ∷ behind) → (s.rule ≡ 9) ⊎ (s.rule ≡ 10)
      → Whole behind
      × ((b : Assignment) → All (AboveDeclared p b) behind → All (MeetsEntered p b) behind → First (λ t. (t.grade ≡ atomic) × (atomic ≤ grade_in p b t)) behind)
  -- a chain that ends with an 8 ends at one of two parts of 2, the node's own: its access, its fork, or a declared entry
  pub own : (before : List Step) (s : Step) → reason p m H ≡ before ++ (s ∷ []) → 8 ≤ s.rule
      → (b : Assignment) → (s.rule ≡ 15 → AboveEntry p b s atomic) → (s.grade ≡ cmpd) × (atomic ≤ grade_in p b s)
  -- at an assert: tables that give its child 3 at least give the entry asked for at least the grade
  pub asserts : (before behind : List Step) (s : Step) → reason p m H ≡ before ++ (s ∷ behind) → s.rule ≡ 6
      → (b : Assignment) → All (MeetsEntered p b) (reason p m H) → cmpd ≤ child_grade_in p b s → lowest p m H ≤ b m H

-- ---- of a declared method's body

abbrev pub behind_first : List Step → List Step
behind_first [] = []
behind_first (s ∷ steps) = steps

pub record EnoughBody (p : Program) (m H : ℕ) : Type 0 where
  pub enough : Whole (body_reason p m H) → (b : Assignment) → All (AboveDeclared p b) (body_reason p m H)
      → All (MeetsEntered p b) (behind_first (body_reason p m H)) → root_table p (lowest p) m H ≤ root_table p b m H

-- ---- all together

pub record AllEnough (p : Program) : Type 0 where
  pub undeclared : (m H : ℕ) → Entry p m H → T (not (is_declared p m)) → Enough p m H
  pub bodies : (m H : ℕ) → Entry p m H → EnoughBody p m H
