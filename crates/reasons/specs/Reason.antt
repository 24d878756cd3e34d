-- What is known of a reason: that its chain is permitted, and the only one; what its first step is, how each step is linked to the next, how it ends;
-- and how long it is at most. Proved in `Laws.Reason`, of every program that a text gives, accepted or not.
-- Assumes nothing.
use Rattle.std.specs.Prelude.{ℕ, suc, ◌+◌, ◌-◌, ◌*◌, ◌≤◌, ◌<◌, Bool, not, cond, List, [], ◌∷◌, ◌≡◌, T, length}
use Rattle.counting.specs.Counting.{member, All}
use Rattle.grades.specs.Grades.{const, atomic, cmpd, error}
use Rattle.grades.specs.HeldSets.{held, add}
use Rattle.frames.specs.Layout.{layout}
use Rattle.frames.specs.Program.{Node, Program, field_at, method_at, node_at}
use Rattle.meaning.specs.Meaning.{plain_value, read, write, synchronised, assertion, call, fork, op_of, root_of, first_name, field_access, meaning, root_table}
use Rattle.meaning.specs.Lowest.{after, is_declared, declared_table, declarations, rounds, lowest}
use Rattle.meaning.specs.Constraints.{Entry}
use Rattle.reasons.specs.Steps.{Step, Place, tables_before, first_place, callee_set, Chain, open_nodes, most_steps, declared_step, reason, body_place, body_reason}

-- ---- steps

-- a step stands on a node of the program, under one of its method's held sets; rounds count from 1
pub record StepFits (p : Program) (s : Step) : Type 0 where
  pub entry : Entry p s.method s.set
  pub node : s.node < length (method_at p s.method).nodes
  pub round : 1 ≤ s.round
  pub no_later : s.round ≤ suc (rounds p)

-- "the grade is the definition's, from the tables before that round"
abbrev pub GradeIs : Program → Step → Type 0
GradeIs p s = s.grade ≡ meaning p (tables_before p s.round) (node_at (method_at p s.method)) s.node s.set

-- within one visit to a method the round stays, and node numbers fall
pub record SameVisit (s t : Step) : Type 0 where
  pub method : t.method ≡ s.method
  pub round : t.round ≡ s.round
  pub node : t.node < s.node

-- a step and the next one: a child or a callee, of the same grade; or 3 over 2, with 8 added. At a call the round falls.
pub data Linked (s t : Step) : Type 0 where
  child : s.rule ≡ 1 → t.grade ≡ s.grade → SameVisit s t → Linked s t
  callee : s.rule ≡ 2 → t.grade ≡ s.grade → t.round < s.round → Linked s t
  child_of_two : s.rule ≡ 9 → s.grade ≡ cmpd → t.grade ≡ atomic → SameVisit s t → Linked s t
  callee_of_two : s.rule ≡ 10 → s.grade ≡ cmpd → t.grade ≡ atomic → t.round < s.round → Linked s t

abbrev pub AllLinked : List Step → Type 0
AllLinked [] = Unit {0}
AllLinked (s ∷ []) = Unit {0}
AllLinked (s ∷ t ∷ steps) = Linked s t × AllLinked (t ∷ steps)

-- what holds of the first step, and of the last
abbrev pub First : (Step → Type 0) → List Step → Type 0
First P [] = ⊥
First P (s ∷ steps) = P s

abbrev pub Last : (Step → Type 0) → List Step → Type 0
Last P [] = ⊥
Last P (s ∷ []) = P s
Last P (s ∷ t ∷ steps) = Last P (t ∷ steps)

-- how a part accounts for the whole, and what is added to the rule: they are equal, or the whole is 3 and the part 2
pub data Accounts (whole part : ℕ) : (added : ℕ) → Type 0 where
  equal : part ≡ whole → Accounts whole part 0
  twice : whole ≡ cmpd → part ≡ atomic → Accounts whole part 8

-- a step's node, and the grade of the node's X under a set, from the tables before the step's round
abbrev pub node_of : Program → Step → Node
node_of p s = node_at (method_at p s.method) s.node

abbrev pub child_grade : Program → Step → (S : ℕ) → ℕ
child_grade p s S = meaning p (tables_before p s.round) (node_at (method_at p s.method)) (node_of p s).X S

-- where a call's own part of grade g goes: the callee's set
abbrev pub set_of : Program → Step → (g : ℕ) → ℕ
set_of p s g = callee_set p (tables_before p s.round) (node_of p s) s.set g

-- the last step. "It ends with rule 0 at a plain value, 3 an access, 4 a fork's own 2, 5 a lock taken that turned 0 or 1 into 2, 6 an assert that turned
-- 3 into 4, 7 a declared callee", and 3, 4 and 7 with 8 added.
pub data EndIs (p : Program) (s : Step) : Type 0 where
  at_plain : op_of (node_of p s).op ≡ plain_value → s.rule ≡ 0 → s.grade ≡ const → EndIs p s
  at_access : (writing : Bool) (added : ℕ) → op_of (node_of p s).op ≡ cond writing write read → s.rule ≡ 3 + added
      → Accounts s.grade (field_access (field_at p (node_of p s).U) writing (node_of p s).names s.set) added → EndIs p s
  at_fork : (added : ℕ) → op_of (node_of p s).op ≡ fork → s.rule ≡ 4 + added → Accounts s.grade atomic added → EndIs p s
  at_lock : op_of (node_of p s).op ≡ synchronised → s.rule ≡ 5 → T (not (held s.set (first_name (node_of p s).names)))
      → child_grade p s (add s.set (first_name (node_of p s).names)) < atomic → s.grade ≡ atomic → EndIs p s
  at_assert : op_of (node_of p s).op ≡ assertion → s.rule ≡ 6 → child_grade p s s.set ≡ cmpd → s.grade ≡ error → EndIs p s
  at_declared : (g added : ℕ) → op_of (node_of p s).op ≡ call → T (is_declared p (node_of p s).U) → s.rule ≡ 7 + added
      → declared_table p (node_of p s).U (set_of p s g) ≡ g → Accounts s.grade g added → EndIs p s

-- the rules of those
unfoldable pub ends_chain : ℕ → Bool
ends_chain rule = member rule (0 ∷ 3 ∷ 4 ∷ 5 ∷ 6 ∷ 7 ∷ 11 ∷ 12 ∷ 15 ∷ [])

-- with 1 and 2, which go on, and both with 8 added, a rule is one of thirteen: 8, 13 and 14 do not occur
unfoldable pub occurs : ℕ → Bool
occurs rule = member rule (0 ∷ 1 ∷ 2 ∷ 3 ∷ 4 ∷ 5 ∷ 6 ∷ 7 ∷ 9 ∷ 10 ∷ 11 ∷ 12 ∷ 15 ∷ [])

-- ---- a chain

-- what is known of the steps from a place on
pub record ChainIs (p : Program) (at : Place) (steps : List Step) : Type 0 where
  pub permitted : Chain p at steps
  pub only : (others : List Step) → Chain p at others → others ≡ steps
  pub fit : All (StepFits p) steps
  pub grades : All (GradeIs p) steps
  pub linked : AllLinked steps
  pub rules : All (λ s. T (occurs s.rule)) steps
  pub last_rule : Last (λ s. T (ends_chain s.rule)) steps
  pub last : Last (EndIs p) steps

-- ---- the reason of an undeclared method's grade

-- "The first step is the method's root, in the first round at which its entry is final."
pub record FirstStep (p : Program) (m H : ℕ) (s : Step) : Type 0 where
  pub method : s.method ≡ m
  pub node : s.node ≡ root_of (method_at p m)
  pub set : s.set ≡ H
  pub grade : s.grade ≡ lowest p m H
  pub from : 1 ≤ s.round
  pub final : after p (declarations p) s.round m H ≡ lowest p m H
  pub earliest : (n : ℕ) → 1 ≤ n → after p (declarations p) n m H ≡ lowest p m H → s.round ≤ n

pub record ReasonIs (p : Program) (m H : ℕ) : Type 0 where
  pub chain : ChainIs p (first_place p m H) (reason p m H)
  pub first : First (FirstStep p m H) (reason p m H)
  -- no step is on a declared method: the chain ends at its caller
  pub undeclared : All (λ s. T (not (is_declared p s.method))) (reason p m H)
  -- each undeclared entry is entered at most twice
  pub within : length (reason p m H) ≤ 2 * open_nodes p
  -- 32,738 steps
  pub most : length (reason p m H) ≤ 2 * (layout.grades * (layout.most_nodes - 1) + 1)

-- ---- a declared method

-- "A declared method asked for gives one step: its root, round 0, its declared grade, rule 7."
pub record DeclaredIs (p : Program) (m H : ℕ) : Type 0 where
  pub one : reason p m H ≡ declared_step p m H ∷ []
  pub grade : declared_table p m H ≡ lowest p m H

-- the first step of the reason of a body's grade, in the lowest tables
pub record BodyStep (p : Program) (m H : ℕ) (s : Step) : Type 0 where
  pub method : s.method ≡ m
  pub node : s.node ≡ root_of (method_at p m)
  pub set : s.set ≡ H
  pub grade : s.grade ≡ root_table p (lowest p) m H

pub record BodyIs (p : Program) (m H : ℕ) : Type 0 where
  pub chain : ChainIs p (body_place p m H) (body_reason p m H)
  pub first : First (BodyStep p m H) (body_reason p m H)
  pub within : length (body_reason p m H) ≤ most_steps p (body_place p m H)

-- ---- all together

pub record Reasons (p : Program) : Type 0 where
  pub undeclared : (m H : ℕ) → Entry p m H → T (not (is_declared p m)) → ReasonIs p m H
  pub declared : (m H : ℕ) → Entry p m H → T (is_declared p m) → DeclaredIs p m H
  pub bodies : (m H : ℕ) → Entry p m H → BodyIs p m H
