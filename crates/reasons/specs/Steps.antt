-- Why a grade is what it is: document 02's W-207, clause by clause. A reason is a chain of steps, each a node.
-- Assumes nothing.
use Rattle.std.specs.Prelude.{ℕ, zero, suc, pred, ◌+◌, ◌*◌, Bool, true, false, cond, ◌&&◌, List, [], ◌∷◌, ◌≡◌, eqb, length, take}
use Rattle.counting.specs.Counting.{first, total, member}
use Rattle.grades.specs.Grades.{atomic, cmpd}
use Rattle.frames.specs.Program.{Node, Program, method_at, node_at}
use Rattle.meaning.specs.Meaning.{Assignment, Op, plain_value, read, write, sequence, choice, loop, synchronised, assertion, call, fork, no_op, op_of, root_of, matching, Part, child, own, parts, part_grade, below, meaning}
use Rattle.meaning.specs.Lowest.{method_count, entry_count, after, is_declared, declared_table, declarations, rounds, lowest}

-- "Each step gives method, node, held set, round, grade and rule"
pub record Step : Type 0 where
  pub method : ℕ
  pub node : ℕ
  pub set : ℕ
  pub round : ℕ
  pub grade : ℕ
  pub rule : ℕ

-- "Each step is a node": a node of a method, under a held set, in a round
pub record Place : Type 0 where
  pub method : ℕ
  pub node : ℕ
  pub set : ℕ
  pub round : ℕ

-- ---- the grade of a step

-- the tables before a round; rounds count from 1
unfoldable pub tables_before : Program → (round : ℕ) → Assignment
tables_before p r = after p (declarations p) (pred r)

unfoldable pub node_here : Program → Place → Node
node_here p at = node_at (method_at p at.method) at.node

-- "the grade is the definition's, from the tables before that round"
unfoldable pub grade_at : Program → Place → ℕ
grade_at p at = meaning p (tables_before p at.round) (node_at (method_at p at.method)) at.node at.set

-- ---- the first step

-- the round at which an entry first got a grade: the first n with that grade after round n. "Rounds count from 1, also for a grade
-- of 0."
unfoldable pub first_round : Program → (m H grade : ℕ) → ℕ
first_round p m H grade = suc (first (rounds p) (λ n. eqb (after p (declarations p) (suc n) m H) grade))

-- a method's root under a held set, in the round at which that entry first got a grade
unfoldable pub root_place : Program → (m H grade : ℕ) → Place
root_place p m H grade = record { method = m; node = root_of (method_at p m); set = H; round = first_round p m H grade }

-- "The first step is the method's root, in the first round at which its entry is final."
unfoldable pub first_place : Program → (m H : ℕ) → Place
first_place p m H = root_place p m H (lowest p m H)

-- ---- the part that the next step is

-- "A node's parts are its children in the order X, Y, Z, then its own access, callee entry or fork's 2; a synchronised child counts
-- under the set with the lock added."
unfoldable pub parts_at : Program → Place → List Part
parts_at p at = parts p (tables_before p at.round) (node_here p at) at.set

unfoldable pub part_grade_at : Program → Place → Part → ℕ
part_grade_at p at =
    part_grade (below p (tables_before p at.round) (node_at (method_at p at.method)) at.node)

-- a part that accounts for the whole, and what is added to the rule; or none does
pub data Pick : Type 0 where
  picked : (part : Part) (added : ℕ) → Pick
  none : Pick

abbrev pub or_else : Pick → Pick → Pick
or_else (picked part added) other = picked part added
or_else none other = other

-- the first part of a grade
unfoldable pub first_part : (grade : Part → ℕ) → ℕ → List Part → Pick
first_part grade g [] = none
first_part grade g (x ∷ xs) =
    let later = first_part grade g xs in
    cond (eqb (grade x) g) (picked x 0) later

-- the last part of grade 2, with 8 to be added
unfoldable pub last_atomic : (grade : Part → ℕ) → List Part → Pick
last_atomic grade [] = none
last_atomic grade (x ∷ xs) = or_else (last_atomic grade xs) (cond (eqb (grade x) atomic) (picked x 8) none)

-- "The next step is the first part whose grade equals the step's own. Where the whole is 3 and no part is, it is the last part of
-- grade 2, and 8 is added to the rule."
unfoldable pub pick_of : (whole : ℕ) (grade : Part → ℕ) → List Part → Pick
pick_of whole grade parts = or_else (first_part grade whole parts) (cond (eqb whole cmpd) (last_atomic grade parts) none)

unfoldable pub pick_at : Program → Place → Pick
pick_at p at = pick_of (grade_at p at) (part_grade_at p at) (parts_at p at)

-- ---- where a call goes

-- "its entry, the lowest among the largest where there is FF": of the callee's held sets that match the caller's names, the lowest whose entry is the call's own
-- part, the largest
unfoldable pub callee_set : Program → Assignment → Node → (H grade : ℕ) → ℕ
callee_set p a node H grade =
    first
    (entry_count p node.U)
    (λ S. member S (matching (take (method_at p node.U).k node.names) H) && eqb (a node.U S) grade)

-- "A call's own part goes to the callee's root in the round at which its entry .. first got that grade."
unfoldable pub callee_place : Program → Place → (grade : ℕ) → Place
callee_place p at grade =
    root_place
    p
    (node_here p at).U
    (callee_set p (tables_before p at.round) (node_here p at) at.set grade)
    grade

-- ---- the rules

pub data Next : Type 0 where
  ends : Next
  goes_on : (to : Place) → Next

-- a step's rule, and the next step if there is one
pub record Turn : Type 0 where
  pub rule : ℕ
  pub next : Next

-- no part accounts for the whole: "it ends with rule 0 at a plain value, .. 5 a lock taken that turned 0 or 1 into 2, 6 an assert that turned 3 into 4"
abbrev pub end_rule : Op → ℕ
end_rule plain_value = 0
end_rule read = 0
end_rule write = 0
end_rule sequence = 0
end_rule choice = 0
end_rule loop = 0
end_rule synchronised = 5
end_rule assertion = 6
end_rule call = 0
end_rule fork = 0
end_rule no_op = 0

-- a call's own part: "2 to an undeclared callee", "7 a declared callee"
unfoldable pub call_turn : (declared : Bool) (to : Place) (added : ℕ) → Turn
call_turn true to added = record { rule = 7 + added; next = ends }
call_turn false to added = record { rule = 2 + added; next = goes_on to }

-- a node's own part: "3 an access, 4 a fork's own 2", or a call's
abbrev pub own_turn : Op → (declared : Bool) (to : Place) (added : ℕ) → Turn
own_turn plain_value declared to added = record { rule = 3 + added; next = ends }
own_turn read declared to added = record { rule = 3 + added; next = ends }
own_turn write declared to added = record { rule = 3 + added; next = ends }
own_turn sequence declared to added = record { rule = 3 + added; next = ends }
own_turn choice declared to added = record { rule = 3 + added; next = ends }
own_turn loop declared to added = record { rule = 3 + added; next = ends }
own_turn synchronised declared to added = record { rule = 3 + added; next = ends }
own_turn assertion declared to added = record { rule = 3 + added; next = ends }
own_turn call declared to added = call_turn declared to added
own_turn fork declared to added = record { rule = 4 + added; next = ends }
own_turn no_op declared to added = record { rule = 3 + added; next = ends }

-- the turn at a part. "Rule 1 goes on to a child", in the same round.
abbrev pub turn_by : Program → Place → Pick → Turn
turn_by p at none = record { rule = end_rule (op_of (node_here p at).op); next = ends }
turn_by p at (picked (child n S) added) =
    record {
      rule = 1 + added;
      next = goes_on (record { method = at.method; node = n; set = S; round = at.round });
    }
turn_by p at (picked (own g) added) =
    own_turn (op_of (node_here p at).op) (is_declared p (node_here p at).U) (callee_place p at g) added

unfoldable pub turn_at : Program → Place → Turn
turn_at p at = turn_by p at (pick_at p at)

unfoldable pub step_at : Program → Place → Step
step_at p at =
    record {
      method = at.method;
      node = at.node;
      set = at.set;
      round = at.round;
      grade = grade_at p at;
      rule = (turn_at p at).rule;
    }

-- ---- the chain

-- the chains that the rules permit from a place on: its step, and then, where the step goes on, a chain from there
pub data Chain (p : Program) : Place → List Step → Type 0 where
  last : (at : Place) → (turn_at p at).next ≡ ends → Chain p at (step_at p at ∷ [])
  on : (at to : Place) (steps : List Step) → (turn_at p at).next ≡ goes_on to → Chain p to steps → Chain p at (step_at p at ∷ steps)

abbrev pub later : (from : Place → List Step) → Next → List Step
later from ends = []
later from (goes_on to) = from to

-- the same, worked out: at most n steps
unfoldable pub steps_from : Program → (n : ℕ) → Place → List Step
steps_from p zero at = []
steps_from p (suc n) at = step_at p at ∷ later (steps_from p n) (turn_at p at).next

-- a method's entries times its nodes, of all undeclared methods
unfoldable pub open_nodes : Program → ℕ
open_nodes p = total (method_count p) (λ m. cond (is_declared p m) 0 (entry_count p m * length (method_at p m).nodes))

-- more steps than any chain from a place has: that it has ended by then is proved
unfoldable pub most_steps : Program → Place → ℕ
most_steps p at = suc at.node + 2 * open_nodes p

unfoldable pub chain_from : Program → Place → List Step
chain_from p at = steps_from p (most_steps p at) at

-- ---- the answer

-- "A declared method asked for gives one step: its root, round 0, its declared grade, rule 7."
unfoldable pub declared_step : Program → (m H : ℕ) → Step
declared_step p m H =
    record { method = m; node = root_of (method_at p m); set = H; round = 0; grade = declared_table p m H; rule = 7 }

-- the reason for method m's grade at H
unfoldable pub reason : Program → (m H : ℕ) → List Step
reason p m H = cond (is_declared p m) (declared_step p m H ∷ []) (chain_from p (first_place p m H))

-- the reason for the grade of a declared method's body, in the lowest tables: the tables before a round that would come after the last
unfoldable pub body_place : Program → (m H : ℕ) → Place
body_place p m H = record { method = m; node = root_of (method_at p m); set = H; round = suc (rounds p) }

unfoldable pub body_reason : Program → (m H : ℕ) → List Step
body_reason p m H = chain_from p (body_place p m H)
