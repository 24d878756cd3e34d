-- Places as the code has them, what a step looks at there, and where it goes on.
-- Assumes nothing.
use Rattle.std.specs.Prelude.{ℕ, zero, suc, ◌≤◌, ◌<◌, not, List, ◌≡◌, Option, Some, None, MatchOption, IfSome, T, length, get_or}
use Rattle.frames.specs.Ops.{op_named}
use Rattle.frames.specs.Program.{Node, Program, method_at}
use Rattle.meaning.specs.Meaning.{Op, plain_value, read, write, sequence, choice, loop, synchronised, assertion, call, fork, no_op, op_of, root_of, callee_entry, child, own}
use Rattle.meaning.specs.Lowest.{entry_count, after, declarations, is_declared, rounds}
use Rattle.meaning.specs.Constraints.{Entry}
use Rattle.reasons.specs.Steps as steps
use Rattle.reasons.specs.Steps.{Next, ends, goes_on, grade_at, parts_at, part_grade_at, node_here, tables_before, callee_set}
use Rattle.reasons.proofs.Laws.Turns.{PlaceFits}
use Rattle.solver.specs.Flat.{program_in}
use Rattle.solver.specs.Code.Rounds.{At}
use Rattle.explainer.specs.declared.places.Place.{Place}
use Rattle.explainer.specs.declared.places.Onward.{Onward}
use Rattle.explainer.specs.declared.seen.Seen.{Seen}
use Rattle.explainer.specs.Code.Lower.{Lower}
use Rattle.explainer.specs.Code.Callee.{BestAt}
use Rattle.explainer.specs.Code.Picks.{part_at}

-- ---- places

-- a place without the frame of its method's first node
abbrev pub place_of : Place → steps.Place
place_of at = record { method = at.method; node = at.node; set = at.set; round = at.round }

-- a place that the program has
pub record PlaceIn (t : List ℕ) (at : Place) : Type 0 where
  pub fits : PlaceFits (program_in t) (place_of at)
  pub first : At t at.method at.first

-- a method's root under a held set, in a round
pub record AtRoot (t : List ℕ) (m S round : ℕ) (at : Place) : Type 0 where
  pub place : place_of at ≡ record { method = m; node = root_of (method_at (program_in t) m); set = S; round = round }
  pub first : At t at.method at.first

-- a grade that an undeclared entry has after some round; const only if it stays so
pub record HasBeen (p : Program) (m S grade : ℕ) : Type 0 where
  pub entry : Entry p m S
  pub undeclared : T (not (is_declared p m))
  pub round : ℕ
  pub within : round ≤ rounds p
  pub has : after p (declarations p) round m S ≡ grade
  pub stays : grade ≡ 0 → round ≡ rounds p

-- ---- what a step looks at

-- the grades of all nodes of a place's method, before its round
abbrev pub NodeLower : List ℕ → Place → List ℕ → Type 0
NodeLower t at lower =
    Lower t (tables_before (program_in t) at.round) at.method (length (method_at (program_in t) at.method).nodes) lower

-- how many parts of its own an op has
abbrev pub own_count : Op → ℕ
own_count plain_value = 0
own_count read = 1
own_count write = 1
own_count sequence = 0
own_count choice = 0
own_count loop = 0
own_count synchronised = 0
own_count assertion = 0
own_count call = 1
own_count fork = 1
own_count no_op = 0

-- a call's own part is the best of the callee's entries; any other is given
pub record OwnEntry (p : Program) (node : Node) (at : Place) (given grade set : ℕ) : Type 0 where
  pub called : node.op ≡ 8
      → BestAt (tables_before p at.round node.U) node.names (method_at p node.U).k at.set (entry_count p node.U) grade set
  pub other : (node.op ≡ 8 → ⊥) → grade ≡ given

-- child i of a node, if it lists so many
abbrev pub child_number : Seen → (i : ℕ) → Option ℕ
child_number r zero = r.x
child_number r (suc zero) = r.y
child_number r (suc (suc zero)) = r.z
child_number r (suc (suc (suc i))) = None

pub record SeenAt (t : List ℕ) (at : Place) (r : Seen) : Type 0 where
  pub op : r.op ≡ op_named (node_here (program_in t) (place_of at)).op
  pub whole : r.whole ≡ grade_at (program_in t) (place_of at)
  pub count : r.count ≡ length (parts_at (program_in t) (place_of at))
  pub size : length r.grades ≡ 4
  pub few : r.count ≤ 4
  pub graded : (i : ℕ) → i < r.count → get_or r.grades i 0 ≡ part_grade_at (program_in t) (place_of at) (part_at (parts_at (program_in t) (place_of at)) i)
  pub parts : (i : ℕ) → i < r.count
      → MatchOption (child_number r i) (part_at (parts_at (program_in t) (place_of at)) i ≡ own r.own)
      (λ c. part_at (parts_at (program_in t) (place_of at)) i ≡ child c r.under)
  pub entry : op_of (node_here (program_in t) (place_of at)).op ≡ call
      → r.own ≡ callee_entry (method_at (program_in t) (node_here (program_in t) (place_of at)).U).k (tables_before (program_in t) at.round (node_here (program_in t) (place_of at)).U) (node_here (program_in t) (place_of at)).names at.set
  pub called : op_of (node_here (program_in t) (place_of at)).op ≡ call
      → r.set ≡ callee_set (program_in t) (tables_before (program_in t) at.round) (node_here (program_in t) (place_of at)) at.set r.own

-- ---- where it goes on

abbrev pub next_by : (to : Option Place) → Next
next_by (Some to) = goes_on (place_of to)
next_by None = ends

-- a turn, with the frame of the next place's method
pub record TurnOf (t : List ℕ) (turn : steps.Turn) (r : Onward) : Type 0 where
  pub rule : r.rule ≡ turn.rule
  pub next : next_by r.to ≡ turn.next
  pub to : IfSome r.to (λ to. At t to.method to.first)
