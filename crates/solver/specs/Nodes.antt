-- A node put together from its children and its own part, which are worked out alike: the contracts of `own_grade`, `combined` and `parts_of`.
-- Assumes nothing.
use Rattle.std.specs.Prelude.{ℕ, Bool, true, false, not, cond, List, Option, ◌≡◌, eqb, get_or, slice_get}
use Rattle.grades.specs.Grades.{const, atomic, error, compose, join, closure, assert_atomic, lock_taken}
use Rattle.grades.specs.HeldSets.{mask_names, held, add_within}
use Rattle.frames.specs.Program.{Node, Program, field_at, method_at}
use Rattle.frames.specs.Tables.{cell, node_of}
use Rattle.frames.specs.Ops.{op_named, number_of}
use Rattle.frames.specs.declared.ops.Op as ops
use Rattle.frames.specs.declared.ops.Op.TheVariants.{PlainValue, Read, Write, Sequence, Choice, Loop, Synchronised, Assertion, Call, Fork, NoOp}
use Rattle.meaning.specs.Meaning.{Assignment, Op, plain_value, read, write, sequence, choice, loop, synchronised, assertion, call, fork, no_op, op_of, children, first_name, field_access, callee_entry}
use Rattle.solver.specs.declared.node.Parts.{Parts}

-- the node in a frame
abbrev pub node_in : List ℕ → (j : ℕ) → Node
node_in t j = node_of (cell t j)

-- the op that a name means
abbrev pub meant : ops.Op → Op
meant PlainValue = plain_value
meant Read = read
meant Write = write
meant Sequence = sequence
meant Choice = choice
meant Loop = loop
meant Synchronised = synchronised
meant Assertion = assertion
meant Call = call
meant Fork = fork
meant (NoOp n) = no_op

-- a number that no child has
abbrev pub no_child : ℕ
no_child = 65536

-- child i of a node, if its op lists it
unfoldable pub child_at : Node → (i : ℕ) → ℕ
child_at node i = get_or (children node) i no_child

-- the same, and nothing where its op lists fewer
unfoldable pub listed_child : Node → (i : ℕ) → Option ℕ
listed_child node i = slice_get (children node) i

-- a node's own part; const where its op has none
abbrev pub own_grade : Program → Assignment → Op → Node → (H : ℕ) → ℕ
own_grade p a plain_value node H = const
own_grade p a read node H = field_access (field_at p node.U) false node.names H
own_grade p a write node H = field_access (field_at p node.U) true node.names H
own_grade p a sequence node H = const
own_grade p a choice node H = const
own_grade p a loop node H = const
own_grade p a synchronised node H = const
own_grade p a assertion node H = const
own_grade p a call node H = callee_entry (method_at p node.U).k (a node.U) node.names H
own_grade p a fork node H = atomic
own_grade p a no_op node H = const

-- a node's grade, of its children's and its own part's; an absent one is const, which composition leaves alone
abbrev pub combined : Op → (newly : Bool) → (x y z own : ℕ) → ℕ
combined plain_value newly x y z own = compose (compose x y) own
combined read newly x y z own = compose (compose x y) own
combined write newly x y z own = compose (compose x y) own
combined sequence newly x y z own = compose (compose x y) own
combined choice newly x y z own = compose x (join y z)
combined loop newly x y z own = compose x (closure (compose y x))
combined synchronised newly x y z own = cond newly (lock_taken x) x
combined assertion newly x y z own = assert_atomic x
combined call newly x y z own = compose (compose x y) own
combined fork newly x y z own = compose (compose x y) own
combined no_op newly x y z own = error

-- the set that a node's children are graded under, in a mask: a lock that the mask has no bit for is not added
unfoldable pub mask_set : (op name H : ℕ) → ℕ
mask_set op name H = cond (eqb op 6) (add_within mask_names H name) H

-- what a node is put together from
pub record PartsOf (p : Program) (a : Assignment) (node : Node) (H : ℕ) (r : Parts) : Type 0 where
  pub op : r.op ≡ op_named node.op
  pub number : number_of r.op ≡ node.op
  pub newly : r.newly ≡ not (held H (first_name node.names))
  pub under : r.under ≡ mask_set node.op (first_name node.names) H
  pub x : r.x ≡ listed_child node 0
  pub y : r.y ≡ listed_child node 1
  pub z : r.z ≡ listed_child node 2
  pub own : r.own ≡ own_grade p a (op_of node.op) node H
