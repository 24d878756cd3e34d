-- What threads do: 01's table of ops, read as steps. A node becomes code, and code does words of events: every way to run it, and every way to be cut
-- off inside. Nothing here knows a grade.
-- Assumes nothing.
use Rattle.std.specs.Prelude.{ℕ, zero, suc, ◌<◌, Bool, true, false, not, cond, List, [], ◌∷◌, ◌++◌, map, ◌≡◌, eqb, get_or}
use Rattle.grades.specs.HeldSets.{no_name}
use Rattle.frames.specs.Program.{Node, Program, field_at, method_at, node_at}
use Rattle.frames.specs.Links.{guard_uses}
use Rattle.meaning.specs.Meaning.{root_of, Op, plain_value, read, write, sequence, choice, loop, synchronised, assertion, call, fork, no_op, op_of, first_name}
use Rattle.running.specs.Machine.{World, changed, Action, acquire, release, access, begin, Event, Word}

-- ---- code

pub data Code : Type 0 where
  nothing : Code
  accessing : (writing : Bool) (field name : ℕ) → Code
  in_order : (first second : Code) → Code
  either : (one other : Code) → Code
  again : Code → Code
  locking : (name : ℕ) → Code → Code
  whole : Code → Code
  calling : (method : ℕ) (names : List ℕ) → Code
  forking : (method : ℕ) → Code

-- a node's code, of the code of all lower nodes: a line for each op. An op over 9 is graded error, so what it does is of no account.
abbrev pub code_by : Op → Node → (lower : ℕ → Code) → Code
code_by plain_value node lower = nothing
code_by read node lower = in_order (lower node.X) (accessing false node.U (first_name node.names))
code_by write node lower = in_order (in_order (lower node.X) (lower node.Y)) (accessing true node.U (first_name node.names))
code_by sequence node lower = in_order (lower node.X) (lower node.Y)
code_by choice node lower = in_order (lower node.X) (either (lower node.Y) (lower node.Z))
code_by loop node lower = in_order (lower node.X) (again (in_order (lower node.Y) (lower node.X)))
code_by synchronised node lower = locking (first_name node.names) (lower node.X)
code_by assertion node lower = whole (lower node.X)
code_by call node lower = in_order (lower node.X) (calling node.U node.names)
code_by fork node lower = in_order (lower node.X) (forking node.U)
code_by no_op node lower = nothing

-- the code of the nodes below n; a node that is not below counts as a plain value, as in the meaning
unfoldable pub code_below : (nodes : ℕ → Node) → (n node : ℕ) → Code
code_below nodes zero m = nothing
code_below nodes (suc n) m =
    let here = code_by (op_of (nodes n).op) (nodes n) (code_below nodes n) in
    let lower = code_below nodes n m in
    cond (eqb m n) here lower

unfoldable pub code_at : (nodes : ℕ → Node) → (n : ℕ) → Code
code_at nodes n = code_by (op_of (nodes n).op) (nodes n) (code_below nodes n)

-- a method's body: its root's code
unfoldable pub body_of : Program → (m : ℕ) → Code
body_of p m = code_at (node_at (method_at p m)) (root_of (method_at p m))

-- ---- events

-- what the names of a method stand for, throughout an invocation of it
abbrev pub Names : Type 0
Names = ℕ → ℕ

-- the locks that a thread has
abbrev pub Locks : Type 0
Locks = ℕ → Bool

abbrev pub alone : Action → Event
alone a = record { action = a; joined = false }

abbrev pub joined_on : Event → Event
joined_on e = record { action = e.action; joined = true }

-- looked at as a whole: all events after the first are joined
abbrev pub as_whole : Word → Word
as_whole [] = []
as_whole (e ∷ word) = e ∷ map joined_on word

-- which invocations are looked at as a whole: of a method, what its names stand for, and the locks that the thread has when it is called
abbrev pub View : Type 0
View = (method : ℕ) → Names → Locks → Bool

abbrev pub looked : View → (method : ℕ) → Names → Locks → Word → Word
looked view m names locks word = cond (view m names locks) (as_whole word) word

-- ---- what code does

-- the callee's name j stands for the lock of the caller's Tj, and for any lock where Tj is FF
abbrev pub Passed : (k : ℕ) → List ℕ → (caller callee : Names) → Type 0
Passed k Ts caller callee = (j : ℕ) → j < k → (get_or Ts j no_name ≡ no_name → ⊥) → callee j ≡ caller (get_or Ts j no_name)

-- "0 narrow, 1 wide"; as where it is graded, a width that 01 does not have counts as wide
abbrev pub is_wide : (width : ℕ) → Bool
is_wide width = not (eqb width 0)

module _ (p : Program) (w : World) where
  -- an access of field U touches a location of that field; where the field's guard uses a lock, T0, unless it is FF, names the location's guard
  pub record Touches (names : Names) (U T0 location : ℕ) : Type 0 where
    pub field : w.field location ≡ U
    pub guard : guard_uses (field_at p U).guard ≡ true → (T0 ≡ no_name → ⊥) → w.guard location ≡ names T0

  module _ (view : View) where
    -- a thread that has these locks, where its names stand for these, can do the code so, and is then done or cut off. Which way a choice goes, how
    -- often a loop turns, which values are read and written and which lock is behind FF are left open: every way is a way to run.
    pub data Does : Code → Names → Locks → Word → (done : Bool) → Type 0 where
      -- cut off before its first event
      stopped : {c : Code} {names : Names} {locks : Locks} → Does c names locks [] false
      idle : {names : Names} {locks : Locks} → Does nothing names locks [] true
      -- a narrow field is one location of its object, a wide one two: two events
      narrow : {writing : Bool} {U T0 : ℕ} {names : Names} {locks : Locks} (x v : ℕ) (guarded : Bool) → is_wide (field_at p U).width ≡ false → Touches names U T0 x
          → Does (accessing writing U T0) names locks (alone (access x writing v guarded) ∷ []) true
      half_wide : {writing : Bool} {U T0 : ℕ} {names : Names} {locks : Locks} (x v : ℕ) (guarded : Bool) → is_wide (field_at p U).width ≡ true → Touches names U T0 x
          → Does (accessing writing U T0) names locks (alone (access x writing v guarded) ∷ []) false
      wide : {writing : Bool} {U T0 : ℕ} {names : Names} {locks : Locks} (x v : ℕ) (guarded : Bool) (x' v' : ℕ) (guarded' : Bool) → is_wide (field_at p U).width ≡ true
          → Touches names U T0 x → Touches names U T0 x'
          → Does (accessing writing U T0) names locks (alone (access x writing v guarded) ∷ alone (access x' writing v' guarded') ∷ []) true
      cut_first : {c d : Code} {names : Names} {locks : Locks} {word : Word} → Does c names locks word false → Does (in_order c d) names locks word false
      both : {c d : Code} {names : Names} {locks : Locks} {word word' : Word} {done : Bool} → Does c names locks word true → Does d names locks word' done
          → Does (in_order c d) names locks (word ++ word') done
      one : {c d : Code} {names : Names} {locks : Locks} {word : Word} {done : Bool} → Does c names locks word done → Does (either c d) names locks word done
      other : {c d : Code} {names : Names} {locks : Locks} {word : Word} {done : Bool} → Does d names locks word done → Does (either c d) names locks word done
      enough : {c : Code} {names : Names} {locks : Locks} → Does (again c) names locks [] true
      cut_inside : {c : Code} {names : Names} {locks : Locks} {word : Word} → Does c names locks word false → Does (again c) names locks word false
      once_more : {c : Code} {names : Names} {locks : Locks} {word word' : Word} {done : Bool} → Does c names locks word true
          → Does (again c) names locks word' done → Does (again c) names locks (word ++ word') done
      -- a lock that the thread has already is not taken anew
      has_lock : {l : ℕ} {c : Code} {names : Names} {locks : Locks} {word : Word} {done : Bool} → locks (names l) ≡ true → Does c names locks word done
          → Does (locking l c) names locks word done
      takes_lock : {l : ℕ} {c : Code} {names : Names} {locks : Locks} {word : Word} → locks (names l) ≡ false
          → Does c names (changed locks (names l) true) word true
          → Does (locking l c) names locks (alone (acquire (names l)) ∷ (word ++ (alone (release (names l)) ∷ []))) true
      keeps_lock : {l : ℕ} {c : Code} {names : Names} {locks : Locks} {word : Word} {done : Bool} → locks (names l) ≡ false
          → Does c names (changed locks (names l) true) word done → Does (locking l c) names locks (alone (acquire (names l)) ∷ word) false
      asserted : {c : Code} {names : Names} {locks : Locks} {word : Word} {done : Bool} → Does c names locks word done
          → Does (whole c) names locks (as_whole word) done
      called : {m : ℕ} {Ts : List ℕ} {names : Names} {locks : Locks} {word : Word} {done : Bool} (callee : Names)
          → Passed (method_at p m).k Ts names callee → Does (body_of p m) callee locks word done
          → Does (calling m Ts) names locks (looked view m callee locks word) done
      forked : {m : ℕ} {names : Names} {locks : Locks} (thread : ℕ) → w.method thread ≡ m
          → Does (forking m) names locks (alone (begin thread) ∷ []) true
