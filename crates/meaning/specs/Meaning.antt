-- What each node means: document 01's table of ops, "Accesses", "Synchronised on l" and "Call", the last with document 02's W-204. Nothing here
-- knows how many names, nodes or methods a text has room for.
-- Assumes nothing.
use Rattle.std.specs.Prelude.{ℕ, zero, suc, pred, max, Bool, true, false, not, cond, List, [], ◌∷◌, ◌++◌, map, eqb, length, get_or, take}
use Rattle.grades.specs.Grades.{const, atomic, error, compose, join, closure, assert_atomic, lock_taken}
use Rattle.grades.specs.Access.{access}
use Rattle.grades.specs.HeldSets.{held, add, no_name, packed}
use Rattle.frames.specs.Program.{Field, Node, Method, Program, field_at, method_at, node_at}
use Rattle.counting.specs.Counting.{together}

-- "An assignment gives each method a table": of a method and a held set, a grade
abbrev pub Assignment : Type 0
Assignment = ℕ → ℕ → ℕ

-- "a method's last node is its root"
unfoldable pub root_of : Method → ℕ
root_of method = pred (length method.nodes)

-- ---- the ops

pub data Op : Type 0 where
  plain_value read write sequence choice loop synchronised assertion call fork no_op : Op

-- ops 0 to 9; a number over 9 is no op
unfoldable pub op_of : ℕ → Op
op_of n =
    get_or
    (plain_value ∷ read ∷ write ∷ sequence ∷ choice ∷ loop ∷ synchronised ∷ assertion ∷ call ∷ fork ∷ [])
    n
    no_op

-- the children that an op lists, of X, Y and Z
abbrev pub listed : Op → (X Y Z : ℕ) → List ℕ
listed plain_value X Y Z = []
listed read X Y Z = X ∷ []
listed write X Y Z = X ∷ Y ∷ []
listed sequence X Y Z = X ∷ Y ∷ []
listed choice X Y Z = X ∷ Y ∷ Z ∷ []
listed loop X Y Z = X ∷ Y ∷ []
listed synchronised X Y Z = X ∷ []
listed assertion X Y Z = X ∷ []
listed call X Y Z = X ∷ []
listed fork X Y Z = X ∷ []
listed no_op X Y Z = []

unfoldable pub children : Node → List ℕ
children node = listed (op_of node.op) node.X node.Y node.Z

-- ---- accesses and calls

-- T0; a name that is missing counts as FF
unfoldable pub first_name : List ℕ → ℕ
first_name names = get_or names 0 no_name

-- the access of a field under H, which is decided by the names that the node lists: the guard's lock is T0. FF is past every method's names,
-- so no held set has it: `access-no-name` says so.
unfoldable pub field_access : Field → (writing : Bool) → (names : List ℕ) → (H : ℕ) → ℕ
field_access field writing names H = access field.width field.guard writing (held H (first_name names))

-- is the callee's lock held? The answers that the caller's name for it allows. "Callee name j is held exactly if Tj is in H"; but FF does not
-- tell: "an unnamed lock is not a lock left open", it may be held or not.
unfoldable pub allowed : (H name : ℕ) → List Bool
allowed H name = cond (eqb name no_name) (false ∷ true ∷ []) (held H name ∷ [])

-- all ways to choose an answer for each name, "each chosen apart"
unfoldable pub choices : List (List Bool) → List (List Bool)
choices [] = [] ∷ []
choices (answers ∷ later) = together (λ chosen. map (λ answer. answer ∷ chosen) answers) (choices later)

-- the callee's held sets that match the caller's names for its locks, in rising order
unfoldable pub matching : (names : List ℕ) → (H : ℕ) → List ℕ
matching names H = map packed (choices (map (allowed H) names))

-- the largest of a table's entries at some sets
unfoldable pub largest : (ℕ → ℕ) → List ℕ → ℕ
largest table [] = const
largest table (S ∷ sets) = max (table S) (largest table sets)

-- "a call takes the largest callee entry over all choices for its FF names": of the callee's table. A callee of k names takes the first k.
unfoldable pub callee_entry : (k : ℕ) → (table : ℕ → ℕ) → (names : List ℕ) → (H : ℕ) → ℕ
callee_entry k table names H = largest table (matching (take k names) H)

-- ---- a node's parts, and the whole put together from them

-- a part is a child, graded under a held set, or the node's own access, callee's entry or fork's 2
pub data Part : Type 0 where
  child : (node set : ℕ) → Part
  own : (grade : ℕ) → Part

-- the set that a child is graded under. Synchronised on l: "if l is in H, the child under H. If not, take the child under H with l
-- added"; adding a name that H has leaves H.
abbrev pub child_set : Op → (names : List ℕ) → (H : ℕ) → ℕ
child_set plain_value names H = H
child_set read names H = H
child_set write names H = H
child_set sequence names H = H
child_set choice names H = H
child_set loop names H = H
child_set synchronised names H = add H (first_name names)
child_set assertion names H = H
child_set call names H = H
child_set fork names H = H
child_set no_op names H = H

-- what a node adds of its own: a read or a write its access, a call the callee's entry, a fork 2
abbrev pub own_part : Program → Assignment → Op → Node → (H : ℕ) → List Part
own_part p a plain_value node H = []
own_part p a read node H = own (field_access (field_at p node.U) false node.names H) ∷ []
own_part p a write node H = own (field_access (field_at p node.U) true node.names H) ∷ []
own_part p a sequence node H = []
own_part p a choice node H = []
own_part p a loop node H = []
own_part p a synchronised node H = []
own_part p a assertion node H = []
own_part p a call node H = own (callee_entry (method_at p node.U).k (a node.U) node.names H) ∷ []
own_part p a fork node H = own atomic ∷ []
own_part p a no_op node H = []

-- "its children in the order X, Y, Z, then its own access, callee entry or fork's 2"
unfoldable pub parts : Program → Assignment → Node → (H : ℕ) → List Part
parts p a node H =
    map (λ c. child c (child_set (op_of node.op) node.names H)) (children node) ++ own_part p a (op_of node.op) node H

-- a part's grade, of the grades of all lower nodes
abbrev pub part_grade : (lower : ℕ → ℕ → ℕ) → Part → ℕ
part_grade lower (child n S) = lower n S
part_grade lower (own g) = g

-- the column "grade under H", of the grades of the parts in their order. `newly` says that the lock T0 was not held before: "0 and 1 become 2, other
-- grades stay". An op over 9 counts as error.
abbrev pub rule : Op → (newly : Bool) → (first second third : ℕ) → ℕ
rule plain_value newly _ _ _ = const
rule read newly X access _ = compose X access
rule write newly X Y access = compose (compose X Y) access
rule sequence newly X Y _ = compose X Y
rule choice newly X Y Z = compose X (join Y Z)
rule loop newly X Y _ = compose X (closure (compose Y X))
rule synchronised newly X _ _ = cond newly (lock_taken X) X
rule assertion newly X _ _ = assert_atomic X
rule call newly X entry _ = compose X entry
rule fork newly X two _ = compose X two
rule no_op newly _ _ _ = error

-- the whole of some parts; a part that is not there counts as const, which composition leaves alone
unfoldable pub whole : Op → (newly : Bool) → List ℕ → ℕ
whole op newly grades = rule op newly (get_or grades 0 const) (get_or grades 1 const) (get_or grades 2 const)

-- a node's grade under H, of the grades of all lower nodes
unfoldable pub node_grade : Program → Assignment → (lower : ℕ → ℕ → ℕ) → Node → (H : ℕ) → ℕ
node_grade p a lower node H =
    whole (op_of node.op) (not (held H (first_name node.names))) (map (part_grade lower) (parts p a node H))

-- the grades of the nodes below n, at each node and held set. A node that is not below counts as a plain value, so that each
-- program has a meaning; a text's children are always below.
unfoldable pub below : Program → Assignment → (nodes : ℕ → Node) → (n : ℕ) → (node H : ℕ) → ℕ
below p a nodes zero m H = const
below p a nodes (suc n) m H =
    let here = node_grade p a (below p a nodes n) (nodes n) H in
    let lower = below p a nodes n m H in
    cond (eqb m n) here lower

-- "The meaning of a node is defined by its children, down to nodes without any, for given tables of all methods."
unfoldable pub meaning : Program → Assignment → (nodes : ℕ → Node) → (n H : ℕ) → ℕ
meaning p a nodes n H = node_grade p a (below p a nodes n) (nodes n) H

-- method m's root table: its root's grade under each held set
unfoldable pub root_table : Program → Assignment → (m H : ℕ) → ℕ
root_table p a m H = meaning p a (node_at (method_at p m)) (root_of (method_at p m)) H
