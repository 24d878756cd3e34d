-- Refusal 6: what one frame says against the others. The paper's words stand at each test.
-- Assumes nothing.
use Rattle.std.specs.Prelude.{ℕ, zero, suc, ◌+◌, ◌-◌, Bool, true, cond, not, ◌&&◌, ◌||◌, List, [], ◌∷◌, leb, ltb, eqb, take}
use Rattle.frames.specs.Layout.{layout}
use Rattle.frames.specs.Frames.{Frame, Frames, two, methods_in, fields_in, nodes_in, field_frame, method_frame, first_method, first_node}
use Rattle.frames.specs.Ranges.{children_listed, uses_field}
use Rattle.frames.specs.declared.Due.{Due}
use Rattle.frames.specs.declared.Due.TheVariants.{Header, Field, Method, Node, End}
use Rattle.counting.specs.Counting.{every, member}

abbrev pub node_count : Frames → ℕ → ℕ
node_count f m = two (method_frame f m) layout.count_at

-- how many nodes the methods below m have; "Nodes are grouped by method, in method order", so this is where m's nodes start
unfoldable pub nodes_before : Frames → ℕ → ℕ
nodes_before f zero = 0
nodes_before f (suc m) = nodes_before f m + node_count f m

-- the last method up to m whose nodes start at node a or before it
unfoldable pub owner_up_to : Frames → ℕ → ℕ → ℕ
owner_up_to f zero a = 0
owner_up_to f (suc m) a = cond (leb (nodes_before f (suc m)) a) (suc m) (owner_up_to f m a)

-- the method that node a stands in, and its number there; a counts through all methods
abbrev pub owner : Frames → ℕ → ℕ
owner f a = owner_up_to f (methods_in f - 1) a

abbrev pub number_in : Frames → ℕ → ℕ
number_in f a = a - nodes_before f (owner f a)

-- the children that a node lists, in the order X, Y, Z
unfoldable pub children_of : Frame → List ℕ
children_of r =
    take (children_listed (r layout.op_at))
    (two r layout.XAt ∷ two r layout.YAt ∷ two r layout.ZAt ∷ [])

-- the children of one node more, the latest first
unfoldable pub naming : List ℕ → List ℕ → List ℕ
naming named [] = named
naming named (c ∷ cs) = naming (c ∷ named) cs

-- the nodes that the first n nodes of a method name, if its nodes start at node a
unfoldable pub named_by : Frames → ℕ → ℕ → List ℕ
named_by f a zero = []
named_by f a (suc n) = naming (named_by f a n) (children_of (f (first_node f + (a + n))))

-- not "a child not below its node, or named before, by an earlier line or in the same one"
unfoldable pub fresh : ℕ → List ℕ → List ℕ → Bool
fresh n named [] = true
fresh n named (c ∷ cs) = ltb c n && (not (member c named) && fresh n (c ∷ named) cs)

-- a name of the method that the node stands in, or FF
abbrev pub name_or_none : ℕ → ℕ → Bool
name_or_none k t = ltb t k || eqb t layout.no_name

-- the guards that use a lock: guarded and write-guarded
abbrev pub guard_uses : ℕ → Bool
guard_uses g = eqb g 1 || eqb g 2

-- U and T0 of an access: "U not an existing field (ops 1, 2)", "T0 of a guarded or write-guarded access .. neither below k nor FF",
-- "such a T not 00 where the field's guard is 0 or 3" are refused
unfoldable pub access_linked : Frames → ℕ → Frame → Bool
access_linked f k r =
    ltb (r layout.UAt) (fields_in f)
    && cond (guard_uses (field_frame f (r layout.UAt) layout.guard_at))
    (name_or_none k (r layout.names_at))
    (eqb (r layout.names_at) 0)

-- Tj of a call: "a needed Tj of a call, neither below k nor FF", "such a T not 00 .. where the callee has no name j" are refused
unfoldable pub call_name_linked : (callee k : ℕ) → Frame → ℕ → Bool
call_name_linked callee k r j =
    cond (ltb j callee) (name_or_none k (r (layout.names_at + j))) (eqb (r (layout.names_at + j)) 0)

-- U and T0 to T3 of a call: "U not an existing .. method (8, 9)" is refused
unfoldable pub call_linked : Frames → ℕ → Frame → Bool
call_linked f k r =
    ltb (r layout.UAt) (methods_in f)
    && every layout.names (call_name_linked (method_frame f (r layout.UAt) layout.k_at) k r)

-- U of a fork: "a forked method with k of 0" is refused too
unfoldable pub fork_linked : Frames → Frame → Bool
fork_linked f r =
    ltb (r layout.UAt) (methods_in f) && ltb 0 (method_frame f (r layout.UAt) layout.k_at)

-- U and the names of a node, by its op; k is that of its own method. "a synchronised T0 not below k (FF is refused)"
unfoldable pub names_linked : Frames → ℕ → Frame → Bool
names_linked f k r =
    cond (uses_field (r layout.op_at))
    (access_linked f k r)
    (cond (eqb (r layout.op_at) 6)
    (ltb (r layout.names_at) k)
    (cond (eqb (r layout.op_at) 8)
    (call_linked f k r)
    (cond (eqb (r layout.op_at) 9) (fork_linked f r) true)))

-- node n of a method with k names, of which earlier lines have named some
unfoldable pub node_linked : Frames → (k n : ℕ) → List ℕ → Frame → Bool
node_linked f k n named r = fresh n named (children_of r) && names_linked f k r

-- "node counts don't total the header's (at the last method line)" is refused; m is the method's number
unfoldable pub method_linked : Frames → ℕ → Bool
method_linked f m = cond (eqb (suc m) (methods_in f)) (eqb (nodes_before f (methods_in f)) (nodes_in f)) true

-- node a, counted through all methods
unfoldable pub node_linked_at : Frames → ℕ → Bool
node_linked_at f a =
    node_linked f
    (method_frame f (owner f a) layout.k_at)
    (number_in f a)
    (named_by f (nodes_before f (owner f a)) (number_in f a))
    (f (first_node f + a))

-- the test of frame i, which is due
unfoldable pub linked : Frames → Due → ℕ → Bool
linked f Header i = true
linked f Field i = true
linked f Method i = method_linked f (i - first_method f)
linked f Node i = node_linked_at f (i - first_node f)
linked f End i = true
