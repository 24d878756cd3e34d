-- What is known of a node's meaning. One order proof serves several laws: over equal sets the meaning grows with the tables; over sets of which
-- one lies within the other it is antitone where the tables are; and with other names in calls it follows the callees' entries. It looks only at
-- the tree of the node.
-- Assumes nothing.
use Prim.Native.Nat.{ℕ, zero, suc, ◌≤◌, ◌<◌}
use Rattle.std.specs.Prelude.{Bool, not, List, ◌∷◌, ◌++◌, map, ◌≡◌, T}
use Rattle.std.proofs.Math.Bool.{true, false, cond}
use Rattle.std.proofs.Math.Path.{refl, subst, fun_ext}
use Rattle.std.proofs.Common.{sym, ap, not-suc-le-zero, le_of_eq, le_antisymm, arith, eqb→eq, T_not, eqb-true}
use Rattle.std.proofs.Math.Nat.{le_refl}
use Rattle.std.proofs.Math.Dec.{eqb, eqb_refl}
use Rattle.grades.specs.Grades.{const, error, lock_taken}
use Rattle.grades.proofs.Laws.Grades.{cap-grade, compose-grows, compose-error, join-grows, closure-grows, assert-grows, assert-error, lock_taken-grows, lock_taken-above, lock_taken-error}
use Rattle.grades.specs.Access.{access}
use Rattle.grades.proofs.Laws.Access.{access-held}
use Rattle.grades.specs.HeldSets.{entries, held, Within, add, no_name}
use Rattle.grades.proofs.Laws.HeldSets.{no-name-held, within-refl, add-respects}
use Rattle.frames.specs.Program.{Field, Node, Program, field_at, method_at, node_at}
use Rattle.meaning.specs.Meaning.{Assignment, root_of, Op, plain_value, read, write, sequence, choice, loop, synchronised, assertion, call, fork, no_op, op_of, listed, children, first_name, field_access, callee_entry, child, child_set, own_part, parts, part_grade, whole, node_grade, below, meaning, root_table}
use Rattle.counting.specs.Counting.{All}
use Rattle.meaning.specs.Tree.{InTree, itself, inside, is_call, renamed_by, renamed, all_among, same-tree}
use Rattle.meaning.proofs.Laws.Calls.{entry-grows, entry-falls}
use Rattle.counting.specs.Laws.Tests.{chosen, cond-most}

-- "FF at a guarded or write-guarded access also means not held"
pub access-no-name : (k H : ℕ) → k ≤ no_name → H < entries k → (field : Field) (writing : Bool) (names : List ℕ)
    → field_access field writing (no_name ∷ names) H ≡ access field.width field.guard writing false
unfolding entries field_access first_name
access-no-name k H g h field writing names = ap (access field.width field.guard writing) (no-name-held k H h g)

-- ---- a node by its op

-- a node's grade, its op given apart
abbrev grade_by : Program → Assignment → (ℕ → ℕ → ℕ) → Op → Node → ℕ → ℕ
grade_by p a lower o node H =
    whole o (not (held H (first_name node.names)))
    (map (part_grade lower) (map (λ c. child c (child_set o node.names H)) (listed o node.X node.Y node.Z) ++ own_part p a o node H))

grade_by-error : (p : Program) (a : Assignment) (lower : ℕ → ℕ → ℕ) → ((c S : ℕ) → lower c S ≤ error) → (o : Op) (node : Node) (H : ℕ) → grade_by p a lower o node H ≤ error
unfolding whole
grade_by-error p a lower h plain_value node H = omega arith
grade_by-error p a lower h read node H = compose-error _ _
grade_by-error p a lower h write node H = compose-error _ _
grade_by-error p a lower h sequence node H = compose-error _ _
grade_by-error p a lower h choice node H = compose-error _ _
grade_by-error p a lower h loop node H = compose-error _ _
grade_by-error p a lower h synchronised node H =
    cond-most (not (held H (first_name node.names))) _ _ _ (λ t. lock_taken-error _) (λ t. h _ _)
grade_by-error p a lower h assertion node H = assert-error _
grade_by-error p a lower h call node H = compose-error _ _
grade_by-error p a lower h fork node H = compose-error _ _
grade_by-error p a lower h no_op node H = omega arith

node_grade-error : (p : Program) (a : Assignment) (lower : ℕ → ℕ → ℕ) → ((c S : ℕ) → lower c S ≤ error) → (node : Node) (H : ℕ) → node_grade p a lower node H ≤ error
unfolding node_grade parts children
node_grade-error p a lower h node H = grade_by-error p a lower h (op_of node.op) node H

pub below-error : (p : Program) (a : Assignment) (nodes : ℕ → Node) (n m H : ℕ) → below p a nodes n m H ≤ error
unfolding below
below-error p a nodes zero m H = omega arith
below-error p a nodes (suc n) m H =
    cond-most (eqb m n) _ _ _ (λ t. node_grade-error p a (below p a nodes n) (below-error p a nodes n) (nodes n) H)
    (λ t. below-error p a nodes n m H)

-- the meaning "stays within 0 to 4"
pub meaning-error : (p : Program) (a : Assignment) (nodes : ℕ → Node) (n H : ℕ) → meaning p a nodes n H ≤ error
unfolding meaning
meaning-error p a nodes n H = node_grade-error p a (below p a nodes n) (below-error p a nodes n) (nodes n) H

-- ---- one step of the meaning: among the lower nodes a child has its own meaning; a node that is not lower counts as const

pub below-meaning : (p : Program) (a : Assignment) (nodes : ℕ → Node) (n m H : ℕ) → m < n → below p a nodes n m H ≡ meaning p a nodes m H
unfolding below meaning
below-meaning p a nodes zero m H h = absurd (not-suc-le-zero h)
below-meaning p a nodes (suc n) m H h =
    chosen (λ (r : ℕ). r ≡ meaning p a nodes m H) (eqb m n) _ _ (λ t. sym (ap (λ (i : ℕ). node_grade p a (below p a nodes i) (nodes i) H) (eqb→eq m n t)))
    (λ t. below-meaning p a nodes n m H (other h (λ e. T_not (eqb m n) t (subst (λ (i : ℕ). T (eqb m i)) e (eqb_refl m)))))
  where
    other : m < suc n → (m ≡ n → ⊥) → m < n
    other h g = omega arith

pub below_none : (p : Program) (a : Assignment) (nodes : ℕ → Node) (n m H : ℕ) → n ≤ m → below p a nodes n m H ≡ const
unfolding below
below_none p a nodes zero m H h = refl
below_none p a nodes (suc n) m H h =
    chosen (λ (r : ℕ). r ≡ const) (eqb m n) _ _ (λ t. absurd (clash (eqb→eq m n t) h)) (λ t. below_none p a nodes n m H (omega arith))
  where
    clash : m ≡ n → suc n ≤ m → ⊥
    clash e g = omega arith

-- ---- the order of meanings

less-newly : (b b' : Bool) → (T b → T b') → T (not b') → T (not b)
less-newly true true f t = t
less-newly true false f t = absurd (f tt)
less-newly false b' f t = tt

lock-order : (newly newly' : Bool) (x x' : ℕ) → (T newly' → T newly) → x' ≤ x → x' ≤ error → cond newly' (lock_taken x') x' ≤ cond newly (lock_taken x) x
lock-order true true x x' f h e = lock_taken-grows x' x h
lock-order true false x x' f h e = omega (arith, cap-grade x' e, lock_taken-above x', lock_taken-grows x' x h)
lock-order false true x x' f h e = absurd (f tt)
lock-order false false x x' f h e = h

access-order : (field : Field) (writing : Bool) (names : List ℕ) (H H' : ℕ) → Within H H' → field_access field writing names H' ≤ field_access field writing names H
unfolding field_access
access-order field writing names H H' w = go (held H (first_name names)) (held H' (first_name names)) (w (first_name names))
  where
    go : (b b' : Bool) → (T b → T b') → access field.width field.guard writing b' ≤ access field.width field.guard writing b
    go true true f = le_refl _
    go true false f = absurd (f tt)
    go false true f = access-held field.width field.guard writing
    go false false f = le_refl _

-- R relates held sets, the first within the second. Two bodies differ at most in the names of their calls, which f and f' change; a' is to be
-- nowhere above a.
module _
    (p : Program)
    (R : ℕ → ℕ → Type 0)
    (R-within : (H H' : ℕ) → R H H' → Within H H')
    (f f' : List ℕ → List ℕ)
    (a a' : Assignment)
  where
    -- a lock that is taken keeps sets related
    abbrev LockKeeps : Op → Node → Type 0
    LockKeeps o node =
        o ≡ synchronised → (H H' : ℕ) → R H H' → R (add H (first_name node.names)) (add H' (first_name node.names))

    -- a call's entries are ordered
    abbrev EntryFalls : Op → Node → Type 0
    EntryFalls o node =
        T (is_call o) → (H H' : ℕ) → R H H'
        → callee_entry (method_at p node.U).k (a' node.U) (f' node.names) H'
        ≤ callee_entry (method_at p node.U).k (a node.U) (f node.names) H

    abbrev Lower : (lower lower' : ℕ → ℕ → ℕ) → ℕ → Type 0
    Lower lower lower' c = (S S' : ℕ) → R S S' → lower' c S' ≤ lower c S

    grade_by-order : (lower lower' : ℕ → ℕ → ℕ) → ((c S : ℕ) → lower' c S ≤ error) → (o : Op) (node : Node) → LockKeeps o node → EntryFalls o node
        → All (Lower lower lower') (listed o node.X node.Y node.Z) → (H H' : ℕ) → R H H'
        → grade_by p a' lower' o (renamed_by o f' node) H' ≤ grade_by p a lower o (renamed_by o f node) H
    unfolding whole
    grade_by-order l l' e plain_value node g h c H H' r = le_refl _
    grade_by-order l l' e read node g h c H H' r =
        compose-grows _ _ _ _ (c.0 H H' r) (access-order (field_at p node.U) false node.names H H' (R-within H H' r))
    grade_by-order l l' e write node g h c H H' r =
        compose-grows _ _ _ _ (compose-grows _ _ _ _ (c.0 H H' r) (c.1.0 H H' r))
        (access-order (field_at p node.U) true node.names H H' (R-within H H' r))
    grade_by-order l l' e sequence node g h c H H' r = compose-grows _ _ _ _ (c.0 H H' r) (c.1.0 H H' r)
    grade_by-order l l' e choice node g h c H H' r =
        compose-grows _ _ _ _ (c.0 H H' r) (join-grows _ _ _ _ (c.1.0 H H' r) (c.1.1.0 H H' r))
    grade_by-order l l' e loop node g h c H H' r =
        compose-grows _ _ _ _ (c.0 H H' r) (closure-grows _ _ (compose-grows _ _ _ _ (c.1.0 H H' r) (c.0 H H' r)))
    grade_by-order l l' e synchronised node g h c H H' r =
        let name = first_name node.names in
        lock-order (not (held H name)) (not (held H' name)) _ _
        (less-newly (held H name) (held H' name) (R-within H H' r name))
        (c.0 (add H name) (add H' name) (g refl H H' r)) (e _ _)
    grade_by-order l l' e assertion node g h c H H' r = assert-grows _ _ (c.0 H H' r)
    grade_by-order l l' e call node g h c H H' r = compose-grows _ _ _ _ (c.0 H H' r) (h tt H H' r)
    grade_by-order l l' e fork node g h c H H' r = compose-grows _ _ _ _ (c.0 H H' r) (le_refl _)
    grade_by-order l l' e no_op node g h c H H' r = le_refl _

    -- in the tree of n the two bodies have the same nodes, but for their calls' names
    abbrev pub TreeOrdered : (nodes nodes' : ℕ → Node) → (n : ℕ) → Type 0
    TreeOrdered nodes nodes' n =
        (j : ℕ) → InTree nodes n j → (nodes' j ≡ nodes j) × LockKeeps (op_of (nodes j).op) (nodes j) × EntryFalls (op_of (nodes j).op) (nodes j)

    abbrev upper : (nodes : ℕ → Node) → ℕ → Node
    upper nodes j = renamed f (nodes j)

    abbrev lower : (nodes' : ℕ → Node) → ℕ → Node
    lower nodes' j = renamed f' (nodes' j)

    node_grade-order : (nodes nodes' : ℕ → Node) (n : ℕ) (l l' : ℕ → ℕ → ℕ) → ((c S : ℕ) → l' c S ≤ error)
        → TreeOrdered nodes nodes' n → ((c : ℕ) → TreeOrdered nodes nodes' c → Lower l l' c)
        → (H H' : ℕ) → R H H' → node_grade p a' l' (lower nodes' n) H' ≤ node_grade p a l (upper nodes n) H
    unfolding node_grade parts children
    node_grade-order nodes nodes' n l l' e t h H H' r =
        let here : node_grade p a' l' (lower nodes n) H' ≤ node_grade p a l (upper nodes n) H =
        grade_by-order l l' e (op_of (nodes n).op) (nodes n) (t n itself).1 (t n itself).2
        (all_among (Lower l l') (children (nodes n)) (λ c m. h c (λ j s. t j (inside m s)))) H H' r in
        subst (λ (node : Node). node_grade p a' l' (renamed f' node) H' ≤ node_grade p a l (upper nodes n) H) (sym (t n itself).0) here

    below-order : (nodes nodes' : ℕ → Node) (n m : ℕ) → TreeOrdered nodes nodes' m
        → Lower (below p a (upper nodes) n) (below p a' (lower nodes') n) m
    unfolding below
    below-order nodes nodes' zero m t H H' r = le_refl _
    below-order nodes nodes' (suc n) m t H H' r = go (λ c. below-order nodes nodes' n c) (eqb m n) refl
      where
        go : ((c : ℕ) → TreeOrdered nodes nodes' c → Lower (below p a (upper nodes) n) (below p a' (lower nodes') n) c) → (b : Bool) → eqb m n ≡ b
            → cond b (node_grade p a' (below p a' (lower nodes') n) (lower nodes' n) H') (below p a' (lower nodes') n m H')
            ≤ cond b (node_grade p a (below p a (upper nodes) n) (upper nodes n) H) (below p a (upper nodes) n m H)
        go ih true e =
            node_grade-order nodes nodes' n (below p a (upper nodes) n) (below p a' (lower nodes') n) (below-error p a' (lower nodes') n)
            (subst (TreeOrdered nodes nodes') (eqb-true m n e) t) ih H H' r
        go ih false e = ih m t H H' r

    pub meaning-order : (nodes nodes' : ℕ → Node) (n : ℕ) → TreeOrdered nodes nodes' n → (H H' : ℕ) → R H H'
        → meaning p a' (lower nodes') n H' ≤ meaning p a (upper nodes) n H
    unfolding meaning
    meaning-order nodes nodes' n t H H' r =
        node_grade-order nodes nodes' n (below p a (upper nodes) n) (below p a' (lower nodes') n) (below-error p a' (lower nodes') n) t
        (below-order nodes nodes' n) H H' r

-- ---- the laws

-- a body whose calls keep their names
pub unchanged : (nodes : ℕ → Node) → (λ (j : ℕ). renamed (λ names. names) (nodes j)) ≡ nodes
unchanged nodes = fun_ext (λ j. ap (named (nodes j)) (either (is_call (op_of (nodes j).op)) (nodes j).names))
  where
    named : Node → List ℕ → Node
    named node names = record { op = node.op; X = node.X; Y = node.Y; Z = node.Z; U = node.U; names = names }

    either : (b : Bool) (names : List ℕ) → cond b names names ≡ names
    either true names = refl
    either false names = refl

pub equal-within : (H H' : ℕ) → H ≡ H' → Within H H'
equal-within H H' e = subst (Within H) e (within-refl H)

-- under one held set: bodies that agree in the tree, tables that are ordered where it calls
tree-order : (p : Program) (a a' : Assignment) (nodes nodes' : ℕ → Node) (n H : ℕ)
    → ((j : ℕ) → InTree nodes n j
    → (nodes' j ≡ nodes j)
    × (T (is_call (op_of (nodes j).op)) → (S : ℕ) → S < entries (method_at p (nodes j).U).k → a' (nodes j).U S ≤ a (nodes j).U S))
    → meaning p a' nodes' n H ≤ meaning p a nodes n H
tree-order p a a' nodes nodes' n H h =
    subst (λ (body : ℕ → Node). meaning p a' body n H ≤ meaning p a nodes n H) (unchanged nodes')
    (subst (λ (body : ℕ → Node). meaning p a' (λ j. renamed (λ names. names) (nodes' j)) n H ≤ meaning p a body n H) (unchanged nodes)
    (meaning-order p ◌≡◌ equal-within (λ names. names) (λ names. names) a a' nodes nodes' n
    (λ j t. (
      (h j t).0,
      λ s F G. ap (λ (K : ℕ). add K (first_name (nodes j).names)),
      λ c F G e.
          subst
          (λ (K : ℕ).
          callee_entry (method_at p (nodes j).U).k (a' (nodes j).U) (nodes j).names K
          ≤ callee_entry (method_at p (nodes j).U).k (a (nodes j).U) (nodes j).names F)
          e (entry-grows (method_at p (nodes j).U).k (nodes j).names F (a (nodes j).U) (a' (nodes j).U) ((h j t).1 c)),
    )) H H refl))

-- "grows with the tables"
pub meaning-grows : (p : Program) (a a' : Assignment) (nodes : ℕ → Node) (n H : ℕ) → ((m S : ℕ) → a' m S ≤ a m S)
    → meaning p a' nodes n H ≤ meaning p a nodes n H
meaning-grows p a a' nodes n H h = tree-order p a a' nodes nodes n H (λ j t. (refl, λ c S s. h (nodes j).U S))

-- "is antitone in H where the tables are"
pub meaning-antitone : (p : Program) (a : Assignment) (nodes : ℕ → Node) (n : ℕ)
    → ((m S S' : ℕ) → S < entries (method_at p m).k → S' < entries (method_at p m).k → Within S S' → a m S' ≤ a m S)
    → (H H' : ℕ) → Within H H' → meaning p a nodes n H' ≤ meaning p a nodes n H
meaning-antitone p a nodes n h H H' w =
    subst (λ (body : ℕ → Node). meaning p a body n H' ≤ meaning p a body n H) (unchanged nodes)
    (meaning-order p Within (λ F G r. r) (λ names. names) (λ names. names) a a nodes nodes n
    (λ j t. (
      refl,
      λ s F G. add-respects F G (first_name (nodes j).names),
      λ c F G.
          entry-falls (method_at p (nodes j).U).k (nodes j).names F G (a (nodes j).U) (a (nodes j).U) (h (nodes j).U),
    )) H H' w)

-- what a node's grade depends on: two bodies have the same node j, and two assignments the same table of the method that it calls, if it
-- calls one
pub record AgreeAt (p : Program) (a a' : Assignment) (nodes nodes' : ℕ → Node) (j : ℕ) : Type 0 where
  pub node : nodes' j ≡ nodes j
  pub callee : T (is_call (op_of (nodes j).op)) → (S : ℕ) → S < entries (method_at p (nodes j).U).k → a' (nodes j).U S ≡ a (nodes j).U S

-- "depends only on the tables of methods that the tree calls", and on the nodes of the tree: "No unnamed node but the root .. has an effect
-- on grades, nor has what it names"
pub meaning-tree : (p : Program) (a a' : Assignment) (nodes nodes' : ℕ → Node) (n : ℕ)
    → ((j : ℕ) → InTree nodes n j → AgreeAt p a a' nodes nodes' j)
    → (H : ℕ) → meaning p a' nodes' n H ≡ meaning p a nodes n H
meaning-tree p a a' nodes nodes' n h H =
    le_antisymm
    (tree-order p a a' nodes nodes' n H (λ j t. ((h j t).node, λ c S s. le_of_eq ((h j t).callee c S s))))
    (tree-order p a' a nodes' nodes n H (λ j t. back j (h j (same-tree nodes nodes' n j (λ i s. (h i s).node) t))))
  where
    back : (j : ℕ) → AgreeAt p a a' nodes nodes' j
        → (nodes j ≡ nodes' j)
        × (T (is_call (op_of (nodes' j).op)) → (S : ℕ) → S < entries (method_at p (nodes' j).U).k → a (nodes' j).U S ≤ a' (nodes' j).U S)
    back j r = (
      sym r.node,
      subst
          (λ (x : Node). T (is_call (op_of x.op)) → (S : ℕ) → S < entries (method_at p x.U).k → a x.U S ≤ a' x.U S)
          (sym r.node) (λ c S s. le_of_eq (sym (r.callee c S s))),
    )

-- ---- root tables

pub root-error : (p : Program) (a : Assignment) (m H : ℕ) → root_table p a m H ≤ error
unfolding root_table
root-error p a m H = meaning-error p a (node_at (method_at p m)) (root_of (method_at p m)) H

pub root-grows : (p : Program) (a a' : Assignment) (m H : ℕ) → ((n S : ℕ) → a' n S ≤ a n S) → root_table p a' m H ≤ root_table p a m H
unfolding root_table
root-grows p a a' m H h = meaning-grows p a a' (node_at (method_at p m)) (root_of (method_at p m)) H h

pub root-antitone : (p : Program) (a : Assignment) (m : ℕ)
    → ((n S S' : ℕ) → S < entries (method_at p n).k → S' < entries (method_at p n).k → Within S S' → a n S' ≤ a n S)
    → (H H' : ℕ) → Within H H' → root_table p a m H' ≤ root_table p a m H
unfolding root_table
root-antitone p a m = meaning-antitone p a (node_at (method_at p m)) (root_of (method_at p m))

-- method m calls method c: a call of c is in the tree of its root
pub record Calls (p : Program) (m c : ℕ) : Type 0 where
  pub node : ℕ
  pub reached : InTree (node_at (method_at p m)) (root_of (method_at p m)) node
  pub is_call : T (is_call (op_of (node_at (method_at p m) node).op))
  pub callee : (node_at (method_at p m) node).U ≡ c

-- a root reads only the tables of methods that it calls
pub root-calls : (p : Program) (a a' : Assignment) (m : ℕ)
    → ((c : ℕ) → Calls p m c → (S : ℕ) → S < entries (method_at p c).k → a' c S ≡ a c S)
    → (H : ℕ) → root_table p a' m H ≡ root_table p a m H
unfolding root_table
root-calls p a a' m h =
    meaning-tree p a a' (node_at (method_at p m)) (node_at (method_at p m)) (root_of (method_at p m))
    (λ j t. record { node = refl; callee = λ c. h _ (record { node = j; reached = t; is_call = c; callee = refl }) })
