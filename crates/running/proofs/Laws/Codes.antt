-- Code and meaning: a method's body, read as code, has the grades that its root's table gives it, or lower ones; and the code of a well-formed program
-- takes only locks that have names, and calls and forks only methods that there are.
-- Assumes nothing.
use Prim.Native.Nat.{ℕ, zero, suc, pred, ◌≤◌, ◌<◌}
use Rattle.std.specs.Prelude.{Bool, not, ◌≡◌, eqb, get_or}
use Rattle.std.proofs.Math.Bool.{true, false, cond}
use mathlib.Core.List.{List, [], ◌∷◌, ◌++◌, map}
use Rattle.std.proofs.Math.Path.{refl, subst}
use Rattle.std.proofs.Common.{sym, ap}
use Rattle.std.proofs.Math.Nat.{le_refl}
use native.Mathlib.Omega.{arith}
use Rattle.std.proofs.Math.Dec.{T, leb→le}
use Rattle.std.proofs.Math.ListN.{length}
use Rattle.std.proofs.Math.Pow.{pow_mono}
use Rattle.grades.specs.Grades.{const, atomic, cmpd, compose, join, closure, assert_atomic, lock_taken}
use Rattle.grades.proofs.Laws.Grades.{compose-grows, join-grows, closure-grows, assert-grows, lock_taken-grows}
use Rattle.grades.specs.Access.{access as access_grade}
use Rattle.grades.specs.HeldSets.{entries, held, add}
use Rattle.frames.specs.Program.{Node, Method, Program, field_at, method_at, node_at}
use Rattle.frames.specs.Layout.{layout}
use Rattle.frames.specs.Ranges.{uses_method}
use Rattle.frames.specs.WellFormed.{NodeFits, WellFormed}
use Rattle.counting.specs.Laws.Tests.{cond-grows}
use Rattle.meaning.specs.Meaning.{Assignment, root_of, Op, plain_value, read, write, sequence, choice, loop, synchronised, assertion, call, fork, no_op, op_of, listed, children, first_name, field_access, callee_entry, child, child_set, own_part, parts, part_grade, whole as whole_grade, node_grade, below, meaning, root_table}
use Rattle.meaning.specs.Lowest.{method_count, entry_count}
use Rattle.meaning.specs.Constraints.{is_fork, fork_at, named_method, forked_table, Met}
use Rattle.meaning.proofs.Laws.Constraints.{ClosedMet}
use Rattle.running.specs.Threads.{Code, nothing, accessing, in_order, either, again, locking, whole, calling, forking, code_by, code_below, code_at, body_of}

root_below : (x : Method) → 1 ≤ length x.nodes → root_of x < length x.nodes
unfolding root_of
root_below x h = let last : pred (length x.nodes) < length x.nodes = omega arith in last

-- ---- the grade of code

module _ (p : Program) (a : Assignment) where
  -- 01's rules, said of code
  abbrev pub grade_of : Code → (H : ℕ) → ℕ
  grade_of nothing H = const
  grade_of (accessing writing U T0) H = access_grade (field_at p U).width (field_at p U).guard writing (held H T0)
  grade_of (in_order c d) H = compose (grade_of c H) (grade_of d H)
  grade_of (either c d) H = join (grade_of c H) (grade_of d H)
  grade_of (again c) H = closure (grade_of c H)
  grade_of (locking l c) H = cond (not (held H l)) (lock_taken (grade_of c (add H l))) (grade_of c (add H l))
  grade_of (whole c) H = assert_atomic (grade_of c H)
  grade_of (calling m Ts) H = callee_entry (method_at p m).k (a m) Ts H
  grade_of (forking m) H = atomic

  -- a node's grade, its op given apart
  abbrev node_by : (ℕ → ℕ → ℕ) → Op → Node → ℕ → ℕ
  node_by lower o node H =
      whole_grade o (not (held H (first_name node.names)))
      (map (part_grade lower) (map (λ c. child c (child_set o node.names H)) (listed o node.X node.Y node.Z) ++ own_part p a o node H))

  by-op : (o : Op) (node : Node) (codes : ℕ → Code) (lower : ℕ → ℕ → ℕ) → ((c S : ℕ) → grade_of (codes c) S ≤ lower c S)
      → (H : ℕ) → grade_of (code_by o node codes) H ≤ node_by lower o node H
  unfolding whole_grade field_access
  by-op plain_value node codes lower h H = le_refl _
  by-op read node codes lower h H = compose-grows _ _ _ _ (h node.X H) (le_refl _)
  by-op write node codes lower h H = compose-grows _ _ _ _ (compose-grows _ _ _ _ (h node.X H) (h node.Y H)) (le_refl _)
  by-op sequence node codes lower h H = compose-grows _ _ _ _ (h node.X H) (h node.Y H)
  by-op choice node codes lower h H = compose-grows _ _ _ _ (h node.X H) (join-grows _ _ _ _ (h node.Y H) (h node.Z H))
  by-op loop node codes lower h H =
      compose-grows _ _ _ _ (h node.X H) (closure-grows _ _ (compose-grows _ _ _ _ (h node.Y H) (h node.X H)))
  by-op synchronised node codes lower h H =
      cond-grows (not (held H (first_name node.names))) _ _ _ _ (lock_taken-grows _ _ (h node.X (add H (first_name node.names))))
      (h node.X (add H (first_name node.names)))
  by-op assertion node codes lower h H = assert-grows _ _ (h node.X H)
  by-op call node codes lower h H = compose-grows _ _ _ _ (h node.X H) (le_refl _)
  by-op fork node codes lower h H = compose-grows _ _ _ _ (h node.X H) (le_refl _)
  by-op no_op node codes lower h H = omega arith

  by-node : (node : Node) (codes : ℕ → Code) (lower : ℕ → ℕ → ℕ) → ((c S : ℕ) → grade_of (codes c) S ≤ lower c S)
      → (H : ℕ) → grade_of (code_by (op_of node.op) node codes) H ≤ node_grade p a lower node H
  unfolding node_grade parts children
  by-node node codes lower h H = by-op (op_of node.op) node codes lower h H

  below-grade : (nodes : ℕ → Node) (n m H : ℕ) → grade_of (code_below nodes n m) H ≤ below p a nodes n m H
  unfolding code_below below
  below-grade nodes zero m H = le_refl _
  below-grade nodes (suc n) m H =
      go (eqb m n) _ _ _ _ (by-node (nodes n) (code_below nodes n) (below p a nodes n) (below-grade nodes n) H) (below-grade nodes n m H)
    where
      go : (b : Bool) (c d : Code) (x y : ℕ) → grade_of c H ≤ x → grade_of d H ≤ y → grade_of (cond b c d) H ≤ cond b x y
      go true c d x y h g = h
      go false c d x y h g = g

  -- a method's body has its root's table as its grades
  pub body-grade : (m H : ℕ) → grade_of (body_of p m) H ≤ root_table p a m H
  unfolding body_of code_at root_table meaning
  body-grade m H =
      by-node (node_at (method_at p m) (root_of (method_at p m))) (code_below (node_at (method_at p m)) (root_of (method_at p m)))
      (below p a (node_at (method_at p m)) (root_of (method_at p m))) (below-grade (node_at (method_at p m)) (root_of (method_at p m))) H

  -- ---- what code names

  -- a method that may be forked: it is below error where its lock 0, the thread's own, is held and no other
  pub record MayFork (m : ℕ) : Type 0 where
    pub method : m < method_count p
    pub set : 1 < entry_count p m
    pub grade : a m 1 ≤ cmpd

  -- code of a method with k names takes only locks that have names, and calls and forks only methods that there are
  abbrev pub Linked : (k : ℕ) → Code → Type 0
  Linked k nothing = Unit {0}
  Linked k (accessing writing U T0) = Unit {0}
  Linked k (in_order c d) = Linked k c × Linked k d
  Linked k (either c d) = Linked k c × Linked k d
  Linked k (again c) = Linked k c
  Linked k (locking l c) = (l < k) × Linked k c
  Linked k (whole c) = Linked k c
  Linked k (calling m Ts) = m < method_count p
  Linked k (forking m) = MayFork m

  -- the same of one node
  abbrev LinkedNode : (k : ℕ) → Op → Node → Type 0
  LinkedNode k plain_value node = Unit {0}
  LinkedNode k read node = Unit {0}
  LinkedNode k write node = Unit {0}
  LinkedNode k sequence node = Unit {0}
  LinkedNode k choice node = Unit {0}
  LinkedNode k loop node = Unit {0}
  LinkedNode k synchronised node = first_name node.names < k
  LinkedNode k assertion node = Unit {0}
  LinkedNode k call node = node.U < method_count p
  LinkedNode k fork node = MayFork node.U
  LinkedNode k no_op node = Unit {0}

  linked-op : (k : ℕ) (o : Op) (node : Node) (codes : ℕ → Code) → LinkedNode k o node → ((c : ℕ) → Linked k (codes c)) → Linked k (code_by o node codes)
  linked-op k plain_value node codes n h = tt
  linked-op k read node codes n h = (h node.X, tt)
  linked-op k write node codes n h = ((h node.X, h node.Y), tt)
  linked-op k sequence node codes n h = (h node.X, h node.Y)
  linked-op k choice node codes n h = (h node.X, (h node.Y, h node.Z))
  linked-op k loop node codes n h = (h node.X, (h node.Y, h node.X))
  linked-op k synchronised node codes n h = (n, h node.X)
  linked-op k assertion node codes n h = h node.X
  linked-op k call node codes n h = (h node.X, n)
  linked-op k fork node codes n h = (h node.X, n)
  linked-op k no_op node codes n h = tt

  linked-below : (k : ℕ) (nodes : ℕ → Node) (n : ℕ) → ((j : ℕ) → j < n → LinkedNode k (op_of (nodes j).op) (nodes j))
      → (m : ℕ) → Linked k (code_below nodes n m)
  unfolding code_below
  linked-below k nodes zero h m = tt
  linked-below k nodes (suc n) h m =
      go (eqb m n) _ _ (linked-op k (op_of (nodes n).op) (nodes n) (code_below nodes n) (h n (le_refl (suc n))) (linked-below k nodes n (λ j l. h j (omega arith))))
      (linked-below k nodes n (λ j l. h j (omega arith)) m)
    where
      go : (b : Bool) (c d : Code) → Linked k c → Linked k d → Linked k (cond b c d)
      go true c d x y = x
      go false c d x y = y

  -- ---- of a well-formed program whose constraints are satisfied

  module _ (fits : WellFormed p) (closed : ClosedMet p a) where
    first-listed : (names : List ℕ) → length names ≡ layout.names → first_name names ≡ get_or names 0 0
    unfolding first_name
    first-listed [] h = absurd (omega arith)
    first-listed (t ∷ names) h = refl

    -- kind 3 of a fork
    may-fork : (m n : ℕ) → m < method_count p → n < length (method_at p m).nodes
        → NodeFits p (method_at p m).k n (node_at (method_at p m) n) → (node_at (method_at p m) n).op ≡ 9 → MayFork (node_at (method_at p m) n).U
    may-fork m n h g node e =
        record {
          method = unfold method_count in node.method (ap uses_method e);
          set = two;
          grade = unfold named_method held in leb→le _ _ (met 1 two);
        }
      where
        two : 1 < entry_count p (node_at (method_at p m) n).U
        two = unfold entry_count entries in pow_mono (node.fork e)

        met : Met p a (forked_table m n)
        met = closed.kind3 m n h g (unfold fork_at op_of in subst (λ (x : ℕ). T (is_fork (op_of x))) (sym e) tt)

    linked-node : (m n : ℕ) → m < method_count p → n < length (method_at p m).nodes
        → LinkedNode (method_at p m).k (op_of (node_at (method_at p m) n).op) (node_at (method_at p m) n)
    linked-node m n h g = go nd.op refl
      where
        nd : Node
        nd = node_at (method_at p m) n

        node : NodeFits p (method_at p m).k n nd
        node = fits.nodes m n (unfold method_count in h) g

        go : (x : ℕ) → nd.op ≡ x → LinkedNode (method_at p m).k (op_of x) nd
        go zero e = unfold op_of in tt
        go (suc zero) e = unfold op_of in tt
        go (suc (suc zero)) e = unfold op_of in tt
        go (suc (suc (suc zero))) e = unfold op_of in tt
        go (suc (suc (suc (suc zero)))) e = unfold op_of in tt
        go (suc (suc (suc (suc (suc zero))))) e = unfold op_of in tt
        go (suc (suc (suc (suc (suc (suc zero)))))) e =
            unfold op_of in subst (λ (l : ℕ). l < (method_at p m).k) (sym (first-listed nd.names node.names)) (node.synchronised e)
        go (suc (suc (suc (suc (suc (suc (suc zero))))))) e = unfold op_of in tt
        go (suc (suc (suc (suc (suc (suc (suc (suc zero)))))))) e = unfold op_of method_count in node.method (ap uses_method e)
        go (suc (suc (suc (suc (suc (suc (suc (suc (suc zero))))))))) e = unfold op_of in may-fork m n h g node e
        go (suc (suc (suc (suc (suc (suc (suc (suc (suc (suc x)))))))))) e = unfold op_of in tt

    pub linked-body : (m : ℕ) → m < method_count p → Linked (method_at p m).k (body_of p m)
    unfolding body_of code_at
    linked-body m h =
        linked-op (method_at p m).k (op_of (node_at (method_at p m) (root_of (method_at p m))).op) (node_at (method_at p m) (root_of (method_at p m)))
        (code_below (node_at (method_at p m)) (root_of (method_at p m))) (linked-node m (root_of (method_at p m)) h root)
        (linked-below (method_at p m).k (node_at (method_at p m)) (root_of (method_at p m)) (λ j l. linked-node m j h (omega (arith, l, root))))
      where
        root : root_of (method_at p m) < length (method_at p m).nodes
        root = root_below (method_at p m) (fits.methods m (unfold method_count in h)).some_nodes
