-- "a node is named as a child at most once, so that each method is a set of trees": so it is in every program that a text gives. In a set of
-- trees the tree of the root has no node in common with that of another unnamed node.
-- Assumes nothing.
use Prim.Native.Nat.{ℕ, zero, suc, pred, ◌<◌}
use Rattle.std.specs.Prelude.{Bool, true, false, ◌||◌, List, [], ◌∷◌, ◌⊎◌, ◌≡◌, refl, T, eqb, take}
use Rattle.std.proofs.Common.{inl, inr, sym, ap, ◌∙◌, eq-eqb}
use Rattle.std.proofs.Math.Path.{subst}
use Rattle.std.proofs.Math.Nat.{not-suc-le-zero}
use native.Mathlib.Omega.{arith}
use Rattle.std.proofs.Math.Decide.{dec_lt}
use Rattle.std.proofs.Math.ListN.{length, get_or-eq_default, get_or-map}
use Rattle.counting.specs.Counting.{member}
use Rattle.frames.specs.Links.{naming}
use Rattle.frames.specs.Program.{Node, Method, Program, plain_node, no_method, method_at, node_at}
use Rattle.frames.specs.Ranges.{children_listed}
use Rattle.frames.specs.WellFormed.{children_in, named_in, Once, WellFormed}
use Rattle.meaning.specs.Meaning.{root_of, Op, plain_value, read, write, sequence, choice, loop, synchronised, assertion, call, fork, no_op, op_of, listed, children}
use Rattle.meaning.specs.Tree.{Among, InTree, itself, inside}
use Rattle.meaning.specs.Unnamed.{Names, Unnamed, Aside}

-- children are below their nodes, and a node is named by one node at most
record SetOfTrees (nodes : ℕ → Node) : Type 0 where
  below : (i c : ℕ) → Names nodes i c → c < i
  once : (i i' c : ℕ) → Names nodes i c → Names nodes i' c → i ≡ i'

-- ---- the children of a body's nodes, none of which stands twice in the list of them all

-- the children that reading looks at are those that a meaning looks at
children-read : (node : Node) → children node ≡ children_in node
unfolding children children_in op_of children_listed
children-read node =
    sym
    (get_or-map (λ (o : Op). listed o node.X node.Y node.Z)
    (plain_value ∷ read ∷ write ∷ sequence ∷ choice ∷ loop ∷ synchronised ∷ assertion ∷ call ∷ fork ∷ []) node.op no_op)
    ∙ get_or-map (λ (n : ℕ). take n (node.X ∷ node.Y ∷ node.Z ∷ []))
    (0 ∷ 1 ∷ 2 ∷ 2 ∷ 3 ∷ 2 ∷ 1 ∷ 1 ∷ 1 ∷ 1 ∷ []) node.op 0

member-among : (c : ℕ) (cs : List ℕ) → Among c cs → member c cs ≡ true
unfolding member
member-among c [] m = absurd m
member-among c (d ∷ ds) (inl e) = ap (λ (b : Bool). b || member c ds) (eq-eqb c d e)
member-among c (d ∷ ds) (inr m) = later (eqb c d) (member-among c ds m)
  where
    later : (b : Bool) → member c ds ≡ true → (b || member c ds) ≡ true
    later true e = refl
    later false e = e

among-before : (xs cs : List ℕ) (c : ℕ) → Among c xs → Among c (naming xs cs)
unfolding naming
among-before xs [] c m = m
among-before xs (d ∷ ds) c m = among-before (d ∷ xs) ds c (inr m)

among-new : (xs cs : List ℕ) (c : ℕ) → Among c cs → Among c (naming xs cs)
unfolding naming
among-new xs [] c m = absurd m
among-new xs (d ∷ ds) c (inl e) = among-before (d ∷ xs) ds c (inl e)
among-new xs (d ∷ ds) c (inr m) = among-new (d ∷ xs) ds c m

once-before : (xs cs : List ℕ) → Once (naming xs cs) → Once xs
unfolding naming
once-before xs [] o = o
once-before xs (c ∷ cs) o = (once-before (c ∷ xs) cs o).1

-- what is named was not named before
once-new : (xs cs : List ℕ) → Once (naming xs cs) → (c : ℕ) → Among c cs → Among c xs → ⊥
unfolding naming
once-new xs [] o c m t = absurd m
once-new xs (d ∷ ds) o c (inl e) t =
    subst T (sym (member-among d xs (subst (λ (x : ℕ). Among x xs) e t)) ∙ (once-before (d ∷ xs) ds o).0) tt
once-new xs (d ∷ ds) o c (inr m) t = once-new (d ∷ xs) ds o c m (inr t)

module _ (nodes : ℕ → Node) where
  among-named : (n i c : ℕ) → i < n → Among c (children_in (nodes i)) → Among c (named_in nodes n)
  unfolding named_in
  among-named zero i c h m = absurd (not-suc-le-zero h)
  among-named (suc n) i c h m = go (dec_lt i n) (λ l. among-named n i c l m)
    where
      go : Dec (i < n) → (i < n → Among c (named_in nodes n)) → Among c (naming (named_in nodes n) (children_in (nodes n)))
      go (yes l) earlier = among-before (named_in nodes n) (children_in (nodes n)) c (earlier l)
      go (no l) earlier =
          let last : i ≡ n = omega arith in
          among-new (named_in nodes n) (children_in (nodes n)) c (subst (λ (x : ℕ). Among c (children_in (nodes x))) last m)

  -- no later node names it again
  named_again : (n : ℕ) → Once (named_in nodes n) → (i i' c : ℕ) → i < i' → i' < n
      → Among c (children_in (nodes i)) → Among c (children_in (nodes i')) → ⊥
  unfolding named_in
  named_again zero o i i' c l h m m' = not-suc-le-zero h
  named_again (suc n) o i i' c l h m m' =
      go (dec_lt i' n) (λ k. named_again n (once-before (named_in nodes n) (children_in (nodes n)) o) i i' c l k m m')
    where
      go : Dec (i' < n) → (i' < n → ⊥) → ⊥
      go (yes k) earlier = earlier k
      go (no k) earlier =
          let last : i' ≡ n = omega arith in
          once-new (named_in nodes n) (children_in (nodes n)) o c (subst (λ (x : ℕ). Among c (children_in (nodes x))) last m')
          (among-named n i c (omega arith) m)

-- ---- every method of a program that a text gives

-- past a method's nodes, and in a method that the program lacks, nothing is named
names-within : (method : Method) (i c : ℕ) → Names (node_at method) i c → i < length method.nodes
unfolding node_at
names-within method i c m = go (dec_lt i (length method.nodes))
  where
    none : Among c (children plain_node) → ⊥
    none x = unfold children op_of plain_node in x

    go : Dec (i < length method.nodes) → i < length method.nodes
    go (yes l) = l
    go (no l) =
        absurd (none (subst (λ (node : Node). Among c (children node)) (get_or-eq_default method.nodes plain_node {n = i} (omega arith)) m))

module _ (p : Program) (w : WellFormed p) (m : ℕ) where
  names-method : (i c : ℕ) → Names (node_at (method_at p m)) i c → m < length p.methods
  unfolding method_at no_method
  names-method i c x = go (dec_lt m (length p.methods))
    where
      go : Dec (m < length p.methods) → m < length p.methods
      go (yes l) = l
      go (no l) =
          let lacking : method_at p m ≡ no_method = get_or-eq_default p.methods no_method {n = m} (omega arith) in
          let none : i < 0 = subst (λ (y : Method). i < length y.nodes) lacking (names-within (method_at p m) i c x) in
          absurd (not-suc-le-zero none)

  read_names : (i c : ℕ) → Names (node_at (method_at p m)) i c → Among c (children_in (node_at (method_at p m) i))
  read_names i c x = subst (Among c) (children-read (node_at (method_at p m) i)) x

  well-formed-trees : SetOfTrees (node_at (method_at p m))
  unfolding method_at node_at no_method plain_node
  well-formed-trees =
      record {
        below = λ i c x.
            (w.nodes m i (names-method i c x) (names-within (method_at p m) i c x)).below c
            (member-among c (children_in (node_at (method_at p m) i)) (read_names i c x));
        once = λ i i' c x x'. one i i' c x x' (dec_lt i i') (dec_lt i' i);
      }
    where
      again : (i i' c : ℕ) → Names (node_at (method_at p m)) i c → Names (node_at (method_at p m)) i' c → i < i' → ⊥
      again i i' c x x' l =
          named_again (node_at (method_at p m)) (length (method_at p m).nodes) (w.once m (names-method i c x)) i i' c l
          (names-within (method_at p m) i' c x') (read_names i c x) (read_names i' c x')

      one : (i i' c : ℕ) → Names (node_at (method_at p m)) i c → Names (node_at (method_at p m)) i' c → Dec (i < i') → Dec (i' < i) → i ≡ i'
      one i i' c x x' (yes l) d = absurd (again i i' c x x' l)
      one i i' c x x' (no l) (yes k) = absurd (again i' i c x' x k)
      one i i' c x x' (no l) (no k) = omega arith

-- in a program that a text gives children are below their nodes
pub child-below : (p : Program) → WellFormed p → (m i c : ℕ) → Names (node_at (method_at p m)) i c → c < i
child-below p w m i c x = (well-formed-trees p w m).below i c x

-- ---- two trees

module _ (nodes : ℕ → Node) where
  -- a node of n's tree is n itself, or a node of the tree names it
  by-whom : (n j : ℕ) → InTree nodes n j → (j ≡ n) ⊎ ((i : ℕ) × InTree nodes n i × Names nodes i j)
  by-whom n j itself = inl refl
  by-whom n j (inside {c = c} m t) = go (by-whom c j t)
    where
      go : (j ≡ c) ⊎ ((i : ℕ) × InTree nodes c i × Names nodes i j) → (j ≡ n) ⊎ ((i : ℕ) × InTree nodes n i × Names nodes i j)
      go (inl e) = inr (n, itself, subst (λ (x : ℕ). Names nodes n x) (sym e) m)
      go (inr w) = inr (w.0, inside m w.1, w.2)

  -- an unnamed node lies in no tree but its own
  only-itself : (n u : ℕ) → Unnamed nodes u → InTree nodes n u → u ≡ n
  only-itself n u unnamed t = go (by-whom n u t)
    where
      go : (u ≡ n) ⊎ ((i : ℕ) × InTree nodes n i × Names nodes i u) → u ≡ n
      go (inl e) = e
      go (inr w) = absurd (unnamed w.0 w.2)

  -- of two trees with a node in common one lies in the other
  one-in-other : SetOfTrees nodes → (n u j : ℕ) → InTree nodes n j → InTree nodes u j → InTree nodes n u ⊎ InTree nodes u n
  one-in-other trees n u j s itself = inl s
  one-in-other trees n u j s (inside {c = c} m t) = go (one-in-other trees n c j s t)
    where
      named : (c ≡ n) ⊎ ((i : ℕ) × InTree nodes n i × Names nodes i c) → InTree nodes n u ⊎ InTree nodes u n
      named (inl e) = inr (inside (subst (λ (x : ℕ). Names nodes u x) e m) itself)
      named (inr w) = inl (subst (InTree nodes n) (trees.once w.0 u c w.2 m) w.1)

      go : InTree nodes n c ⊎ InTree nodes c n → InTree nodes n u ⊎ InTree nodes u n
      go (inl r) = named (by-whom n c r)
      go (inr r) = inr (inside m r)

-- nothing names a method's root
root-unnamed : (method : Method) → SetOfTrees (node_at method) → Unnamed (node_at method) (root_of method)
unfolding root_of
root-unnamed method trees i m =
    over (length method.nodes) (trees.below i (pred (length method.nodes)) m) (names-within method i (pred (length method.nodes)) m)
  where
    over : (l : ℕ) → pred l < i → i < l → ⊥
    over l h k = omega arith

-- no node of the root's tree stands aside
pub none-aside : (p : Program) → WellFormed p → (m j : ℕ) → InTree (node_at (method_at p m)) (root_of (method_at p m)) j → Aside (method_at p m) j → ⊥
none-aside p w m j t a = go (one-in-other (node_at (method_at p m)) trees (root_of (method_at p m)) a.top j t a.under)
  where
    trees : SetOfTrees (node_at (method_at p m))
    trees = well-formed-trees p w m

    go : InTree (node_at (method_at p m)) (root_of (method_at p m)) a.top ⊎ InTree (node_at (method_at p m)) a.top (root_of (method_at p m)) → ⊥
    go (inl r) = a.not_root (only-itself (node_at (method_at p m)) (root_of (method_at p m)) a.top a.unnamed r)
    go (inr r) =
        a.not_root (sym (only-itself (node_at (method_at p m)) a.top (root_of (method_at p m)) (root-unnamed (method_at p m) trees) r))
