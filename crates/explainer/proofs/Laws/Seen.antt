-- What a step looks at, part by part.
-- Assumes nothing.
use Rattle.std.specs.Prelude.{ℕ, zero, suc, ◌+◌, ◌≤◌, ◌<◌, not, min, ◌≡◌, refl, Some, None, T}
use mathlib.Core.List.{List, [], ◌∷◌, ◌++◌, map}
use Rattle.std.proofs.Common.{sym, ◌∙◌, subst, arith}
use Rattle.std.proofs.Math.Path.{ap, ap₂}
use Rattle.std.proofs.Math.ListN.{length, get_or, length-append, length-map, get_or-append}
use Rattle.std.proofs.lemmas.Option.{slice_get-get_or, slice_get_past}
use Rattle.frames.specs.Program.{Node, Program}
use Rattle.frames.specs.Ops.{op_named, number_of}
use Rattle.frames.specs.declared.ops.Op.TheVariants.{Call}
use Rattle.frames.specs.Laws.Ops.{named_number}
use Rattle.frames.specs.Ranges.{children_listed}
use Rattle.meaning.specs.Meaning.{Assignment, Op, plain_value, read, write, sequence, choice, loop, synchronised, assertion, call, fork, no_op, op_of, listed, children, Part, child, own, child_set, own_part, parts}
use Rattle.meaning.specs.Tree.{is_call}
use Rattle.solver.specs.Nodes.{no_child, child_at, listed_child, own_grade}
use Rattle.solver.specs.Laws.Engine.{op-cases, op-past, children_listed-past}
use Rattle.explainer.specs.Code.Picks.{part_at}
use Rattle.explainer.specs.Code.Places.{own_count}

-- ---- by the number of an op

pub own-none : (op : ℕ) → (op ≡ 1 → ⊥) → (op ≡ 2 → ⊥) → (op ≡ 8 → ⊥) → (op ≡ 9 → ⊥) → own_count (op_of op) ≡ 0
unfolding op_of
own-none =
    op-cases (λ n. (n ≡ 1 → ⊥) → (n ≡ 2 → ⊥) → (n ≡ 8 → ⊥) → (n ≡ 9 → ⊥) → own_count (op_of n) ≡ 0)
    (λ _ _ _ _. refl) (λ h _ _ _. absurd (h refl)) (λ _ h _ _. absurd (h refl)) (λ _ _ _ _. refl) (λ _ _ _ _. refl) (λ _ _ _ _. refl)
    (λ _ _ _ _. refl) (λ _ _ _ _. refl) (λ _ _ h _. absurd (h refl)) (λ _ _ _ h. absurd (h refl))
    (λ n g _ _ _ _. ap own_count (op-past n g))

listed-count : (X Y Z op : ℕ) → length (listed (op_of op) X Y Z) ≡ children_listed op
unfolding op_of children_listed
listed-count X Y Z =
    op-cases (λ n. length (listed (op_of n) X Y Z) ≡ children_listed n) refl refl refl refl refl refl refl refl refl refl
    (λ n g. ap (λ (o : Op). length (listed o X Y Z)) (op-past n g)
    ∙ sym (children_listed-past n g))

-- the children that a node lists are as many as its op does
pub children-count : (node : Node) → length (children node) ≡ children_listed node.op
unfolding children
children-count node = listed-count node.X node.Y node.Z node.op

-- the children by number, as many as there are
pub listed-some : (node : Node) (i : ℕ) → i < children_listed node.op → listed_child node i ≡ Some (child_at node i)
unfolding listed_child child_at
listed-some node i h = slice_get-get_or (children node) i no_child (omega (arith, children-count node))

pub listed-none : (node : Node) (i : ℕ) → children_listed node.op ≤ i → listed_child node i ≡ None
unfolding listed_child
listed-none node i h = slice_get_past (children node) i (omega (arith, children-count node))

-- only a call is op 8
pub call-number : (op : ℕ) → op_of op ≡ call → op ≡ 8
unfolding op_of
call-number =
    op-cases (λ n. op_of n ≡ call → n ≡ 8)
    (λ e. cc) (λ e. cc) (λ e. cc) (λ e. cc) (λ e. cc) (λ e. cc) (λ e. cc) (λ e. cc) (λ e. refl) (λ e. cc)
    (λ n g e. absurd (clash (sym (op-past n g) ∙ e)))
  where
    clash : no_op ≡ call → ⊥
    clash e = subst (λ (o : Op). T (not (is_call o))) e tt

pub call-named : (op : ℕ) → op_named op ≡ Call → op ≡ 8
call-named op e = sym (named_number op) ∙ ap number_of e

-- an op other than a call takes nothing from the tables
pub own-apart : (p : Program) (a a' : Assignment) (node : Node) (H op : ℕ) → (op ≡ 8 → ⊥) → own_grade p a (op_of op) node H ≡ own_grade p a' (op_of op) node H
unfolding op_of
own-apart p a a' node H =
    op-cases (λ n. (n ≡ 8 → ⊥) → own_grade p a (op_of n) node H ≡ own_grade p a' (op_of n) node H)
    (λ _. refl) (λ _. refl) (λ _. refl) (λ _. refl) (λ _. refl) (λ _. refl) (λ _. refl) (λ _. refl) (λ h. absurd (h refl)) (λ _. refl)
    (λ n g _. ap (λ (o : Op). own_grade p a o node H) (op-past n g) ∙ sym (ap (λ (o : Op). own_grade p a' o node H) (op-past n g)))

-- ---- the parts by number

-- so many own parts
abbrev owned : (count g : ℕ) → List Part
owned zero g = []
owned (suc n) g = own g ∷ []

own-parts : (p : Program) (a : Assignment) (o : Op) (node : Node) (H : ℕ) → own_part p a o node H ≡ owned (own_count o) (own_grade p a o node H)
own-parts p a plain_value node H = refl
own-parts p a read node H = refl
own-parts p a write node H = refl
own-parts p a sequence node H = refl
own-parts p a choice node H = refl
own-parts p a loop node H = refl
own-parts p a synchronised node H = refl
own-parts p a assertion node H = refl
own-parts p a call node H = refl
own-parts p a fork node H = refl
own-parts p a no_op node H = refl

owned-length : (o : Op) (g : ℕ) → length (owned (own_count o) g) ≡ own_count o
owned-length plain_value g = refl
owned-length read g = refl
owned-length write g = refl
owned-length sequence g = refl
owned-length choice g = refl
owned-length loop g = refl
owned-length synchronised g = refl
owned-length assertion g = refl
owned-length call g = refl
owned-length fork g = refl
owned-length no_op g = refl

pub own-few : (o : Op) → own_count o ≤ 1
own-few plain_value = omega arith
own-few read = omega arith
own-few write = omega arith
own-few sequence = omega arith
own-few choice = omega arith
own-few loop = omega arith
own-few synchronised = omega arith
own-few assertion = omega arith
own-few call = omega arith
own-few fork = omega arith
own-few no_op = omega arith

-- behind a list
get_or-behind : (xs ys : List Part) (d : Part) → get_or (xs ++ ys) (length xs) d ≡ get_or ys 0 d
get_or-behind [] ys d = refl
get_or-behind (x ∷ xs) ys d = get_or-behind xs ys d

get_or-mapped : (S : ℕ) (cs : List ℕ) (i : ℕ) → i < length cs → get_or (map (λ c. child c S) cs) i (own 0) ≡ child (get_or cs i no_child) S
get_or-mapped S [] i h = absurd (omega arith)
get_or-mapped S (c ∷ cs) zero h = refl
get_or-mapped S (c ∷ cs) (suc i) h = get_or-mapped S cs i (omega arith)

module _ (p : Program) (a : Assignment) (node : Node) (H : ℕ) where
  pub parts-count : length (parts p a node H) ≡ children_listed node.op + own_count (op_of node.op)
  unfolding parts
  parts-count =
      length-append (map (λ c. child c (child_set (op_of node.op) node.names H)) (children node)) (own_part p a (op_of node.op) node H)
      ∙ ap₂ {C = ℕ} (λ (x y : ℕ). x + y) (length-map (children node) (λ c. child c (child_set (op_of node.op) node.names H)) ∙ children-count node)
      (ap length (own-parts p a (op_of node.op) node H) ∙ owned-length (op_of node.op) (own_grade p a (op_of node.op) node H))

  pub part-child : (i : ℕ) → i < children_listed node.op
      → part_at (parts p a node H) i ≡ child (child_at node i) (child_set (op_of node.op) node.names H)
  unfolding parts part_at child_at
  part-child i h =
      get_or-append (map (λ c. child c (child_set (op_of node.op) node.names H)) (children node)) (own_part p a (op_of node.op) node H) (own 0) i
      (omega (arith, children-count node, length-map (children node) (λ c. child c (child_set (op_of node.op) node.names H))))
      ∙ get_or-mapped (child_set (op_of node.op) node.names H) (children node) i (omega (arith, children-count node))

  pub part-own : (i : ℕ) → children_listed node.op ≤ i → i < length (parts p a node H) → part_at (parts p a node H) i ≡ own (own_grade p a (op_of node.op) node H)
  part-own i h l =
      let there : i ≡ length (map (λ c. child c (child_set (op_of node.op) node.names H)) (children node))
      = omega (arith, parts-count, own-few (op_of node.op), children-count node, length-map (children node) (λ c. child c (child_set (op_of node.op) node.names H))) in
      let some : own_count (op_of node.op) ≡ 1 = omega (arith, parts-count, own-few (op_of node.op)) in
      ap (part_at (parts p a node H)) there ∙ behind some
    where
      behind : own_count (op_of node.op) ≡ 1
          → part_at (parts p a node H) (length (map (λ c. child c (child_set (op_of node.op) node.names H)) (children node))) ≡ own (own_grade p a (op_of node.op) node H)
      behind some =
          unfold parts part_at in
          (get_or-behind (map (λ c. child c (child_set (op_of node.op) node.names H)) (children node)) (own_part p a (op_of node.op) node H) (own 0)
          ∙ ap (λ (xs : List Part). get_or xs 0 (own 0)) (own-parts p a (op_of node.op) node H)
          ∙ ap (λ (n : ℕ). get_or (owned n (own_grade p a (op_of node.op) node H)) 0 (own 0)) some)
