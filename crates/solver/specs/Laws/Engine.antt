-- A node put together by the engine has the grade that `meaning` gives it.
-- Assumes nothing.
use Rattle.std.specs.Prelude.{ℕ, zero, suc, ◌≤◌, ◌<◌, Bool, true, false, not, cond, List, [], ◌∷◌, ◌++◌, map, ◌≡◌, ltb, eqb, get_or, Option, slice_get, unwrap_or}
use Rattle.std.proofs.Math.Path.{refl, sym, ap}
use Rattle.std.proofs.lemmas.Option.{unwrap_or-slice_get}
use Rattle.std.proofs.Common.{None, Some, ap₂, ◌∙◌, subst, arith, lt-ltb, eq-eqb, ne_eqb}
use Rattle.std.proofs.Math.Decide.{ℕ_discrete}
use Rattle.std.proofs.Math.Dec.{leb-suc-zero}
use Rattle.std.proofs.Math.ListN.{get_or-eq_default}
use Rattle.grades.specs.Grades.{const, error, compose}
use Rattle.grades.proofs.Laws.Grades.{cap-grade, compose-error, compose-const}
use Rattle.grades.specs.HeldSets.{mask_names, held, add, add_within}
use Rattle.frames.specs.Program.{Node, Program}
use Rattle.frames.specs.Ranges.{children_listed}
use Rattle.frames.specs.Laws.Ranges.{children-past}
use Rattle.frames.specs.Ops.{op_named, number_of}
use Rattle.frames.specs.Laws.Ops.{ops_past, named_number}
use Rattle.meaning.specs.Meaning.{Assignment, Op, plain_value, read, write, sequence, choice, loop, synchronised, assertion, call, fork, no_op, op_of, listed, children, child_set, own_part, parts, part_grade, child, whole, first_name, node_grade, below, meaning}
use Rattle.meaning.proofs.Laws.Meaning.{below-error, below_none}
use Rattle.solver.specs.Nodes.{meant, no_child, child_at, listed_child, own_grade, combined, mask_set}

-- ---- absent parts

none_then : (x : ℕ) → x ≤ error → compose x const ≡ x
none_then x h = compose-const x ∙ cap-grade x h

nothing : compose (compose const const) const ≡ const
nothing = none_then (compose const const) (compose-error const const) ∙ none_then const (omega arith)

-- ---- the whole, by op

module _ (p : Program) (a : Assignment) (lower : ℕ → ℕ → ℕ) (bounded : (c S : ℕ) → lower c S ≤ error)
    (none : (S : ℕ) → lower no_child S ≡ const) where
  -- a node's grade as `meaning` puts it together, its op given apart
  abbrev by_parts : Op → Node → ℕ → ℕ
  by_parts o node H =
      whole o (not (held H (first_name node.names)))
      (map (part_grade lower) (map (λ c. child c (child_set o node.names H)) (listed o node.X node.Y node.Z) ++ own_part p a o node H))

  abbrev at : Op → Node → ℕ → ℕ → ℕ
  at o node i H = lower (get_or (listed o node.X node.Y node.Z) i no_child) (child_set o node.names H)

  -- one child and an own part
  one-child : (c S own : ℕ) → compose (lower c S) own ≡ compose (compose (lower c S) (lower no_child S)) own
  one-child c S own = ap (λ (x : ℕ). compose x own) (sym (ap (compose (lower c S)) (none S) ∙ none_then (lower c S) (bounded c S)))

  by-op : (o : Op) (node : Node) (H : ℕ)
      → by_parts o node H ≡ combined o (not (held H (first_name node.names))) (at o node 0 H) (at o node 1 H) (at o node 2 H) (own_grade p a o node H)
  unfolding whole
  by-op plain_value node H = sym (ap₂ (λ (x y : ℕ). compose (compose x y) const) (none H) (none H) ∙ nothing)
  by-op read node H = one-child node.X H _
  by-op write node H = refl
  by-op sequence node H = sym (none_then _ (compose-error _ _))
  by-op choice node H = refl
  by-op loop node H = refl
  by-op synchronised node H = refl
  by-op assertion node H = refl
  by-op call node H = one-child node.X H _
  by-op fork node H = one-child node.X H _
  by-op no_op node H = refl

  pub node-combined : (node : Node) (H S : ℕ) → child_set (op_of node.op) node.names H ≡ S
      → node_grade p a lower node H
      ≡ combined (op_of node.op) (not (held H (first_name node.names))) (lower (child_at node 0) S) (lower (child_at node 1) S) (lower (child_at node 2) S)
      (own_grade p a (op_of node.op) node H)
  unfolding node_grade parts children child_at
  node-combined node H S e =
      by-op (op_of node.op) node H
      ∙ ap (λ (s : ℕ). combined (op_of node.op) (not (held H (first_name node.names))) (lower (child_at node 0) s) (lower (child_at node 1) s) (lower (child_at node 2) s)
      (own_grade p a (op_of node.op) node H)) e

-- a node's meaning, of its children's: those that are below it
pub meaning-combined : (p : Program) (a : Assignment) (nodes : ℕ → Node) (n H S : ℕ) → n ≤ no_child → child_set (op_of (nodes n).op) (nodes n).names H ≡ S
    → meaning p a nodes n H
    ≡ combined (op_of (nodes n).op) (not (held H (first_name (nodes n).names)))
    (below p a nodes n (child_at (nodes n) 0) S) (below p a nodes n (child_at (nodes n) 1) S) (below p a nodes n (child_at (nodes n) 2) S)
    (own_grade p a (op_of (nodes n).op) (nodes n) H)
unfolding meaning
meaning-combined p a nodes n H S h e =
    node-combined p a (below p a nodes n) (below-error p a nodes n) (λ s. below_none p a nodes n no_child s h) (nodes n) H S e

-- ---- ops by number

pub op-cases : (P : ℕ → Type 0) → P 0 → P 1 → P 2 → P 3 → P 4 → P 5 → P 6 → P 7 → P 8 → P 9 → ((n : ℕ) → 10 ≤ n → P n) → (op : ℕ) → P op
op-cases P p0 p1 p2 p3 p4 p5 p6 p7 p8 p9 past zero = p0
op-cases P p0 p1 p2 p3 p4 p5 p6 p7 p8 p9 past (suc zero) = p1
op-cases P p0 p1 p2 p3 p4 p5 p6 p7 p8 p9 past (suc (suc zero)) = p2
op-cases P p0 p1 p2 p3 p4 p5 p6 p7 p8 p9 past (suc (suc (suc zero))) = p3
op-cases P p0 p1 p2 p3 p4 p5 p6 p7 p8 p9 past (suc (suc (suc (suc zero)))) = p4
op-cases P p0 p1 p2 p3 p4 p5 p6 p7 p8 p9 past (suc (suc (suc (suc (suc zero))))) = p5
op-cases P p0 p1 p2 p3 p4 p5 p6 p7 p8 p9 past (suc (suc (suc (suc (suc (suc zero)))))) = p6
op-cases P p0 p1 p2 p3 p4 p5 p6 p7 p8 p9 past (suc (suc (suc (suc (suc (suc (suc zero))))))) = p7
op-cases P p0 p1 p2 p3 p4 p5 p6 p7 p8 p9 past (suc (suc (suc (suc (suc (suc (suc (suc zero)))))))) = p8
op-cases P p0 p1 p2 p3 p4 p5 p6 p7 p8 p9 past (suc (suc (suc (suc (suc (suc (suc (suc (suc zero))))))))) = p9
op-cases P p0 p1 p2 p3 p4 p5 p6 p7 p8 p9 past (suc (suc (suc (suc (suc (suc (suc (suc (suc (suc n)))))))))) =
    past (suc (suc (suc (suc (suc (suc (suc (suc (suc (suc n)))))))))) (omega arith)

pub op-past : (op : ℕ) → 10 ≤ op → op_of op ≡ no_op
unfolding op_of
op-past op h =
    get_or-eq_default (plain_value ∷ read ∷ write ∷ sequence ∷ choice ∷ loop ∷ synchronised ∷ assertion ∷ call ∷ fork ∷ []) no_op h

-- what an op over 9 comes to, by the clause for it
at-no_op : (P : Op → Type 0) → P no_op → (op : ℕ) → 10 ≤ op → P (op_of op)
at-no_op P h op g = subst P (sym (op-past op g)) h

-- the set a child is graded under, by number: only a synchronised node's differs
pub set-stays : (op : ℕ) → (op ≡ 6 → ⊥) → (names : List ℕ) (H : ℕ) → child_set (op_of op) names H ≡ H
unfolding op_of
set-stays op other names H =
    op-cases (λ n. (n ≡ 6 → ⊥) → child_set (op_of n) names H ≡ H)
    (λ _. refl) (λ _. refl) (λ _. refl) (λ _. refl) (λ _. refl) (λ _. refl) (λ h. absurd (h refl)) (λ _. refl) (λ _. refl) (λ _. refl)
    (λ n g _. at-no_op (λ (o : Op). child_set o names H ≡ H) refl n g) op other

-- an op with no part of its own
pub own-none : (p : Program) (a : Assignment) (node : Node) (H op : ℕ) → (op ≡ 1 → ⊥) → (op ≡ 2 → ⊥) → (op ≡ 8 → ⊥) → (op ≡ 9 → ⊥)
    → own_grade p a (op_of op) node H ≡ const
unfolding op_of
own-none p a node H op =
    op-cases (λ n. (n ≡ 1 → ⊥) → (n ≡ 2 → ⊥) → (n ≡ 8 → ⊥) → (n ≡ 9 → ⊥) → own_grade p a (op_of n) node H ≡ const)
    (λ _ _ _ _. refl) (λ h _ _ _. absurd (h refl)) (λ _ h _ _. absurd (h refl)) (λ _ _ _ _. refl) (λ _ _ _ _. refl) (λ _ _ _ _. refl)
    (λ _ _ _ _. refl) (λ _ _ _ _. refl) (λ _ _ h _. absurd (h refl)) (λ _ _ _ h. absurd (h refl))
    (λ n g _ _ _ _. at-no_op (λ (o : Op). own_grade p a o node H ≡ const) refl n g) op

-- the ops that only compose
pub combined-plain : (newly : Bool) (x y z own op : ℕ) → (op ≡ 4 → ⊥) → (op ≡ 5 → ⊥) → (op ≡ 6 → ⊥) → (op ≡ 7 → ⊥) → op < 10
    → combined (op_of op) newly x y z own ≡ compose (compose x y) own
unfolding op_of
combined-plain newly x y z own op =
    op-cases (λ n. (n ≡ 4 → ⊥) → (n ≡ 5 → ⊥) → (n ≡ 6 → ⊥) → (n ≡ 7 → ⊥) → n < 10 → combined (op_of n) newly x y z own ≡ compose (compose x y) own)
    (λ _ _ _ _ _. refl) (λ _ _ _ _ _. refl) (λ _ _ _ _ _. refl) (λ _ _ _ _ _. refl) (λ h _ _ _ _. absurd (h refl)) (λ _ h _ _ _. absurd (h refl))
    (λ _ _ h _ _. absurd (h refl)) (λ _ _ _ h _. absurd (h refl)) (λ _ _ _ _ _. refl) (λ _ _ _ _ _. refl)
    (λ n g _ _ _ _ l. absurd (omega arith)) op

pub combined-past : (newly : Bool) (x y z own op : ℕ) → 10 ≤ op → combined (op_of op) newly x y z own ≡ error
combined-past newly x y z own op g = at-no_op (λ (o : Op). combined o newly x y z own ≡ error) refl op g

-- an op by its name is the op by its number
pub meant_named : (op : ℕ) → meant (op_named op) ≡ op_of op
unfolding op_named op_of
meant_named =
    op-cases (λ n. meant (op_named n) ≡ op_of n) refl refl refl refl refl refl refl refl refl refl
    (λ n g. ap meant (ops_past n g) ∙ sym (op-past n g))

-- only op 6 is synchronised
pub six_named : (op : ℕ) → eqb (number_of (op_named op)) 6 ≡ eqb op 6
six_named op = ap (λ (n : ℕ). eqb n 6) (named_number op)

pub mask_named : (op name H : ℕ) → mask_set (number_of (op_named op)) name H ≡ mask_set op name H
mask_named op name H = ap (λ (n : ℕ). mask_set n name H) (named_number op)

-- the children that an op lists, by number
pub children_listed-past : (op : ℕ) → 10 ≤ op → children_listed op ≡ 0
children_listed-past = children-past

-- child i, of three, if the op lists so many
abbrev pub ListsAt : (X Y Z i op : ℕ) → Type 0
ListsAt X Y Z i op =
    slice_get (listed (op_of op) X Y Z) i ≡ cond (ltb i (children_listed op)) (slice_get (X ∷ Y ∷ Z ∷ []) i) None

lists-past : (X Y Z i op : ℕ) → 10 ≤ op → ListsAt X Y Z i op
lists-past X Y Z i op h =
    ap (λ (o : Op). slice_get (listed o X Y Z) i) (op-past op h)
    ∙ ap (λ (b : Bool). cond b (slice_get (X ∷ Y ∷ Z ∷ []) i) None) (sym (ap (ltb i) (children_listed-past op h) ∙ leb-suc-zero i))

pub child-first : (node : Node) → listed_child node 0 ≡ cond (ltb 0 (children_listed node.op)) (Some node.X) None
unfolding listed_child children op_of children_listed
child-first node =
    op-cases (ListsAt node.X node.Y node.Z 0) refl refl refl refl refl refl refl refl refl refl (lists-past node.X node.Y node.Z 0) node.op

pub child-second : (node : Node) → listed_child node 1 ≡ cond (ltb 1 (children_listed node.op)) (Some node.Y) None
unfolding listed_child children op_of children_listed
child-second node =
    op-cases (ListsAt node.X node.Y node.Z 1) refl refl refl refl refl refl refl refl refl refl (lists-past node.X node.Y node.Z 1) node.op

pub child-third : (node : Node) → listed_child node 2 ≡ cond (ltb 2 (children_listed node.op)) (Some node.Z) None
unfolding listed_child children op_of children_listed
child-third node =
    op-cases (ListsAt node.X node.Y node.Z 2) refl refl refl refl refl refl refl refl refl refl (lists-past node.X node.Y node.Z 2) node.op

-- the same by the number that stands for a child: `no_child` where the op lists fewer
abbrev pub ListsNumberAt : (X Y Z i op : ℕ) → Type 0
ListsNumberAt X Y Z i op =
    get_or (listed (op_of op) X Y Z) i no_child ≡ cond (ltb i (children_listed op)) (get_or (X ∷ Y ∷ Z ∷ []) i no_child) no_child

lists_number-past : (X Y Z i op : ℕ) → 10 ≤ op → ListsNumberAt X Y Z i op
lists_number-past X Y Z i op h =
    ap (λ (o : Op). get_or (listed o X Y Z) i no_child) (op-past op h)
    ∙ ap (λ (b : Bool). cond b (get_or (X ∷ Y ∷ Z ∷ []) i no_child) no_child) (sym (ap (ltb i) (children_listed-past op h) ∙ leb-suc-zero i))

pub lists-first : (X Y Z op : ℕ) → ListsNumberAt X Y Z 0 op
unfolding op_of children_listed
lists-first X Y Z = op-cases (ListsNumberAt X Y Z 0) refl refl refl refl refl refl refl refl refl refl (lists_number-past X Y Z 0)

pub lists-second : (X Y Z op : ℕ) → ListsNumberAt X Y Z 1 op
unfolding op_of children_listed
lists-second X Y Z = op-cases (ListsNumberAt X Y Z 1) refl refl refl refl refl refl refl refl refl refl (lists_number-past X Y Z 1)

pub lists-third : (X Y Z op : ℕ) → ListsNumberAt X Y Z 2 op
unfolding op_of children_listed
lists-third X Y Z = op-cases (ListsNumberAt X Y Z 2) refl refl refl refl refl refl refl refl refl refl (lists_number-past X Y Z 2)

pub child_number-first : (node : Node) → child_at node 0 ≡ cond (ltb 0 (children_listed node.op)) node.X no_child
unfolding child_at children
child_number-first node = lists-first node.X node.Y node.Z node.op

pub child_number-second : (node : Node) → child_at node 1 ≡ cond (ltb 1 (children_listed node.op)) node.Y no_child
unfolding child_at children
child_number-second node = lists-second node.X node.Y node.Z node.op

pub child_number-third : (node : Node) → child_at node 2 ≡ cond (ltb 2 (children_listed node.op)) node.Z no_child
unfolding child_at children
child_number-third node = lists-third node.X node.Y node.Z node.op

-- a child that is listed, and one that is not
pub cond_yes : (b : Bool) (x y : ℕ) → b ≡ true → cond b x y ≡ x
cond_yes b x y e = ap (λ (c : Bool). cond c x y) e

pub cond_no : (b : Bool) (x y : ℕ) → b ≡ false → cond b x y ≡ y
cond_no b x y e = ap (λ (c : Bool). cond c x y) e

-- the number that stands for a child, listed or not
pub child-or : (node : Node) (i : ℕ) → unwrap_or (listed_child node i) no_child ≡ child_at node i
unfolding listed_child child_at
child-or node i = unwrap_or-slice_get (children node) i no_child

-- a node's meaning, from its parts one by one
pub assembled : (p : Program) (a : Assignment) (nodes : ℕ → Node) (n H under own va vb vc r : ℕ) (x y z : Option ℕ) (o : Op) (newly : Bool) → n ≤ no_child
    → o ≡ op_of (nodes n).op → newly ≡ not (held H (first_name (nodes n).names)) → under ≡ child_set (op_of (nodes n).op) (nodes n).names H
    → x ≡ listed_child (nodes n) 0 → y ≡ listed_child (nodes n) 1 → z ≡ listed_child (nodes n) 2 → own ≡ own_grade p a (op_of (nodes n).op) (nodes n) H
    → va ≡ below p a nodes n (unwrap_or x no_child) under → vb ≡ below p a nodes n (unwrap_or y no_child) under → vc ≡ below p a nodes n (unwrap_or z no_child) under
    → r ≡ combined o newly va vb vc own → r ≡ meaning p a nodes n H
assembled p a nodes n H under own va vb vc r x y z o newly few eo enewly eunder ex ey ez eown ea eb ec er =
    let child : (i : ℕ) (c : Option ℕ) → c ≡ listed_child (nodes n) i → below p a nodes n (unwrap_or c no_child) under ≡ below p a nodes n (child_at (nodes n) i) under
    = λ i c e. ap (λ (k : ℕ). below p a nodes n k under) (ap (λ (d : Option ℕ). unwrap_or d no_child) e ∙ child-or (nodes n) i) in
    er
    ∙ ap₂ (λ (q : Op) (b : Bool). combined q b va vb vc own) eo enewly
    ∙ ap₂ (λ (i j : ℕ). combined (op_of (nodes n).op) (not (held H (first_name (nodes n).names))) i j vc own) (ea ∙ child 0 x ex) (eb ∙ child 1 y ey)
    ∙ ap₂
    (λ (i j : ℕ). combined (op_of (nodes n).op) (not (held H (first_name (nodes n).names))) (below p a nodes n (child_at (nodes n) 0) under)
    (below p a nodes n (child_at (nodes n) 1) under) i j)
    (ec ∙ child 2 z ez) eown
    ∙ sym (meaning-combined p a nodes n H under few (sym eunder))

-- a mask has a bit for every lock that is taken, so what stands in it is the set that `meaning` has
pub mask-set : (op : ℕ) (names : List ℕ) (H : ℕ) → (op ≡ 6 → first_name names < mask_names) → mask_set op (first_name names) H ≡ child_set (op_of op) names H
unfolding mask_set add_within op_of
mask-set op names H fits = go (ℕ_discrete op 6)
  where
    go : Dec (op ≡ 6) → cond (eqb op 6) (cond (ltb (first_name names) mask_names) (add H (first_name names)) H) H ≡ child_set (op_of op) names H
    go (yes six) = rw (eq-eqb op 6 six) (rw (lt-ltb (first_name names) mask_names (fits six)) (ap (λ (n : ℕ). child_set (op_of n) names H) (sym six)))
    go (no other) = rw (ne_eqb op 6 other) (sym (set-stays op other names H))
