-- The turn at a place, case by case: which part the step goes on to or ends at, how its grade accounts for the whole's, and that in any other tables
-- the whole is nowhere below that part.
-- Assumes nothing.
use Prim.Native.Nat.{ℕ, suc, ◌+◌, ◌≤◌, ◌<◌}
use Rattle.std.specs.Prelude.{Bool, not, cond, List, [], ◌∷◌, ◌++◌, map, ◌≡◌, eqb, length, get_or, take}
use Rattle.std.proofs.Math.Bool.{true, false}
use Rattle.std.proofs.Common.{inl, inr, ◌∙◌, eqb→eq, T_not}
use Rattle.std.proofs.Math.Path.{refl, sym, ap, subst}
use Rattle.std.proofs.Math.Nat.{le_trans}
use native.Mathlib.Omega.{arith}
use Rattle.std.proofs.Math.Decide.{dec_lt, ℕ_discrete}
use Rattle.std.proofs.Math.Dec.{T}
use Rattle.counting.specs.Counting.{every, member, All}
use Rattle.counting.specs.Laws.Counting.{every-at, all_right}
use Rattle.grades.specs.Grades.{const, atomic, cmpd, error, cap, compose, lock_taken, assert_atomic}
use Rattle.grades.proofs.Laws.Grades.{cap-grade, cap-grows, cap-le, compose-const, compose-error, compose-above-first, compose-above-second, closure-above, closure-error, join-above-first, join-above-second, join-error, assert-stays, assert-grows, lock_taken-above, lock_taken-atomic}
use Rattle.grades.proofs.Laws.Access.{access-error}
use Rattle.grades.specs.HeldSets.{entries, held, add}
use Rattle.grades.proofs.Laws.HeldSets.{add-below}
use Rattle.frames.specs.Program.{Node, Program, field_at, method_at, node_at}
use Rattle.frames.specs.Ranges.{uses_method}
use Rattle.frames.specs.WellFormed.{NodeFits, WellFormed}
use Rattle.meaning.specs.Meaning.{Assignment, Op, plain_value, read, write, sequence, choice, loop, synchronised, assertion, call, fork, no_op, op_of, listed, children, first_name, field_access, matching, callee_entry, Part, child, own, child_set, own_part, parts, part_grade, whole, node_grade, below, meaning}
use Rattle.meaning.specs.Tree.{Among, is_call, all_among}
use Rattle.meaning.specs.Lowest.{method_count, entry_count, is_declared, rounds}
use Rattle.meaning.specs.Constraints.{Entry}
use Rattle.meaning.proofs.Laws.Meaning.{below-error, below-meaning}
use Rattle.meaning.proofs.Laws.Tree.{child-below}
use Rattle.reasons.specs.Steps.{Place, tables_before, node_here, grade_at, parts_at, part_grade_at, Pick, picked, none, pick_of, pick_at, callee_set, callee_place, ends, goes_on, Turn, end_rule, call_turn, own_turn, turn_by, turn_at}
use Rattle.reasons.specs.Reason.{Accounts, equal, twice}
use Rattle.reasons.proofs.Laws.Rises.{entry-grade}
use Rattle.reasons.proofs.Laws.Picks.{Firsts, Atomics, accounted, pick-cases, compose-accounted, loop-accounted, twice-accounted, choice-accounted, lock-unaccounted, assert-unaccounted, self-accounted}
use Rattle.reasons.proofs.Laws.Calls.{largest-most, largest-least, callee-set}

-- ---- what is said of a turn

-- a place that the program has
pub record PlaceFits (p : Program) (at : Place) : Type 0 where
  pub method : at.method < method_count p
  pub node : at.node < length (method_at p at.method).nodes
  pub set : at.set < entry_count p at.method
  pub round : 1 ≤ at.round
  pub no_later : at.round ≤ suc (rounds p)

-- the nodes of a place's method
abbrev pub body_at : Program → Place → ℕ → Node
body_at p at = node_at (method_at p at.method)

-- the grade of a place's node in other tables
abbrev pub grade_under : Program → Assignment → Place → ℕ
grade_under p b at = meaning p b (body_at p at) at.node at.set

-- the place of a child
abbrev pub child_place : Place → (n S : ℕ) → Place
child_place at n S = record { method = at.method; node = n; set = S; round = at.round }

-- the callee's set
abbrev pub set_called : Program → Place → (grade : ℕ) → ℕ
set_called p at g = callee_set p (tables_before p at.round) (node_here p at) at.set g

-- the access at a place
abbrev pub access_at : Program → Place → (writing : Bool) → ℕ
access_at p at writing = field_access (field_at p (node_here p at).U) writing (node_here p at).names at.set

-- a call's own part g is the callee's entry at its set
pub record Called (p : Program) (at : Place) (g : ℕ) : Type 0 where
  pub entry : Entry p (node_here p at).U (set_called p at g)
  pub has : tables_before p at.round (node_here p at).U (set_called p at g) ≡ g
  pub some : 1 ≤ g
  pub carries : (b : Assignment) → cap (b (node_here p at).U (set_called p at g)) ≤ grade_under p b at

pub data TurnIs (p : Program) (at : Place) : Turn → Type 0 where
  plain : op_of (node_here p at).op ≡ plain_value → grade_at p at ≡ const → TurnIs p at (record { rule = 0; next = ends })
  to_child : (n S added : ℕ) → n < at.node → S < entry_count p at.method
      → ((b : Assignment) → grade_under p b (child_place at n S) ≤ grade_under p b at)
      → Accounts (grade_at p at) (grade_at p (child_place at n S)) added
      → TurnIs p at (record { rule = 1 + added; next = goes_on (child_place at n S) })
  to_callee : (g added : ℕ) → op_of (node_here p at).op ≡ call → T (not (is_declared p (node_here p at).U)) → Called p at g → Accounts (grade_at p at) g added
      → TurnIs p at (record { rule = 2 + added; next = goes_on (callee_place p at g) })
  at_access : (writing : Bool) (added : ℕ) → op_of (node_here p at).op ≡ cond writing write read
      → ((b : Assignment) → access_at p at writing ≤ grade_under p b at) → Accounts (grade_at p at) (access_at p at writing) added
      → TurnIs p at (record { rule = 3 + added; next = ends })
  at_fork : (added : ℕ) → op_of (node_here p at).op ≡ fork → ((b : Assignment) → atomic ≤ grade_under p b at) → Accounts (grade_at p at) atomic added
      → TurnIs p at (record { rule = 4 + added; next = ends })
  at_lock : op_of (node_here p at).op ≡ synchronised → T (not (held at.set (first_name (node_here p at).names)))
      → grade_at p (child_place at (node_here p at).X (add at.set (first_name (node_here p at).names))) < atomic
      → ((b : Assignment) → atomic ≤ grade_under p b at) → grade_at p at ≡ atomic
      → TurnIs p at (record { rule = 5; next = ends })
  at_assert : op_of (node_here p at).op ≡ assertion → grade_at p (child_place at (node_here p at).X at.set) ≡ cmpd
      → ((b : Assignment) → cmpd ≤ grade_under p b (child_place at (node_here p at).X at.set) → error ≤ grade_under p b at) → grade_at p at ≡ error
      → TurnIs p at (record { rule = 6; next = ends })
  at_declared : (g added : ℕ) → op_of (node_here p at).op ≡ call → T (is_declared p (node_here p at).U) → Called p at g → Accounts (grade_at p at) g added
      → TurnIs p at (record { rule = 7 + added; next = ends })

-- ---- a node by its op

abbrev parts_by : Program → Assignment → Op → Node → ℕ → List Part
parts_by p b o node H = map (λ c. child c (child_set o node.names H)) (listed o node.X node.Y node.Z) ++ own_part p b o node H

abbrev grade_by : Program → Assignment → (ℕ → ℕ → ℕ) → Op → Node → ℕ → ℕ
grade_by p b lower o node H = whole o (not (held H (first_name node.names))) (map (part_grade lower) (parts_by p b o node H))

-- the number of an op
abbrev number_of : Op → ℕ
number_of plain_value = 0
number_of read = 1
number_of write = 2
number_of sequence = 3
number_of choice = 4
number_of loop = 5
number_of synchronised = 6
number_of assertion = 7
number_of call = 8
number_of fork = 9
number_of no_op = 10

op-number : (n : ℕ) → n ≤ 9 → number_of (op_of n) ≡ n
op-number n h = eqb→eq (number_of (op_of n)) n (every-at 10 (λ i. eqb (number_of (op_of i)) i) all n (omega arith))
  where
    all : T (every 10 (λ i. eqb (number_of (op_of i)) i))
    all = unfold every op_of in tt

-- the whole is nowhere below a part
above : (x y : ℕ) → x ≤ error → cap x ≤ y → x ≤ y
above x y h k = subst (λ (z : ℕ). z ≤ y) (cap-grade x h) k

assert-cmpd : assert_atomic cmpd ≡ error
unfolding assert_atomic cap
assert-cmpd = refl

assert-above : (x : ℕ) → cap x ≤ assert_atomic x
assert-above x = go (ℕ_discrete x cmpd)
  where
    go : Dec (x ≡ cmpd) → cap x ≤ assert_atomic x
    go (yes e) = omega (arith, cap-le x, ap assert_atomic e, assert-cmpd)
    go (no m) = omega (arith, assert-stays x m)

lock-least : (x : ℕ) → atomic ≤ lock_taken x
lock-least x = go (dec_lt x atomic)
  where
    go : Dec (x < atomic) → atomic ≤ lock_taken x
    go (yes l) = omega (arith, lock_taken-atomic x l)
    go (no l) = le_trans (lock-cap (omega arith)) (lock_taken-above x)
      where
        lock-cap : atomic ≤ x → atomic ≤ cap x
        lock-cap h = unfold cap in omega arith

carries : (p : Program) (b : Assignment) (lower : ℕ → ℕ → ℕ) (o : Op) (node : Node) (H : ℕ)
    → All (λ x. cap (part_grade lower x) ≤ grade_by p b lower o node H) (parts_by p b o node H)
unfolding whole
carries p b l plain_value node H = tt
carries p b l read node H = (compose-above-first _ _, (compose-above-second _ _, tt))
carries p b l write node H = (
  le_trans (compose-above-first _ _) (above _ _ (compose-error _ _) (compose-above-first _ _)),
  (
    le_trans (compose-above-second _ _) (above _ _ (compose-error _ _) (compose-above-first _ _)),
    (compose-above-second _ _, tt),
  ),
)
carries p b l sequence node H = (compose-above-first _ _, (compose-above-second _ _, tt))
carries p b l choice node H = (
  compose-above-first _ _,
  (
    le_trans (join-above-first _ _) (above _ _ (join-error _ _) (compose-above-second _ _)),
    (le_trans (join-above-second _ _) (above _ _ (join-error _ _) (compose-above-second _ _)), tt),
  ),
)
carries p b l loop node H = (
  compose-above-first _ _,
  (
    le_trans (compose-above-first _ _)
        (le_trans (above _ _ (compose-error _ _) (closure-above _)) (above _ _ (closure-error _) (compose-above-second _ _))),
    tt,
  ),
)
carries p b l synchronised node H = (locked (not (held H (first_name node.names))) _, tt)
  where
    locked : (newly : Bool) (x : ℕ) → cap x ≤ cond newly (lock_taken x) x
    locked true x = lock_taken-above x
    locked false x = cap-le x
carries p b l assertion node H = (assert-above _, tt)
carries p b l call node H = (compose-above-first _ _, (compose-above-second _ _, tt))
carries p b l fork node H = (compose-above-first _ _, (compose-above-second _ _, tt))
carries p b l no_op node H = tt

-- the children first, then the node's own part
children-firsts : (P : Pick → Type 0) (grade : Part → ℕ) (w S : ℕ) (cs : List ℕ) (rest : List Part)
    → All (λ c. grade (child c S) ≡ w → P (picked (child c S) 0)) cs
    → (All (λ c. grade (child c S) ≡ w → ⊥) cs → Firsts P grade w rest)
    → Firsts P grade w (map (λ c. child c S) cs ++ rest)
children-firsts P grade w S [] rest h k = k tt
children-firsts P grade w S (c ∷ cs) rest h k = (h.0, λ m. children-firsts P grade w S cs rest h.1 (λ l. k (m, l)))

children-atomics : (P : Pick → Type 0) (grade : Part → ℕ) (S : ℕ) (cs : List ℕ) (rest : List Part)
    → All (λ c. grade (child c S) ≡ atomic → P (picked (child c S) 8)) cs → Atomics P grade rest
    → Atomics P grade (map (λ c. child c S) cs ++ rest)
children-atomics P grade S [] rest h k = k
children-atomics P grade S (c ∷ cs) rest h k = (h.0, children-atomics P grade S cs rest h.1 k)

-- each part that accounts for the whole, in their order; c asks that it is over 0
all_firsts : (P : Pick → Type 0) (grade : Part → ℕ) (w : ℕ) (c : Bool) (xs : List Part)
    → All (λ x. (T c → 1 ≤ grade x) → Accounts w (grade x) 0 → P (picked x 0)) xs → (T c → All (λ x. grade x ≡ w → 1 ≤ grade x) xs)
    → Firsts P grade w xs
all_firsts P grade w c [] h k = tt
all_firsts P grade w c (x ∷ xs) h k = (λ q. h.0 (λ t. (k t).0 q) (equal q), λ m. all_firsts P grade w c xs h.1 (λ t. (k t).1))

all-atomics : (P : Pick → Type 0) (grade : Part → ℕ) (w : ℕ) (c : Bool) (xs : List Part)
    → All (λ x. (T c → 1 ≤ grade x) → Accounts w (grade x) 8 → P (picked x 8)) xs → w ≡ cmpd → Atomics P grade xs
all-atomics P grade w c [] h e = tt
all-atomics P grade w c (x ∷ xs) h e = (λ q. h.0 (λ t. omega arith) (twice e q), all-atomics P grade w c xs h.1 e)

-- what holds of all holds of each
child-of-all : (P : Part → Type 0) (S : ℕ) (cs : List ℕ) (rest : List Part) → All P (map (λ c. child c S) cs ++ rest) → (c : ℕ) → Among c cs → P (child c S)
child-of-all P S [] rest h c m = absurd m
child-of-all P S (d ∷ cs) rest h c (inl e) = subst (λ (i : ℕ). P (child i S)) (sym e) h.0
child-of-all P S (d ∷ cs) rest h c (inr m) = child-of-all P S cs rest h.1 c m

-- T0 by either reading
first-name : (names : List ℕ) → 1 ≤ length names → first_name names ≡ get_or names 0 0
unfolding first_name
first-name [] h = absurd (omega arith)
first-name (x ∷ names) h = refl

accounts-as : {whole whole' part part' added : ℕ} → whole ≡ whole' → part ≡ part' → Accounts whole part added → Accounts whole' part' added
accounts-as d e (equal s) = equal (sym e ∙ s ∙ d)
accounts-as d e (twice s t) = twice (sym d ∙ s) (sym e ∙ t)

-- ---- at a place

module _ (p : Program) (w : WellFormed p) (at : Place) (f : PlaceFits p at) where
  abbrev here : Node
  here = body_at p at at.node

  abbrev lower : Assignment → ℕ → ℕ → ℕ
  lower b = below p b (body_at p at) at.node

  fits : NodeFits p (method_at p at.method).k at.node here
  fits = w.nodes at.method at.node (unfold method_count in f.method) f.node

  op-number-of : (o : Op) → op_of (body_at p at at.node).op ≡ o → (body_at p at at.node).op ≡ number_of o
  op-number-of o e = sym (op-number here.op fits.op) ∙ ap number_of e

  -- a child counts under a set that the method has
  child-set : (o : Op) → op_of (body_at p at at.node).op ≡ o → child_set o (body_at p at at.node).names at.set < entry_count p at.method
  unfolding entry_count entries
  child-set plain_value e = f.set
  child-set read e = f.set
  child-set write e = f.set
  child-set sequence e = f.set
  child-set choice e = f.set
  child-set loop e = f.set
  child-set synchronised e =
      add-below (method_at p at.method).k at.set _ f.set
      (subst (λ (l : ℕ). l < (method_at p at.method).k) (sym (first-name here.names (omega (arith, fits.names))))
      (fits.synchronised (op-number-of synchronised e)))
  child-set assertion e = f.set
  child-set call e = f.set
  child-set fork e = f.set
  child-set no_op e = f.set

  field-error : (writing : Bool) (H : ℕ) → field_access (field_at p (body_at p at at.node).U) writing (body_at p at at.node).names H ≤ error
  unfolding field_access
  field-error writing H = access-error _ _ writing _

  -- by its op
  module _ (o : Op) (e : op_of (body_at p at at.node).op ≡ o) where
    abbrev listed_here : List ℕ
    listed_here = listed o here.X here.Y here.Z

    abbrev set_below : ℕ
    set_below = child_set o here.names at.set

    abbrev grade_here : Assignment → ℕ
    grade_here b = grade_by p b (lower b) o here at.set

    grade-here : (b : Assignment) → grade_under p b at ≡ grade_here b
    unfolding meaning node_grade parts children
    grade-here b = ap (λ (x : Op). grade_by p b (lower b) x here at.set) e

    -- ---- a child

    child-lower : (c : ℕ) → Among c listed_here → c < at.node
    unfolding children
    child-lower c m =
        child-below p w at.method at.node c (subst (λ (x : Op). Among c (listed x here.X here.Y here.Z)) (sym e) m)

    child-grade : (b : Assignment) (c S : ℕ) → Among c listed_here → lower b c S ≡ grade_under p b (child_place at c S)
    child-grade b c S m = below-meaning p b (body_at p at) at.node c S (child-lower c m)

    child-up : (c : ℕ) → Among c listed_here → (b : Assignment) → grade_under p b (child_place at c set_below) ≤ grade_under p b at
    child-up c m b =
        let up : cap (lower b c set_below) ≤ grade_here b =
        child-of-all (λ x. cap (part_grade (lower b) x) ≤ grade_here b) set_below listed_here (own_part p b o here at.set) (carries p b (lower b) o here at.set) c m in
        omega (
          arith,
          grade-here b,
          child-grade b c set_below m,
          cap-grade (lower b c set_below) (below-error p b (body_at p at) at.node c set_below),
        )

    child-turn : (c added : ℕ) → Among c listed_here → Accounts (grade_here (tables_before p at.round)) (lower (tables_before p at.round) c set_below) added
        → TurnIs p at (record { rule = 1 + added; next = goes_on (child_place at c set_below) })
    unfolding grade_at
    child-turn c added m x =
        to_child c set_below added (child-lower c m) (child-set o e) (child-up c m)
        (accounts-as (sym (grade-here (tables_before p at.round))) (child-grade (tables_before p at.round) c set_below m) x)

    -- ---- its own part

    own-up : (b : Assignment) → All (λ x. cap (part_grade (lower b) x) ≤ grade_under p b at) (own_part p b o here at.set)
    own-up b =
        all_right (λ x. cap (part_grade (lower b) x) ≤ grade_under p b at) (map (λ c. child c set_below) listed_here) (own_part p b o here at.set)
        (subst (λ (y : ℕ). All (λ x. cap (part_grade (lower b) x) ≤ y) (parts_by p b o here at.set)) (sym (grade-here b)) (carries p b (lower b) o here at.set))

    access-turn : (writing : Bool) (added : ℕ) → o ≡ cond writing write read
        → ((b : Assignment) → cap (field_access (field_at p here.U) writing here.names at.set) ≤ grade_under p b at)
        → Accounts (grade_here (tables_before p at.round)) (field_access (field_at p here.U) writing here.names at.set) added
        → TurnIs p at (record { rule = 3 + added; next = ends })
    unfolding grade_at node_here
    access-turn writing added q up x =
        at_access writing added (e ∙ q) (λ b. above _ _ (field-error writing at.set) (up b)) (accounts-as (sym (grade-here (tables_before p at.round))) refl x)

    fork-turn : (added : ℕ) → o ≡ fork → ((b : Assignment) → cap atomic ≤ grade_under p b at) → Accounts (grade_here (tables_before p at.round)) atomic added
        → TurnIs p at (record { rule = 4 + added; next = ends })
    unfolding grade_at node_here
    fork-turn added q up x =
        at_fork added (e ∙ q) (λ b. above atomic _ (omega arith) (up b)) (accounts-as (sym (grade-here (tables_before p at.round))) refl x)

  -- a call's own part
  abbrev entry_here : Assignment → ℕ
  entry_here b = callee_entry (method_at p here.U).k (b here.U) here.names at.set

  entry-least : (b : Assignment) (S : ℕ) → T (member S (matching (take (method_at p (body_at p at at.node).U).k (body_at p at at.node).names) at.set))
      → b (body_at p at at.node).U S ≤ entry_here b
  unfolding callee_entry
  entry-least b S t = largest-least (b here.U) (matching (take (method_at p here.U).k here.names) at.set) S t

  entry-most : entry_here (tables_before p at.round) ≤ error
  unfolding callee_entry tables_before
  entry-most = largest-most _ (matching (take (method_at p here.U).k here.names) at.set) error (λ S. entry-grade p w _ here.U S)

  called : op_of (body_at p at at.node).op ≡ call → 1 ≤ entry_here (tables_before p at.round) → Called p at (entry_here (tables_before p at.round))
  unfolding node_here
  called e h =
      let it = callee-set p (tables_before p at.round) here at.set in
      record {
        entry = record { method = unfold method_count in fits.method (subst (λ (n : ℕ). uses_method n ≡ true) (sym (op-number-of call e)) refl); set = it.set };
        has = it.has;
        some = h;
        carries = λ b. le_trans (cap-grows _ _ (entry-least b _ it.matches)) (own-up call e b).0;
      }

  call-turn : op_of (body_at p at at.node).op ≡ call → (added : ℕ) → 1 ≤ entry_here (tables_before p at.round)
      → Accounts (grade_at p at) (entry_here (tables_before p at.round)) added
      → TurnIs p at (call_turn (is_declared p here.U) (callee_place p at (entry_here (tables_before p at.round))) added)
  unfolding call_turn node_here
  call-turn e added h x = go (is_declared p here.U) refl
    where
      go : (b : Bool) → is_declared p here.U ≡ b → TurnIs p at (call_turn b (callee_place p at (entry_here (tables_before p at.round))) added)
      go true d = at_declared _ added e (subst T (sym d) tt) (called e h) x
      go false d = to_callee _ added e (subst (λ (b : Bool). T (not b)) (sym d) tt) (called e h) x

  -- ---- the part picked, by the node's op

  abbrev graded : Op → ℕ
  graded o = grade_by p (tables_before p at.round) (lower (tables_before p at.round)) o here at.set

  abbrev part_graded : Part → ℕ
  part_graded = part_grade (lower (tables_before p at.round))

  abbrev Holds : Pick → Type 0
  Holds k = TurnIs p at (turn_by p at k)

  -- the turn at its own part
  own_turn_lem : (o : Op) → op_of (body_at p at at.node).op ≡ o → (g added : ℕ)
      → TurnIs p at (own_turn o (is_declared p (body_at p at at.node).U) (callee_place p at g) added) → Holds (picked (own g) added)
  unfolding node_here
  own_turn_lem o e g added t = subst (λ (x : Op). TurnIs p at (own_turn x (is_declared p here.U) (callee_place p at g) added)) (sym e) t

  own-accounts : (o : Op) (e : op_of (body_at p at at.node).op ≡ o) (added : ℕ)
      → All (λ x. (T (is_call o) → 1 ≤ part_graded x) → Accounts (graded o) (part_graded x) added → Holds (picked x added))
      (own_part p (tables_before p at.round) o (body_at p at at.node) at.set)
  unfolding grade_at
  own-accounts plain_value e added = tt
  own-accounts read e added =
      (λ s x. own_turn_lem read e _ added (access-turn read e false added refl (λ b. (own-up read e b).0) x), tt)
  own-accounts write e added =
      (λ s x. own_turn_lem write e _ added (access-turn write e true added refl (λ b. (own-up write e b).0) x), tt)
  own-accounts sequence e added = tt
  own-accounts choice e added = tt
  own-accounts loop e added = tt
  own-accounts synchronised e added = tt
  own-accounts assertion e added = tt
  own-accounts call e added =
      (λ s x. own_turn_lem call e _ added (call-turn e added (s tt) (accounts-as (sym (grade-here call e (tables_before p at.round))) refl x)), tt)
  own-accounts fork e added = (λ s x. own_turn_lem fork e _ added (fork-turn fork e added refl (λ b. (own-up fork e b).0) x), tt)
  own-accounts no_op e added = tt

  -- a call's entry of 0 is not picked: the child before it is 0 too then
  entry-some : (o : Op) → T (is_call o)
      → All (λ c. part_graded (child c (child_set o (body_at p at at.node).names at.set)) ≡ graded o → ⊥)
      (listed o (body_at p at at.node).X (body_at p at at.node).Y (body_at p at at.node).Z)
      → All (λ x. part_graded x ≡ graded o → 1 ≤ part_graded x) (own_part p (tables_before p at.round) o (body_at p at at.node) at.set)
  unfolding whole
  entry-some plain_value t n = absurd t
  entry-some read t n = absurd t
  entry-some write t n = absurd t
  entry-some sequence t n = absurd t
  entry-some choice t n = absurd t
  entry-some loop t n = absurd t
  entry-some synchronised t n = absurd t
  entry-some assertion t n = absurd t
  entry-some call t n = (λ e. go (dec_lt 0 (entry_here (tables_before p at.round))) e, tt)
    where
      go : Dec (0 < entry_here (tables_before p at.round))
          → entry_here (tables_before p at.round) ≡ compose (lower (tables_before p at.round) here.X at.set) (entry_here (tables_before p at.round))
          → 1 ≤ entry_here (tables_before p at.round)
      go (yes l) e = l
      go (no l) e =
          let zero-it : entry_here (tables_before p at.round) ≡ 0 = omega arith in
          absurd (n.0 (sym (cap-grade _ (below-error p (tables_before p at.round) (body_at p at) at.node here.X at.set))
          ∙ sym (compose-const _) ∙ ap (compose (lower (tables_before p at.round) here.X at.set)) (sym zero-it)))
  entry-some fork t n = absurd t
  entry-some no_op t n = absurd t

  -- ---- no part picked

  whole_here : (o : Op) → op_of (body_at p at at.node).op ≡ o → grade_at p at ≡ graded o
  unfolding grade_at
  whole_here o e = grade-here o e (tables_before p at.round)

  abbrev Unaccounted : Op → Type 0
  Unaccounted o = T (not (accounted (graded o) (map part_graded (parts_by p (tables_before p at.round) o (body_at p at at.node) at.set))))

  lower-error : (n S : ℕ) → lower (tables_before p at.round) n S ≤ error
  lower-error n S = below-error p (tables_before p at.round) (body_at p at) at.node n S

  lock-turn : op_of (body_at p at at.node).op ≡ synchronised → Unaccounted synchronised → TurnIs p at (record { rule = 5; next = ends })
  unfolding node_here whole grade_at
  lock-turn e t = go (not (held at.set (first_name here.names))) refl t
    where
      x : ℕ
      x = lower (tables_before p at.round) here.X (child_set synchronised here.names at.set)

      go : (newly : Bool) → not (held at.set (first_name here.names)) ≡ newly → T (not (accounted (cond newly (lock_taken x) x) (x ∷ [])))
          → TurnIs p at (record { rule = 5; next = ends })
      go true q t =
          let low : x < atomic = lock-unaccounted x (lower-error _ _) t in
          let at-lock : (b : Assignment) → grade_under p b at ≡ lock_taken (lower b here.X (child_set synchronised here.names at.set)) =
          λ b. grade-here synchronised e b
          ∙ ap (λ (c : Bool). cond c (lock_taken (lower b here.X (child_set synchronised here.names at.set))) (lower b here.X (child_set synchronised here.names at.set))) q in
          at_lock e (subst T (sym q) tt)
          (subst (λ (y : ℕ). y < atomic) (child-grade synchronised e (tables_before p at.round) here.X (child_set synchronised here.names at.set) (inl refl)) low)
          (λ b. subst (λ (y : ℕ). atomic ≤ y) (sym (at-lock b)) (lock-least _)) (at-lock (tables_before p at.round) ∙ lock_taken-atomic x low)
      go false q t = absurd (T_not (accounted x (x ∷ [])) t (self-accounted x))

  assert-turn : op_of (body_at p at at.node).op ≡ assertion → Unaccounted assertion → TurnIs p at (record { rule = 6; next = ends })
  unfolding node_here whole grade_at
  assert-turn e t =
      let three : lower (tables_before p at.round) here.X at.set ≡ cmpd = assert-unaccounted _ (lower-error _ _) t in
      at_assert e (sym (child-grade assertion e (tables_before p at.round) here.X at.set (inl refl)) ∙ three)
      (λ b h. subst (λ (x : ℕ). error ≤ x) (sym (grade-here assertion e b))
      (subst (λ (x : ℕ). x ≤ assert_atomic (lower b here.X at.set)) assert-cmpd
      (assert-grows cmpd _ (subst (λ (x : ℕ). cmpd ≤ x) (sym (child-grade assertion e b here.X at.set (inl refl))) h))))
      (grade-here assertion e (tables_before p at.round) ∙ ap assert_atomic three ∙ assert-cmpd)

  end-turn : (o : Op) → op_of (body_at p at at.node).op ≡ o → TurnIs p at (record { rule = end_rule o; next = ends }) → Holds none
  unfolding node_here
  end-turn o e t = subst (λ (x : Op). TurnIs p at (record { rule = end_rule x; next = ends })) (sym e) t

  clash : (o : Op) → Unaccounted o → T (accounted (graded o) (map part_graded (parts_by p (tables_before p at.round) o (body_at p at at.node) at.set))) → ⊥
  clash o t s = T_not (accounted (graded o) (map part_graded (parts_by p (tables_before p at.round) o (body_at p at at.node) at.set))) t s

  none-turn : (o : Op) → op_of (body_at p at at.node).op ≡ o → Unaccounted o → Holds none
  unfolding whole node_here
  none-turn plain_value e t = end-turn plain_value e (plain e (whole_here plain_value e))
  none-turn read e t = absurd (clash read t (compose-accounted _ _ (lower-error _ _) (field-error false at.set)))
  none-turn write e t = absurd (clash write t (twice-accounted _ _ (lower-error _ _) (lower-error _ _) _ (field-error true at.set)))
  none-turn sequence e t = absurd (clash sequence t (compose-accounted _ _ (lower-error _ _) (lower-error _ _)))
  none-turn choice e t = absurd (clash choice t (choice-accounted _ _ (lower-error _ _) (lower-error _ _) _ (lower-error _ _)))
  none-turn loop e t = absurd (clash loop t (loop-accounted _ _ (lower-error _ _) (lower-error _ _)))
  none-turn synchronised e t = end-turn synchronised e (lock-turn e t)
  none-turn assertion e t = end-turn assertion e (assert-turn e t)
  none-turn call e t = absurd (clash call t (compose-accounted _ _ (lower-error _ _) entry-most))
  none-turn fork e t = absurd (clash fork t (compose-accounted _ atomic (lower-error _ _) (omega arith)))
  none-turn no_op e t = absurd (omega (arith, op-number-of no_op e, fits.op))

-- the turn at each place of a program that a text gives
pub turn_is : (p : Program) → WellFormed p → (at : Place) → PlaceFits p at → TurnIs p at (turn_at p at)
unfolding turn_at pick_at grade_at part_grade_at parts_at parts children node_here meaning node_grade
turn_is p w at f = go (op_of (body_at p at at.node).op) refl
  where
    a : Assignment
    a = tables_before p at.round

    node : Node
    node = body_at p at at.node

    go : (o : Op) → op_of (body_at p at at.node).op ≡ o
        → TurnIs p at (turn_by p at (pick_of (graded p w at f o) (part_graded p w at f) (parts_by p a o node at.set)))
    go o e =
        pick-cases (Holds p w at f) (graded p w at f o) (part_graded p w at f) (parts_by p a o node at.set)
        (children-firsts (Holds p w at f) (part_graded p w at f) (graded p w at f o) (child_set o node.names at.set) (listed o node.X node.Y node.Z)
        (own_part p a o node at.set) (all_among _ (listed o node.X node.Y node.Z) (λ c m q. child-turn p w at f o e c 0 m (equal q)))
        (λ n. all_firsts (Holds p w at f) (part_graded p w at f) (graded p w at f o) (is_call o) (own_part p a o node at.set) (own-accounts p w at f o e 0) (λ t. entry-some p w at f o t n)))
        (λ three. children-atomics (Holds p w at f) (part_graded p w at f) (child_set o node.names at.set) (listed o node.X node.Y node.Z)
        (own_part p a o node at.set) (all_among _ (listed o node.X node.Y node.Z) (λ c m q. child-turn p w at f o e c 8 m (twice three q)))
        (all-atomics (Holds p w at f) (part_graded p w at f) (graded p w at f o) (is_call o) (own_part p a o node at.set) (own-accounts p w at f o e 8) three))
        (none-turn p w at f o e)
