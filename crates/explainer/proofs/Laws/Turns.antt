-- The turn at each place, as the code takes it.
-- Assumes nothing.
use Prim.Native.Nat.{ℕ, pred, ◌+◌, ◌≤◌, ◌<◌}
use Rattle.std.specs.Prelude.{Bool, true, false, not, cond, List, [], ◌∷◌, ◌++◌, map, ◌≡◌, Option, Some, None, MatchOption, T, eqb, get_or}
use Rattle.std.proofs.Math.Path.{refl, subst}
use Rattle.std.proofs.Common.{sym, ap, ◌∙◌, arith, eq-eqb}
use Rattle.std.proofs.Math.Decide.{dec_lt}
use Rattle.counting.specs.Counting.{first}
use Rattle.grades.specs.Grades.{error, compose}
use Rattle.grades.proofs.Laws.Grades.{cap-grade, compose-const}
use Rattle.grades.specs.HeldSets.{held}
use Rattle.std.proofs.lemmas.Option.{MatchOption-at_some, MatchOption-at_none}
use Rattle.frames.specs.declared.ops.Op as ops
use Rattle.frames.specs.declared.ops.Op.TheVariants.{PlainValue, Read, Write, Sequence, Choice, Loop, Synchronised, Assertion, Call, Fork, NoOp}
use Rattle.frames.specs.Program.{Program, method_at, node_at}
use Rattle.meaning.specs.Meaning.{Op, call, op_of, listed, children, child_set, first_name, Part, child, own, own_part, parts, part_grade, whole, node_grade, below, meaning}
use Rattle.meaning.specs.Lowest.{is_declared}
use Rattle.meaning.proofs.Laws.Meaning.{below-error}
use Rattle.reasons.specs.Steps as steps
use Rattle.reasons.specs.Steps.{Place, tables_before, node_here, grade_at, parts_at, part_grade_at, picked, none, first_part, last_atomic, pick_of, pick_at, or_else, ends, goes_on, Turn, end_rule, own_turn}
use Rattle.solver.specs.Flat.{program_in}
use Rattle.solver.specs.Nodes.{meant}
use Rattle.solver.specs.Laws.Engine.{op-cases, op-past, meant_named}
use Rattle.solver.specs.Code.Rounds.{At}
use Rattle.reasons.proofs.Laws.Calls.{CalleeSet, callee-set}
use Rattle.explainer.specs.declared.places.Place as code
use Rattle.explainer.specs.Code.Lower.{Ready}
use Rattle.explainer.specs.declared.places.Onward.{Onward}
use Rattle.explainer.specs.declared.picks.Pick.{Pick}
use Rattle.explainer.specs.declared.seen.Seen.{Seen}
use Rattle.explainer.specs.Code.Picks.{PickedAt, same, twice, part_at, pick_in}
use Rattle.explainer.specs.Code.Places.{place_of, PlaceIn, HasBeen, SeenAt, child_number, TurnOf}
use Rattle.explainer.proofs.Laws.Picks.{pick-by-number, picked_same}
use Rattle.explainer.proofs.Laws.Places.{called-few}
use Rattle.explainer.proofs.Laws.Seen.{call-number}

-- ---- a call whose own part is picked has a grade over const

-- the grade of an own part that is picked
abbrev own_picked : steps.Pick → ℕ
own_picked (picked (own g) added) = g
own_picked (picked (child c S) added) = 1
own_picked none = 1

-- the child before it is as large as the whole otherwise, and is picked first
own-some : (grade : Part → ℕ) (c S g : ℕ) → grade (child c S) ≤ error → grade (own g) ≡ g
    → 1 ≤ own_picked (pick_of (compose (grade (child c S)) g) grade (child c S ∷ own g ∷ []))
unfolding pick_of first_part last_atomic
own-some grade c S g h e =
    go (eqb (grade (child c S)) (compose (grade (child c S)) g)) (eqb (grade (own g)) (compose (grade (child c S)) g)) (eqb (compose (grade (child c S)) g) 3)
    (eqb (grade (own g)) 2) (eqb (grade (child c S)) 2) (λ f. over (dec_lt 0 g) f)
  where
    over : Dec (0 < g) → eqb (grade (child c S)) (compose (grade (child c S)) g) ≡ false → 1 ≤ g
    over (yes l) f = l
    over (no l) f =
        let none : g ≡ 0 = omega arith in
        let same : grade (child c S) ≡ compose (grade (child c S)) g = sym (ap (compose (grade (child c S))) none ∙ compose-const (grade (child c S)) ∙ cap-grade (grade (child c S)) h) in
        absurd (subst T (sym (eq-eqb (grade (child c S)) (compose (grade (child c S)) g) same) ∙ f) tt)

    go : (a b d e f : Bool) → (a ≡ false → 1 ≤ g)
        → 1 ≤ own_picked (or_else (cond a (picked (child c S) 0) (cond b (picked (own g) 0) none))
        (cond d (or_else (or_else none (cond e (picked (own g) 8) none)) (cond f (picked (child c S) 8) none)) none))
    go true b d e f h = omega arith
    go false true d e f h = h refl
    go false false true true f h = h refl
    go false false true false true h = omega arith
    go false false true false false h = omega arith
    go false false false e f h = omega arith

module _ (p : Program) (at : Place) where
  -- the part picked, by the node's op
  abbrev pick_by : Op → steps.Pick
  pick_by o =
      pick_of
      (whole o (not (held at.set (first_name (node_at (method_at p at.method) at.node).names)))
      (map (part_grade (below p (tables_before p at.round) (node_at (method_at p at.method)) at.node))
      (map (λ c. child c (child_set o (node_at (method_at p at.method) at.node).names at.set))
      (listed o (node_at (method_at p at.method) at.node).X (node_at (method_at p at.method) at.node).Y (node_at (method_at p at.method) at.node).Z)
      ++ own_part p (tables_before p at.round) o (node_at (method_at p at.method) at.node) at.set)))
      (part_grade (below p (tables_before p at.round) (node_at (method_at p at.method)) at.node))
      (map (λ c. child c (child_set o (node_at (method_at p at.method) at.node).names at.set))
      (listed o (node_at (method_at p at.method) at.node).X (node_at (method_at p at.method) at.node).Y (node_at (method_at p at.method) at.node).Z)
      ++ own_part p (tables_before p at.round) o (node_at (method_at p at.method) at.node) at.set)

  call-picks : (o : Op) → o ≡ call → 1 ≤ own_picked (pick_by o)
  unfolding whole
  call-picks o e =
      subst (λ (x : Op). 1 ≤ own_picked (pick_by x)) (sym e)
      (own-some (part_grade (below p (tables_before p at.round) (node_at (method_at p at.method)) at.node)) _ _ _
      (below-error p (tables_before p at.round) (node_at (method_at p at.method)) at.node _ _) refl)

  pub call-some : op_of (node_here p at).op ≡ call → (g added : ℕ) → pick_at p at ≡ picked (own g) added → 1 ≤ g
  unfolding pick_at grade_at meaning node_grade parts_at parts part_grade_at node_here children
  call-some e g added k = subst (λ (x : steps.Pick). 1 ≤ own_picked x) k (call-picks (op_of (node_at (method_at p at.method) at.node).op) e)

-- ---- what is seen, picked

-- a part that is picked is one of them, and at most 8 is added
pub pick-few : {w : ℕ} {f : ℕ → ℕ} {n : ℕ} {q : Pick} → PickedAt w f n (Some q) → (q.part < n) × (q.added ≤ 8)
pick-few (same _ x l) = (l, omega arith)
pick-few (twice _ x y l) = (l.bound, omega arith)

pub added-few : (w : ℕ) (f : ℕ → ℕ) (n : ℕ) (q : Pick) → PickedAt w f n (Some q) → q.added ≤ 8
added-few w f n q is = (pick-few is).1

module _ (t : List ℕ) (at : code.Place) (r : Seen) (seen : SeenAt t at r) where
  pick-here : (pick : Option Pick) → PickedAt r.whole (λ i. get_or r.grades i 0) r.count pick
      → pick_at (program_in t) (place_of at) ≡ pick_in (parts_at (program_in t) (place_of at)) pick
  unfolding pick_at
  pick-here pick is =
      pick-by-number (grade_at (program_in t) (place_of at)) (part_grade_at (program_in t) (place_of at)) (parts_at (program_in t) (place_of at)) pick
      (subst (λ (n : ℕ). PickedAt (grade_at (program_in t) (place_of at)) (λ i. part_grade_at (program_in t) (place_of at) (part_at (parts_at (program_in t) (place_of at)) i)) n pick) seen.count
      (picked_same (λ i. get_or r.grades i 0) (λ i. part_grade_at (program_in t) (place_of at) (part_at (parts_at (program_in t) (place_of at)) i)) r.whole
      (grade_at (program_in t) (place_of at)) r.count seen.whole seen.graded is))

  pub none-picked : PickedAt r.whole (λ i. get_or r.grades i 0) r.count None → pick_at (program_in t) (place_of at) ≡ none
  none-picked = pick-here None

  module _ (q : Pick) (is : PickedAt r.whole (λ i. get_or r.grades i 0) r.count (Some q)) where
    part-seen : MatchOption (child_number r q.part) (part_at (parts_at (program_in t) (place_of at)) q.part ≡ own r.own)
        (λ c. part_at (parts_at (program_in t) (place_of at)) q.part ≡ child c r.under)
    part-seen = seen.parts q.part (pick-few is).0

    pub child-picked : (c : ℕ) → child_number r q.part ≡ Some c → pick_at (program_in t) (place_of at) ≡ picked (child c r.under) q.added
    child-picked c e = pick-here (Some q) is ∙ ap (λ (x : Part). picked x q.added) (MatchOption-at_some _ _ c e part-seen)

    pub own-picked : child_number r q.part ≡ None → pick_at (program_in t) (place_of at) ≡ picked (own r.own) q.added
    own-picked e = pick-here (Some q) is ∙ ap (λ (x : Part). picked x q.added) (MatchOption-at_none _ _ e part-seen)

  -- the node's op by its name
  pub op-meant : meant r.op ≡ op_of (node_here (program_in t) (place_of at)).op
  op-meant = ap meant seen.op ∙ meant_named (node_here (program_in t) (place_of at)).op

-- ---- the rules by number

pub end_none : (op : ℕ) → (op ≡ 6 → ⊥) → (op ≡ 7 → ⊥) → end_rule (op_of op) ≡ 0
unfolding op_of
end_none =
    op-cases (λ n. (n ≡ 6 → ⊥) → (n ≡ 7 → ⊥) → end_rule (op_of n) ≡ 0)
    (λ _ _. refl) (λ _ _. refl) (λ _ _. refl) (λ _ _. refl) (λ _ _. refl) (λ _ _. refl) (λ h _. absurd (h refl)) (λ _ h. absurd (h refl)) (λ _ _. refl) (λ _ _. refl)
    (λ n g _ _. ap end_rule (op-past n g))

-- an own part that is neither a call's nor a fork's
pub own-access : (op : ℕ) (declared : Bool) (to : Place) (added : ℕ) → (op ≡ 8 → ⊥) → (op ≡ 9 → ⊥)
    → own_turn (op_of op) declared to added ≡ record { rule = 3 + added; next = ends }
unfolding op_of
own-access op declared to added =
    op-cases (λ n. (n ≡ 8 → ⊥) → (n ≡ 9 → ⊥) → own_turn (op_of n) declared to added ≡ record { rule = 3 + added; next = ends })
    (λ _ _. refl) (λ _ _. refl) (λ _ _. refl) (λ _ _. refl) (λ _ _. refl) (λ _ _. refl) (λ _ _. refl) (λ _ _. refl) (λ h _. absurd (h refl)) (λ _ h. absurd (h refl))
    (λ n g _ _. ap (λ (o : Op). own_turn o declared to added) (op-past n g)) op

-- ---- the rules by name

-- an own part that is neither a call's nor a fork's
pub own-access_named : (o : ops.Op) (declared : Bool) (to : Place) (added : ℕ) → (o ≡ Call → ⊥) → (o ≡ Fork → ⊥)
    → own_turn (meant o) declared to added ≡ record { rule = 3 + added; next = ends }
own-access_named PlainValue declared to added c f = refl
own-access_named Read declared to added c f = refl
own-access_named Write declared to added c f = refl
own-access_named Sequence declared to added c f = refl
own-access_named Choice declared to added c f = refl
own-access_named Loop declared to added c f = refl
own-access_named Synchronised declared to added c f = refl
own-access_named Assertion declared to added c f = refl
own-access_named Call declared to added c f = absurd (c refl)
own-access_named Fork declared to added c f = absurd (f refl)
own-access_named (NoOp n) declared to added c f = refl

-- ---- turns, as the code gives them

-- the chain ends
pub ended : (t : List ℕ) (rule : ℕ) (turn : Turn) (r : Onward) → r ≡ record { rule = rule; to = None } → turn ≡ record { rule = rule; next = ends } → TurnOf t turn r
ended t rule turn r e f =
    subst (TurnOf t turn) (sym e) (record { rule = sym (ap (λ (x : Turn). x.rule) f); next = sym (ap (λ (x : Turn). x.next) f); to = tt })

-- it goes on to a place that is found
pub went : (t : List ℕ) (to : code.Place) (rule : ℕ) (turn : Turn) (there : Place) (r : Onward) → r ≡ record { rule = rule; to = Some to } → place_of to ≡ there
    → At t to.method to.first → turn ≡ record { rule = rule; next = goes_on there } → TurnOf t turn r
went t to rule turn there r e f first g =
    subst (TurnOf t turn) (sym e)
    (record { rule = sym (ap (λ (x : Turn). x.rule) g); next = ap goes_on f ∙ sym (ap (λ (x : Turn). x.next) g); to = first })

-- the callee of a call whose own part is picked
module _ (t noted : List ℕ) (ready : Ready t noted) (at : code.Place) (placed : PlaceIn t at) (r : Seen) (seen : SeenAt t at r)
    (calls : op_of (node_here (program_in t) (place_of at)).op ≡ call) where
  callee-is : CalleeSet (program_in t) (tables_before (program_in t) at.round) (node_here (program_in t) (place_of at)) at.set r.own
  callee-is =
      subst (CalleeSet (program_in t) (tables_before (program_in t) at.round) (node_here (program_in t) (place_of at)) at.set) (sym (seen.entry calls))
      (callee-set (program_in t) (tables_before (program_in t) at.round) (node_here (program_in t) (place_of at)) at.set)

  pub callee-been : (added : ℕ) → pick_at (program_in t) (place_of at) ≡ picked (own r.own) added → T (not (is_declared (program_in t) (node_here (program_in t) (place_of at)).U))
      → HasBeen (program_in t) (node_here (program_in t) (place_of at)).U r.set r.own
  unfolding tables_before
  callee-been added k u =
      subst (λ (S : ℕ). HasBeen (program_in t) (node_here (program_in t) (place_of at)).U S r.own) (sym (seen.called calls))
      (record {
        entry = record { method = called-few t noted ready at placed (call-number (node_here (program_in t) (place_of at)).op calls); set = callee-is.set };
        undeclared = u;
        round = pred at.round;
        within = omega (arith, placed.fits.no_later);
        has = callee-is.has;
        stays = λ z. absurd (omega (arith, call-some (program_in t) (place_of at) calls r.own added k));
      })
