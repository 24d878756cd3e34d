-- The node at a place, seen whole: its parts and their grades are those that a step has.
-- Assumes nothing.
use Rattle.std.specs.Prelude.{ℕ, zero, suc, ◌+◌, ◌*◌, ◌≤◌, ◌<◌, List, ◌≡◌, Option, None, MatchOption, unwrap_or, length, get_or}
use Rattle.std.proofs.Math.Path.{refl, sym, ap, ap₂}
use Rattle.std.proofs.Common.{◌∙◌, subst}
use Rattle.std.proofs.Math.Decide.{dec_lt, ℕ_discrete}
use native.Mathlib.Omega.{arith}
use Rattle.frames.specs.Layout.{layout}
use Rattle.frames.specs.Program.{Node, method_at}
use Rattle.frames.specs.Ops.{op_named, number_of}
use Rattle.frames.specs.Laws.Ops.{children_named}
use Rattle.frames.specs.Ranges.{children_listed}
use Rattle.meaning.specs.Meaning.{Assignment, Op, op_of, child, own, child_set}
use Rattle.reasons.specs.Steps.{tables_before, node_here, grade_at, parts_at, part_grade_at}
use Rattle.solver.specs.Flat.{program_in}
use Rattle.solver.specs.Nodes.{node_in, meant, no_child, child_at, listed_child, own_grade, PartsOf}
use Rattle.solver.specs.declared.node.Parts.{Parts}
use Rattle.solver.specs.Laws.Engine.{op-cases, children_listed-past, meant_named, child-or}
use Rattle.explainer.specs.declared.places.Place.{Place}
use Rattle.explainer.specs.declared.seen.Seen.{Seen}
use Rattle.explainer.specs.Code.Lower.{Ready, child_grade}
use Rattle.explainer.specs.Code.Picks.{part_at}
use Rattle.explainer.specs.Code.Places.{place_of, PlaceIn, NodeLower, own_count, OwnEntry, child_number, SeenAt}
use Rattle.explainer.proofs.Laws.Lower.{under-is, under-inside, child-known, lower-fewer}
use Rattle.explainer.proofs.Laws.Callee.{grade-found, callee-found}
use Rattle.explainer.proofs.Laws.Places.{node-here}
use Rattle.explainer.proofs.Laws.Seen.{own-apart, call-number, own-few, listed-some, listed-none, parts-count, part-child, part-own}

pub listed-few : (op : ℕ) → children_listed op ≤ 3
unfolding children_listed
listed-few =
    op-cases (λ n. children_listed n ≤ 3)
    (omega arith) (omega arith) (omega arith) (omega arith) (omega arith) (omega arith) (omega arith) (omega arith) (omega arith) (omega arith)
    (λ n g. omega (arith, children_listed-past n g))

module _ (t noted : List ℕ) (ready : Ready t noted) (at : Place) (placed : PlaceIn t at) (b : Assignment) (r : Parts)
    (of : PartsOf (program_in t) b (node_in t (at.first + at.node)) at.set r) where
  -- the node
  abbrev here : Node
  here = node_here (program_in t) (place_of at)

  same-node : node_in t (at.first + at.node) ≡ node_here (program_in t) (place_of at)
  same-node = node-here t noted ready at placed

  pub op-seen : r.op ≡ op_named (node_here (program_in t) (place_of at)).op
  op-seen = of.op ∙ ap (λ (x : Node). op_named x.op) same-node

  pub under-seen : r.under ≡ child_set (op_of (node_here (program_in t) (place_of at)).op) (node_here (program_in t) (place_of at)).names at.set
  unfolding node_here
  under-seen = under-is t ready.read at.method at.first placed.first at.node placed.fits.node b at.set placed.fits.set r of

  -- its own part, in the tables before the round
  module _ (grade set : ℕ) (owned : OwnEntry (program_in t) (node_in t (at.first + at.node)) at r.own grade set) where
    own-here : OwnEntry (program_in t) (node_here (program_in t) (place_of at)) at r.own grade set
    own-here = subst (λ (x : Node). OwnEntry (program_in t) x at r.own grade set) same-node owned

    own-seen : grade ≡ own_grade (program_in t) (tables_before (program_in t) at.round) (op_of here.op) here at.set
    unfolding op_of
    own-seen = go (ℕ_discrete here.op 8)
      where
        go : Dec ((node_here (program_in t) (place_of at)).op ≡ 8)
            → grade ≡ own_grade (program_in t) (tables_before (program_in t) at.round) (op_of (node_here (program_in t) (place_of at)).op) (node_here (program_in t) (place_of at)) at.set
        go (yes eight) =
            grade-found (program_in t) (tables_before (program_in t) at.round) here at.set grade set (own-here.called eight)
            ∙ ap (λ (n : ℕ). own_grade (program_in t) (tables_before (program_in t) at.round) (op_of n) here at.set) (sym eight)
        go (no other) =
            own-here.other other
            ∙ of.own
            ∙ ap (λ (x : Node). own_grade (program_in t) b (op_of x.op) x at.set) same-node
            ∙ own-apart (program_in t) b (tables_before (program_in t) at.round) here at.set here.op other

    module _ (lower : List ℕ) (known : NodeLower t at lower) (listed count whole : ℕ) (grades : List ℕ)
        (lists : listed ≡ children_listed (number_of r.op)) (counts : count ≡ listed + own_count (meant r.op)) (size : length grades ≡ 4)
        (behind : get_or grades listed 0 ≡ grade)
        (first : 0 < listed → get_or grades 0 0 ≡ child_grade lower (unwrap_or r.x no_child) r.under)
        (second : 1 < listed → get_or grades 1 0 ≡ child_grade lower (unwrap_or r.y no_child) r.under)
        (third : 2 < listed → get_or grades 2 0 ≡ child_grade lower (unwrap_or r.z no_child) r.under)
        (all : whole ≡ get_or lower (layout.grades * at.node + at.set) 0) where
      abbrev seen : Seen
      seen =
          record {
            op = r.op;
            x = r.x;
            y = r.y;
            z = r.z;
            under = r.under;
            count = count;
            grades = grades;
            whole = whole;
            own = grade;
            set = set;
          }

      lists-here : listed ≡ children_listed (node_here (program_in t) (place_of at)).op
      lists-here = lists ∙ ap (λ o. children_listed (number_of o)) op-seen ∙ children_named here.op

      counts-here : count ≡ children_listed (node_here (program_in t) (place_of at)).op + own_count (op_of (node_here (program_in t) (place_of at)).op)
      counts-here = counts ∙ ap₂ {C = ℕ} (λ (x y : ℕ). x + y) lists-here (ap (λ o. own_count (meant o)) op-seen ∙ ap own_count (meant_named here.op))

      counts-parts : count ≡ length (parts_at (program_in t) (place_of at))
      unfolding parts_at
      counts-parts = counts-here ∙ sym (parts-count (program_in t) (tables_before (program_in t) at.round) here at.set)

      -- a child's number, and its grade
      child-seen : (i : ℕ) → i < 3 → child_number seen i ≡ listed_child here i
      child-seen zero h = of.x ∙ ap (λ (x : Node). listed_child x 0) same-node
      child-seen (suc zero) h = of.y ∙ ap (λ (x : Node). listed_child x 1) same-node
      child-seen (suc (suc zero)) h = of.z ∙ ap (λ (x : Node). listed_child x 2) same-node
      child-seen (suc (suc (suc i))) h = absurd (omega arith)

      number : (i : ℕ) → i < 3 → unwrap_or (child_number seen i) no_child ≡ child_at here i
      number i h = ap (λ (c : Option ℕ). unwrap_or c no_child) (child-seen i h) ∙ child-or here i

      none-seen : (i : ℕ) → listed ≤ i → child_number seen i ≡ None
      none-seen zero h = child-seen 0 (omega arith) ∙ listed-none here 0 (omega (arith, lists-here))
      none-seen (suc zero) h = child-seen 1 (omega arith) ∙ listed-none here 1 (omega (arith, lists-here))
      none-seen (suc (suc zero)) h = child-seen 2 (omega arith) ∙ listed-none here 2 (omega (arith, lists-here))
      none-seen (suc (suc (suc i))) h = refl

      read-child : (i : ℕ) → i < 3 → i < listed → get_or grades i 0 ≡ child_grade lower (unwrap_or (child_number seen i) no_child) r.under
      read-child zero h l = first l
      read-child (suc zero) h l = second l
      read-child (suc (suc zero)) h l = third l
      read-child (suc (suc (suc i))) h l = absurd (omega arith)

      few : (i : ℕ) → i < listed → i < 3
      few i l = omega (arith, lists-here, listed-few here.op)

      child-part : (i : ℕ) → i < listed → part_at (parts_at (program_in t) (place_of at)) i ≡ child (child_at here i) r.under
      unfolding parts_at
      child-part i l =
          part-child (program_in t) (tables_before (program_in t) at.round) here at.set i (omega (arith, lists-here))
          ∙ ap (child (child_at here i)) (sym under-seen)

      own-part : (i : ℕ) → listed ≤ i → i < count → part_at (parts_at (program_in t) (place_of at)) i ≡ own grade
      own-part i h l =
          part-at i (omega (arith, lists-here)) (omega (arith, counts-parts)) ∙ ap own (sym own-seen)
        where
          part-at : (i : ℕ) → children_listed (node_here (program_in t) (place_of at)).op ≤ i → i < length (parts_at (program_in t) (place_of at))
              → part_at (parts_at (program_in t) (place_of at)) i
              ≡ own (own_grade (program_in t) (tables_before (program_in t) at.round) (op_of (node_here (program_in t) (place_of at)).op) (node_here (program_in t) (place_of at)) at.set)
          part-at i h l = unfold parts_at in part-own (program_in t) (tables_before (program_in t) at.round) here at.set i h l

      child-read : (i : ℕ) → i < listed → get_or grades i 0 ≡ part_grade_at (program_in t) (place_of at) (child (child_at here i) r.under)
      unfolding part_grade_at node_here
      child-read i l =
          read-child i (few i l) l
          ∙ ap (λ (c : ℕ). child_grade lower c r.under) (number i (few i l))
          ∙ child-known t ready.read at.method at.first placed.first at.node placed.fits.node (tables_before (program_in t) at.round) lower
          (lower-fewer t (tables_before (program_in t) at.round) at.method at.node (length (method_at (program_in t) at.method).nodes) lower (lib-le placed.fits.node) known)
          i r.under (under-inside t ready.read at.method at.first placed.first at.node placed.fits.node b at.set placed.fits.set r of)
        where
          lib-le : {x y : ℕ} → x < y → x ≤ y
          lib-le h = omega arith

      graded : (i : ℕ) → i < count → get_or grades i 0 ≡ part_grade_at (program_in t) (place_of at) (part_at (parts_at (program_in t) (place_of at)) i)
      graded i l = go (dec_lt i listed)
        where
          go : Dec (i < listed) → get_or grades i 0 ≡ part_grade_at (program_in t) (place_of at) (part_at (parts_at (program_in t) (place_of at)) i)
          go (yes h) = child-read i h ∙ ap (part_grade_at (program_in t) (place_of at)) (sym (child-part i h))
          go (no h) =
              let there : i ≡ listed = omega (arith, counts, own-few (meant r.op)) in
              ap (λ (j : ℕ). get_or grades j 0) there ∙ behind ∙ own-grade ∙ ap (part_grade_at (program_in t) (place_of at)) (sym (own-part i (omega arith) l))
            where
              own-grade : grade ≡ part_grade_at (program_in t) (place_of at) (own grade)
              own-grade = unfold part_grade_at in refl

      -- part i, by whether there is such a child
      abbrev PartSeen : (i : ℕ) → Option ℕ → Type 0
      PartSeen i c =
          MatchOption c (part_at (parts_at (program_in t) (place_of at)) i ≡ own grade) (λ n. part_at (parts_at (program_in t) (place_of at)) i ≡ child n r.under)

      each : (i : ℕ) → i < count → PartSeen i (child_number seen i)
      each i l = go (dec_lt i listed)
        where
          go : Dec (i < listed) → PartSeen i (child_number seen i)
          go (yes h) = subst (PartSeen i) (sym (child-seen i (few i h) ∙ listed-some here i (omega (arith, lists-here)))) (child-part i h)
          go (no h) = subst (PartSeen i) (sym (none-seen i (omega arith))) (own-part i (omega arith) l)

      pub seen_at : SeenAt t at seen
      seen_at =
          record {
            op = op-seen;
            whole = whole-seen;
            count = counts-parts;
            size = size;
            few = omega (arith, counts, lists-here, listed-few here.op, own-few (meant r.op));
            graded = graded;
            parts = each;
            entry = λ e. own-seen ∙ ap (λ (o : Op). own_grade (program_in t) (tables_before (program_in t) at.round) o here at.set) e;
            called = λ e. callee-found (program_in t) (tables_before (program_in t) at.round) here at.set grade set (own-here.called (call-number here.op e));
          }
        where
          whole-seen : whole ≡ grade_at (program_in t) (place_of at)
          whole-seen = unfold grade_at in (all ∙ known.node at.node at.set placed.fits.node placed.fits.set)
