-- Places that the program has, as the code finds them.
-- Assumes nothing.
use Prim.Native.Nat.{ℕ, pred, ◌+◌, ◌*◌, ◌-◌, ◌≤◌, ◌<◌}
use Rattle.std.specs.Prelude.{List, ◌≡◌, refl}
use Rattle.std.proofs.Math.Path.{sym, ap}
use Rattle.std.proofs.Common.{◌∙◌, subst, arith}
use Rattle.std.proofs.Math.Numerals.{sub-one}
use Rattle.std.proofs.Math.ListN.{length}
use Rattle.frames.specs.Layout.{layout}
use Rattle.frames.specs.Frames.{methods_in}
use Rattle.frames.specs.Links.{node_count}
use Rattle.frames.specs.Tables.{cell, method_of, first_frame}
use Rattle.frames.specs.Program.{Method, method_at}
use Rattle.frames.specs.Ranges.{uses_method}
use Rattle.frames.specs.Laws.Tables.{nodes-length}
use Rattle.meaning.specs.Meaning.{root_of}
use Rattle.meaning.specs.Lowest.{method_count, rounds}
use Rattle.meaning.specs.Constraints.{Entry}
use Rattle.reasons.specs.Steps.{node_here, first_round, root_place}
use Rattle.reasons.proofs.Laws.Turns.{PlaceFits}
use Rattle.reasons.proofs.Laws.Rises.{entry-grade}
use Rattle.reasons.proofs.Laws.Ends.{root-fits, some-nodes}
use Rattle.solver.specs.Flat.{program_in}
use Rattle.solver.specs.Nodes.{node_in}
use Rattle.solver.specs.Rises.{rises, rises_length}
use Rattle.solver.specs.Code.Rounds.{At}
use Rattle.solver.specs.Laws.Views.{method-in, method-count}
use Rattle.solver.specs.Laws.Flat.{entry-count, few-entries, node-frame}
use Rattle.solver.specs.Laws.Rises.{rises-length}
use Rattle.explainer.specs.declared.places.Place.{Place}
use Rattle.explainer.specs.Code.Before.{round_at}
use Rattle.explainer.specs.Code.Lower.{Ready}
use Rattle.explainer.specs.Code.Places.{place_of, PlaceIn, AtRoot, HasBeen}
use Rattle.explainer.proofs.Laws.Before.{round-known}
use Rattle.explainer.proofs.Laws.Lower.{nodes-few, node-known}

module _ (t noted : List ℕ) (ready : Ready t noted) where
  pub rises-size : length noted ≡ rises_length
  unfolding rises
  rises-size = ap length ready.rises ∙ rises-length t (rounds (program_in t))

  pub methods-few : (m : ℕ) → m < method_count (program_in t) → m < layout.most_methods
  methods-few m h = omega (arith, method-count t, ready.read.fits.methods)

  -- a node of a place, and what it calls
  module _ (at : Place) (placed : PlaceIn t at) where
    pub node-few : at.node < layout.most_nodes
    node-few = nodes-few t ready.read at.method at.first placed.first at.node placed.fits.node

    pub node-here : node_in t (at.first + at.node) ≡ node_here (program_in t) (place_of at)
    unfolding node_here
    node-here = node-known t ready.read at.method at.first placed.first at.node placed.fits.node

    pub called-few : (node_here (program_in t) (place_of at)).op ≡ 8 → (node_here (program_in t) (place_of at)).U < method_count (program_in t)
    unfolding node_here method_count
    called-few eight =
        (ready.read.well_formed.nodes at.method at.node placed.fits.method placed.fits.node).method (ap uses_method eight)

  -- a method's first frame
  pub at_first : (m : ℕ) → m < method_count (program_in t) → At t m (first_frame (cell t) m)
  at_first m h =
      let within : m < methods_in (cell t) = omega (arith, method-count t) in
      let some : 0 < node_count (cell t) m
      = omega (arith, some-nodes (program_in t) ready.read.well_formed m h, ap (λ (x : Method). length x.nodes) (method-in t m within), nodes-length (cell t) m) in
      let small : first_frame (cell t) m + 0 < layout.most_frames = omega (arith, node-frame t m 0 within some, ready.read.fits.frames) in
      record { method = within; frame = refl; small = omega arith }

  pub root-number : (m r : ℕ) → m < method_count (program_in t) → r ≡ length (method_of (cell t) m).nodes → r - 1 ≡ root_of (method_at (program_in t) m)
  unfolding root_of
  root-number m r h e =
      let within : m < methods_in (cell t) = omega (arith, method-count t) in
      sub-one r ∙ ap pred (e ∙ sym (ap (λ (x : Method). length x.nodes) (method-in t m within)))

  module _ (m S : ℕ) (entry : Entry (program_in t) m S) where
    pub set-few : S < layout.grades
    set-few =
        let within : m < methods_in (cell t) = omega (arith, method-count t, entry.method) in
        omega (arith, entry.set, entry-count t ready.read.fits m within, few-entries t ready.read.fits m within)

    -- a root, found in the tables
    pub at-root : (first node round : ℕ) → first ≡ first_frame (cell t) m → node ≡ root_of (method_at (program_in t) m)
        → AtRoot t m S round (record { method = m; first = first; node = node; set = S; round = round })
    at-root first node round frame last =
        record {
          place = λ i. record { method = m; node = last i; set = S; round = round };
          first = subst (At t m) (sym frame) (at_first m entry.method);
        }

    module _ (round : ℕ) (at : Place) (root : AtRoot t m S round at) (g : ℕ) (e : round ≡ first_round (program_in t) m S g) where
      pub root-found : place_of at ≡ root_place (program_in t) m S g
      unfolding root_place
      root-found = root.place ∙ (λ i. record { method = m; node = root_of (method_at (program_in t) m); set = S; round = e i })

      pub root_in : PlaceIn t at
      root_in =
          record { fits = subst (PlaceFits (program_in t)) (sym root-found) (root-fits (program_in t) ready.read.well_formed m S g entry); first = root.first }

  pub grade-few : (m S g : ℕ) → HasBeen (program_in t) m S g → g ≤ layout.most_grade
  grade-few m S g been = omega (arith, been.has, entry-grade (program_in t) ready.read.well_formed been.round m S)

  -- the first round of a grade that an entry has had
  pub round-found : (m S g : ℕ) → HasBeen (program_in t) m S g → round_at noted (layout.grades * m + S) g ≡ first_round (program_in t) m S g
  round-found m S g been =
      ap (λ (x : List ℕ). round_at x (layout.grades * m + S) g) ready.rises
      ∙ round-known t ready.read m S g been.round been.entry been.undeclared (methods-few m been.entry.method) (set-few m S been.entry) (grade-few m S g been)
      been.within been.has been.stays
