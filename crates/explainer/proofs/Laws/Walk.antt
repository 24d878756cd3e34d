-- Steps one after another: where a step goes on, and how many are left.
-- Assumes nothing.
use Rattle.std.specs.Prelude.{ℕ, suc, ◌≤◌, ◌<◌, Bool, cond, ◌⊎◌, ◌≡◌, Option, Some, None, IfSome, option_map, leb, length}
use mathlib.Core.List.{List, [], ◌∷◌, map}
use Rattle.std.proofs.Common.{inl, inr, sym, ap₂, ◌∙◌, subst, arith, eq-eqb, ne_eqb, leb→le}
use Rattle.std.proofs.Math.Path.{ap}
use Rattle.std.proofs.Math.Decide.{ℕ_discrete}
use Rattle.std.proofs.lemmas.List.{length-map}
use Rattle.frames.specs.Program.{method_at}
use Rattle.reasons.specs.Steps.{Next, ends, goes_on, step_at, turn_at, later, chain_from, most_steps, declared_step, tables_before}
use Rattle.reasons.specs.Reason.{Linked, child, callee, child_of_two, callee_of_two}
use Rattle.reasons.proofs.Laws.Ends.{step_by, onward, chain-step, chain-within}
use Rattle.reasons.proofs.Laws.Bound.{few-open}
use Rattle.solver.specs.Flat.{program_in}
use Rattle.solver.specs.Code.Rounds.{At}
use Rattle.explainer.specs.declared.places.Place.{Place}
use Rattle.explainer.specs.declared.walk.Advanced.{Advanced}
use Rattle.explainer.specs.Code.Lower.{Ready, Lower}
use Rattle.explainer.specs.Code.Places.{place_of, PlaceIn, NodeLower, next_by}
use Rattle.explainer.specs.declared.walk.Step.{Step}
use Rattle.explainer.specs.declared.walk.Walk.{Walk}
use Rattle.explainer.specs.declared.walk.Given.{Given}
use Rattle.explainer.specs.Explain.{step_of}
use Rattle.explainer.specs.Code.Walk.{StepIs, chain_of, rest_of, Going, Entered, GivenAt}
use Rattle.explainer.proofs.Laws.Places.{node-few}

module _ (t noted : List ℕ) (ready : Ready t noted) (at : Place) (placed : PlaceIn t at) where
  -- the next place is one that the program has
  pub placed-next : (to : Option Place) → next_by to ≡ (turn_at (program_in t) (place_of at)).next → IfSome to (λ to. At t to.method to.first) → IfSome to (PlaceIn t)
  placed-next None e first = tt
  placed-next (Some to) e first =
      record { fits = (onward (program_in t) ready.read.well_formed (place_of at) (place_of to) placed.fits (sym e)).fits; first = first }

  module _ (to : Place) (goes : goes_on (place_of to) ≡ (turn_at (program_in t) (place_of at)).next) where
    -- a step that goes on stays in its visit, or goes to an earlier round
    pub stays-or-falls : (to.round < at.round) ⊎ ((to.method ≡ at.method) × (to.round ≡ at.round))
    stays-or-falls =
        go ((onward (program_in t) ready.read.well_formed (place_of at) (place_of to) placed.fits (sym goes)).linked 0)
      where
        go : Linked (step_by (program_in t) (place_of at) (turn_at (program_in t) (place_of at)).rule) (step_by (program_in t) (place_of to) 0)
            → (to.round < at.round) ⊎ ((to.method ≡ at.method) × (to.round ≡ at.round))
        go (child _ _ v) = inr (v.method, v.round)
        go (callee _ _ v) = inl v
        go (child_of_two _ _ _ v) = inr (v.method, v.round)
        go (callee_of_two _ _ _ v) = inl v

    -- within a visit the grades of the nodes stay
    pub lower-stays : (lower : List ℕ) → at.round ≤ to.round → NodeLower t at lower → NodeLower t to lower
    lower-stays lower h known = go stays-or-falls
      where
        go : (to.round < at.round) ⊎ ((to.method ≡ at.method) × (to.round ≡ at.round)) → NodeLower t to lower
        go (inl l) = absurd (omega arith)
        go (inr s) =
            subst (λ (m : ℕ). Lower t (tables_before (program_in t) to.round) m (length (method_at (program_in t) m).nodes) lower) (sym s.0)
            (subst (λ (n : ℕ). Lower t (tables_before (program_in t) n) at.method (length (method_at (program_in t) at.method).nodes) lower) (sym s.1) known)

  -- one step, and the rest of the chain
  chain-next : (next : Option Place) → next_by next ≡ (turn_at (program_in t) (place_of at)).next
      → chain_from (program_in t) (place_of at) ≡ step_at (program_in t) (place_of at) ∷ later (chain_from (program_in t)) (next_by next)
  chain-next next e =
      chain-step (program_in t) ready.read.well_formed (place_of at) placed.fits
      ∙ ap (λ (x : Next). step_at (program_in t) (place_of at) ∷ later (chain_from (program_in t)) x) (sym e)

  pub chain-on : (to : Place) → goes_on (place_of to) ≡ (turn_at (program_in t) (place_of at)).next
      → chain_from (program_in t) (place_of at) ≡ step_at (program_in t) (place_of at) ∷ chain_from (program_in t) (place_of to)
  chain-on to = chain-next (Some to)

  pub chain-last : ends ≡ (turn_at (program_in t) (place_of at)).next → chain_from (program_in t) (place_of at) ≡ step_at (program_in t) (place_of at) ∷ []
  chain-last = chain-next None

  -- a chain has at least the step here
  pub chain-some : 1 ≤ length (chain_from (program_in t) (place_of at))
  chain-some = some (length (chain_from (program_in t) (place_of at))) (ap length (chain-step (program_in t) ready.read.well_formed (place_of at) placed.fits))
    where
      some : (n : ℕ) {m : ℕ} → n ≡ suc m → 1 ≤ n
      some n e = omega arith

  -- a chain is shorter than a machine's numbers
  pub chain-few : length (chain_from (program_in t) (place_of at)) < 65536
  unfolding most_steps
  chain-few =
      omega
      (arith, chain-within (program_in t) ready.read.well_formed (place_of at) placed.fits, few-open (program_in t) ready.read.well_formed, node-few t noted ready at placed)

-- ---- chains as the code has them

module _ (t noted : List ℕ) (ready : Ready t noted) (at : Place) (placed : PlaceIn t at) where
  pub some-round : at.round ≡ 0 → ⊥
  some-round e = omega (arith, placed.fits.round)

  pub chain-here : chain_of t at ≡ map step_of (chain_from (program_in t) (place_of at))
  unfolding chain_of
  chain-here =
      ap (λ (b : Bool). map step_of (cond b (declared_step (program_in t) at.method at.set ∷ []) (chain_from (program_in t) (place_of at)))) (ne_eqb at.round 0 some-round)

pub asked-chain : (t : List ℕ) (at : Place) → at.round ≡ 0 → chain_of t at ≡ step_of (declared_step (program_in t) at.method at.set) ∷ []
unfolding chain_of
asked-chain t at e =
    ap (λ (b : Bool). map step_of (cond b (declared_step (program_in t) at.method at.set ∷ []) (chain_from (program_in t) (place_of at)))) (eq-eqb at.round 0 e)

-- a step of the one kind or the other
pub given-asked : (t noted : List ℕ) (walk : Walk) (step : Step) → walk.at.round ≡ 0 → step ≡ step_of (declared_step (program_in t) walk.at.method walk.at.set)
    → GivenAt t noted walk (record { step = step; next = None })
given-asked t noted walk step e is = record { chain = asked-chain t walk.at e ∙ ap (λ (s : Step). s ∷ []) (sym is); going = tt }

-- where a walk goes on, in a round whose grades are known or not
abbrev pub walk_to : (at to : Place) → Walk
walk_to at to = record { at = to; entered = leb at.round to.round }

module _ (t noted : List ℕ) (ready : Ready t noted) (walk : Walk) (placed : PlaceIn t walk.at) (r : Advanced) (is : StepIs t walk.at r) where
  pub given-step : GivenAt t noted walk (record { step = r.step; next = option_map (walk_to walk.at) r.next })
  given-step = go r.next is.next is.placed
    where
      go : (next : Option Place) → next_by next ≡ (turn_at (program_in t) (place_of walk.at)).next → IfSome next (PlaceIn t)
          → GivenAt t noted walk (record { step = r.step; next = option_map (walk_to walk.at) next })
      go None e there =
          record {
            chain = chain-here t noted ready walk.at placed ∙ ap (map step_of) (chain-next t noted ready walk.at placed None e) ∙ ap (λ (s : Step). s ∷ []) (sym is.step);
            going = tt;
          }
      go (Some to) e there =
          record {
            chain =
                chain-here t noted ready walk.at placed
                ∙ ap (map step_of) (chain-next t noted ready walk.at placed (Some to) e)
                ∙ ap₂ (λ (s : Step) (l : List Step). s ∷ l) (sym is.step) (sym (chain-here t noted ready to there));
            going = record { ready = ready; asking = λ z. absurd (some-round t noted ready to there z); placed = λ _. there };
          }

  pub entered-next : (lower : List ℕ) → NodeLower t walk.at lower → IfSome (option_map (walk_to walk.at) r.next) (λ next. Entered t next lower)
  entered-next lower known = go r.next is.next
    where
      go : (next : Option Place) → next_by next ≡ (turn_at (program_in t) (place_of walk.at)).next
          → IfSome (option_map (walk_to walk.at) next) (λ next. Entered t next lower)
      go None e = tt
      go (Some to) e =
          record { size = known.size; known = λ l. lower-stays t noted ready walk.at placed to e lower (leb→le walk.at.round to.round l) known }

-- how many steps a chain has: some, and no more than a machine can count
pub steps-few : (t noted : List ℕ) (walk : Walk) → Going t noted walk → length (chain_of t walk.at) < 65536
steps-few t noted walk going = go (ℕ_discrete walk.at.round 0)
  where
    go : Dec (walk.at.round ≡ 0) → length (chain_of t walk.at) < 65536
    go (yes z) = let one : length (chain_of t walk.at) ≡ 1 = ap length (asked-chain t walk.at z) in omega arith
    go (no z) =
        let same : length (chain_of t walk.at) ≡ length (chain_from (program_in t) (place_of walk.at))
        = ap length (chain-here t noted going.ready walk.at (going.placed z)) ∙ length-map (chain_from (program_in t) (place_of walk.at)) step_of in
        omega (arith, chain-few t noted going.ready walk.at (going.placed z))

pub some_left : (t noted : List ℕ) (walk : Walk) (r : Given) → GivenAt t noted walk r → length (chain_of t walk.at) ≡ suc (length (rest_of t r.next))
some_left t noted walk r given = ap length given.chain
