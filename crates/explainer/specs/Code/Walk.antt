-- What walking a chain comes to.
-- Assumes nothing.
use Rattle.std.specs.Prelude.{ℕ, cond, List, [], ◌∷◌, map, ◌≡◌, Option, Some, None, IfSome, T, eqb, length}
use Rattle.frames.specs.Program.{method_at}
use Rattle.meaning.specs.Meaning.{root_of}
use Rattle.meaning.specs.Constraints.{Entry}
use Rattle.reasons.specs.Steps.{step_at, turn_at, chain_from, declared_step}
use Rattle.solver.specs.Flat.{program_in}
use Rattle.explainer.specs.declared.places.Place.{Place}
use Rattle.explainer.specs.declared.walk.Step.{Step}
use Rattle.explainer.specs.declared.walk.Advanced.{Advanced}
use Rattle.explainer.specs.declared.walk.Walk.{Walk}
use Rattle.explainer.specs.declared.walk.Given.{Given}
use Rattle.explainer.specs.Explain.{step_of}
use Rattle.explainer.specs.Code.Lower.{Read, Ready, lower_length}
use Rattle.explainer.specs.Code.Places.{place_of, PlaceIn, NodeLower, next_by}

-- the step at a place, and where the chain goes on
pub record StepIs (t : List ℕ) (at : Place) (r : Advanced) : Type 0 where
  pub step : r.step ≡ step_of (step_at (program_in t) (place_of at))
  pub next : next_by r.next ≡ (turn_at (program_in t) (place_of at)).next
  pub placed : IfSome r.next (PlaceIn t)

-- ---- chains, and the one step of a declared method that is asked for, which stands at round 0

-- a declared entry, at its method's root
pub record Asking (t : List ℕ) (at : Place) : Type 0 where
  pub read : Read t
  pub entry : Entry (program_in t) at.method at.set
  pub root : at.node ≡ root_of (method_at (program_in t) at.method)

-- the steps that are to come
unfoldable pub chain_of : List ℕ → Place → List Step
chain_of t at =
    map step_of (cond (eqb at.round 0) (declared_step (program_in t) at.method at.set ∷ []) (chain_from (program_in t) (place_of at)))

-- where there are some
pub record Going (t noted : List ℕ) (walk : Walk) : Type 0 where
  pub ready : Ready t noted
  pub asking : walk.at.round ≡ 0 → Asking t walk.at
  pub placed : (walk.at.round ≡ 0 → ⊥) → PlaceIn t walk.at

-- the grades of the nodes, if they are worked out
pub record Entered (t : List ℕ) (walk : Walk) (lower : List ℕ) : Type 0 where
  pub size : length lower ≡ lower_length
  pub known : T walk.entered → NodeLower t walk.at lower

-- the steps from where a chain goes on; none where it ends
abbrev pub rest_of : List ℕ → Option Walk → List Step
rest_of t (Some walk) = chain_of t walk.at
rest_of t None = []

-- one step, and those behind it
pub record GivenAt (t noted : List ℕ) (walk : Walk) (r : Given) : Type 0 where
  pub chain : chain_of t walk.at ≡ r.step ∷ rest_of t r.next
  pub going : IfSome r.next (Going t noted)
