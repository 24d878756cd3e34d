-- What is asked, as the code finds it.
-- Assumes nothing.
use Rattle.std.specs.Prelude.{ℕ, ◌≤◌, false, List, ◌≡◌, length, Result, Ok, Err, MatchResult}
use Rattle.checker.specs.Code.Steps.{solved_verdict}
use Rattle.solver.specs.Flat.{program_in}
use Rattle.explainer.specs.declared.asked.Refusal.{Refusal}
use Rattle.explainer.specs.declared.asked.Chain.{Chain}
use Rattle.explainer.specs.declared.walk.Walk.{Walk}
use Rattle.explainer.specs.declared.walk.Step.{Step}
use Rattle.explainer.specs.Explain.{steps_of, reason_by_verdict}
use Rattle.explainer.specs.Code.Walk.{chain_of, Going}

-- a walk along all of some steps
pub record Along (t noted : List ℕ) (steps : List Step) (walk : Walk) : Type 0 where
  pub going : Going t noted walk
  pub chain : chain_of t walk.at ≡ steps
  pub entered : walk.entered ≡ false

-- along a reason
abbrev pub StartsAt : (t noted : List ℕ) (m H : ℕ) (walk : Walk) → Type 0
StartsAt t noted m H walk = Along t noted (steps_of (program_in t) m H) walk

-- all of some steps are to be given
pub record Gives (t noted : List ℕ) (steps : List Step) (r : Chain) : Type 0 where
  pub all : r.count ≡ length steps
  pub along : Along t noted steps r.walk

-- of tables that were read: all of the reason, or a refusal
abbrev pub AskedOf : (t noted : List ℕ) (m H room : ℕ) → Result Chain Refusal → Type 0
AskedOf t noted m H room r =
    MatchResult r
    (λ chain. (Ok chain.count ≡ reason_by_verdict (solved_verdict t) (program_in t) m H room) × (chain.count ≤ room) × Gives t noted (steps_of (program_in t) m H) chain)
    (λ why. Err why ≡ reason_by_verdict (solved_verdict t) (program_in t) m H room)
