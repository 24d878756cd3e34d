-- The reason of a refused text, as the code finds it.
-- Assumes nothing.
use Rattle.std.specs.Prelude.{ℕ, List, [], ◌≡◌, Option, MatchOption}
use Rattle.explainer.specs.declared.asked.Chain.{Chain}
use Rattle.explainer.specs.declared.walk.Step.{Step}
use Rattle.explainer.specs.Code.Asked.{Gives}

-- all of some steps are to be given, or there are none
abbrev pub GivesAny : (t noted : List ℕ) (steps : List Step) → Option Chain → Type 0
GivesAny t noted steps r = MatchOption r (steps ≡ []) (λ chain. Gives t noted steps chain)
