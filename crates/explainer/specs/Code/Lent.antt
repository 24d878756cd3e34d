-- Steps put one behind another, into a list of steps or into bytes.
-- Assumes nothing.
use Rattle.std.specs.Prelude.{ℕ, List, [], ◌≡◌, refl}
use Rattle.explainer.specs.declared.walk.Step.{Step}
use Rattle.explainer.specs.Explain.{bytes_of, steps_over, bytes_over}

pub over_none : (old : List Step) → steps_over [] old ≡ old
over_none old = refl

pub bytes_over_none : (old : List ℕ) → bytes_over [] old ≡ old
unfolding bytes_of
bytes_over_none old = refl
