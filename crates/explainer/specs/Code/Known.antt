-- Tables that were read, with what the solver found.
-- Assumes nothing.
use Rattle.std.specs.Prelude.{◌≡◌, Some}
use Rattle.solver.specs.Rises.{risen_in}
use Rattle.explainer.specs.declared.known.Known.{Known}
use Rattle.explainer.specs.Code.Lower.{Read}

pub record IsKnown (known : Known) : Type 0 where
  pub read : Read known.tables.bytes
  pub solved : Some known.risen ≡ risen_in known.tables.bytes
