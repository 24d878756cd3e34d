-- What the closed constraints come to, as the code hands it over.
-- Assumes nothing.
use Rattle.meaning.specs.Constraints as constraints
use Rattle.meaning.specs.Constraints.{method_of, kind_of, node_of}
use Rattle.std.specs.Prelude.{Option, Some, None}
use Rattle.solver.specs.declared.constraints.Broken.{Broken}

-- "Refusal 7 gives the method .., kind, fork node .. and the lowest held set at which the named constraint is broken."
abbrev pub found : constraints.Finding → Option Broken
found constraints.none_broken = None
found (constraints.broken c H) = Some (record { method = method_of c; kind = kind_of c; node = node_of c; set = H })
