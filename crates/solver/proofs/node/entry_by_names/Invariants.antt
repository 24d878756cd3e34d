use Prim.Native.Nat.{◌^◌, ◌<◌}
use mathlib.Core.Path.{◌≡◌}
use lib.ListN.{drop}
use Rattle.solver.specs.Flat.{tables_in}
use Rattle.meaning.specs.Meaning.{matching, largest}
use Rattle.solver.specs.Code.Engine.{entries_from}
use Rattle.solver.proofs.node.entry_by_names.Given as goal

abbrev pub invariant-loop-j : goal.invariant-loop-j
invariant-loop-j l =
    (l.inside < 2 ^ l.j)
    × (largest (tables_in l.grades l.u) (matching l.names l.set) ≡ largest (entries_from (tables_in l.grades l.u) l.j l.inside) (matching (drop l.j l.names) l.set))
