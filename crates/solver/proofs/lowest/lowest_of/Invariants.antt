use mathlib.Core.Path.{◌≡◌}
use Prim.Native.Nat.{◌+◌, ◌*◌, ◌-◌}
use Rattle.frames.specs.Layout.{layout}
use Rattle.frames.specs.Frames.{methods_in}
use Rattle.frames.specs.Tables.{cell}
use Rattle.meaning.specs.Lowest.{rounds}
use Rattle.solver.specs.Flat.{program_in, flat}
use Rattle.solver.specs.Laws.Rounds.{after_rounds, Rising}
use Rattle.solver.proofs.lowest.lowest_of.Given as goal

abbrev pub invariant-loop-new : goal.invariant-loop-new
invariant-loop-new g l = record {
  used : l.used ≡ layout.grades * methods_in (cell l.placed.tables.now);
  tables : l.old ≡ flat (after_rounds l.placed.tables.now l.n);
  rising : Rising l.placed.tables.now l.n;
  kept : g.N.Notes.Kept l.placed.tables.now l.n l.notes;
}

abbrev pub decreases-loop-new : goal.decreases-loop-new
decreases-loop-new g l = rounds (program_in l.placed.tables.now) + 1 - l.n
