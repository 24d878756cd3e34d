use Prim.Native.Nat.{◌*◌}
use Rattle.frames.specs.Layout.{layout}
use Rattle.lines.specs.Lines.{bytes}
use lib.Seq.{paste}
use mathlib.Core.Path.{◌≡◌}
use Rattle.frames.proofs.reading.store.Given as goal

abbrev pub invariant-loop-b : goal.invariant-loop-b
invariant-loop-b l = l.tables ≡ paste l.fn.tables (l.j * layout.stride) (bytes l.line) l.b
