use Rattle.frames.specs.Code.Steps.{Going}
use Rattle.lines.specs.Lines.{lines}
use lib.ListN.{length, drop}
use Prim.Native.Nat.{◌-◌}
use Rattle.frames.proofs.reading.read_one.Given as goal

abbrev pub invariant-loop-named : goal.invariant-loop-named
invariant-loop-named l = Going l.text (lines (drop l.start l.text)) l.tables l.named l.place.at l.place.line (l.place.line - 1) l.stand

abbrev pub decreases-loop-named : goal.decreases-loop-named
decreases-loop-named l = length l.text - l.place.at
