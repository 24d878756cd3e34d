use Rattle.std.proofs.Common.{◌≡◌, ◌+◌, ◌*◌, length, drop}
use Rattle.lines.specs.Lines.{paired, bytes}
use Rattle.lines.proofs.lines.frame_length.Given as goal

abbrev pub invariant-loop-i : goal.invariant-loop-i
invariant-loop-i l =
    (paired l.line ≡ paired (drop (2 * l.i) l.line))
    × (length (bytes l.line) ≡ l.i + length (bytes (drop (2 * l.i) l.line)))
