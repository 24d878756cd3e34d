use Rattle.std.proofs.Common.{◌≡◌, ◌+◌, drop}
use Rattle.lines.specs.Lines.{line_length}
use Rattle.lines.proofs.lines.line_end.Given as goal

abbrev pub invariant-loop-i : goal.invariant-loop-i
invariant-loop-i l = l.at + line_length (drop l.at l.text) ≡ l.i + line_length (drop l.i l.text)
