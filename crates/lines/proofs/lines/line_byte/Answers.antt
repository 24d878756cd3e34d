-- `line_byte` meets its contract: below the count of pairs byte b is made of its two digits, and past them there is none.
-- Assumes nothing.
use Rattle.std.proofs.Common.{sym, arith}
use Rattle.lines.specs.Laws.Lines.{bytes-at, bytes-length, bytes_past}
use Rattle.lines.proofs.lines.line_byte.Goals as goal

pub returns-then-line-b : goal.returns-then-line-b
returns-then-line-b c = sym (bytes_past _ _ c.if-line-b.true)

pub returns : goal.returns
returns c = let a = c.args in
    omega (arith, c.digit_or_16-high.ensures, c.digit_or_16-low.ensures, bytes-at a.line.now a.b (omega (arith, bytes-length a.line.now)))
