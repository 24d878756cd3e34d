-- `line_end` meets its contract: what is left of the line at each place adds up with the bytes passed.
-- Assumes nothing.
use Rattle.std.proofs.Common.{arith}
use Rattle.lines.specs.Laws.Lines.{line-ends, line-goes-on, line-at-end}
use Rattle.lines.proofs.lines.line_end.Goals as goal

pub returns-then-text-i-eq-NEWLINE : goal.returns-then-text-i-eq-NEWLINE
returns-then-text-i-eq-NEWLINE c = omega (arith, line-ends c.args.text.now c.loop-i.i (omega arith) c.if-text-i-eq-NEWLINE.true)

pub loop-i-preserved : goal.loop-i-preserved
loop-i-preserved c = omega (arith, line-goes-on c.args.text.now c.loop-i.i (omega arith) c.if-text-i-eq-NEWLINE.false)

pub returns : goal.returns
returns c = omega (arith, line-at-end c.args.text.now c.loop-i.i (omega arith))
