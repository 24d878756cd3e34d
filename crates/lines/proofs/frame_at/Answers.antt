-- `frame_at` meets its contract: the line ends where the place after it stands, so what is cut out between the two is the line.
-- Assumes nothing.
use Rattle.std.proofs.Common.{arith}
use Rattle.lines.specs.Laws.Places.{past-line}
use Rattle.lines.specs.Laws.Reader.{at-end, at-line}
use Rattle.lines.proofs.frame_at.Goals as goal

pub returns-then-text-place : goal.returns-then-text-place
returns-then-text-place c = at-end _ _ c.if-text-place.true

pub slice_bounds-frame_length-count : goal.slice_bounds-frame_length-count
slice_bounds-frame_length-count c = (past-line _ _ _ (omega arith) c.past_line-after.ensures).from

pub slice_bounds-frame_length-start : goal.slice_bounds-frame_length-start
slice_bounds-frame_length-start c = (past-line _ _ _ (omega arith) c.past_line-after.ensures).from

pub slice_bounds-frame_length-end : goal.slice_bounds-frame_length-end
slice_bounds-frame_length-end c = (past-line _ _ _ (omega arith) c.past_line-after.ensures).to

pub returns : goal.returns
returns c = at-line _ _ _ _ (omega arith) c.past_line-after.ensures c.frame_length-bytes.ensures
