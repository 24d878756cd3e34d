-- `too_many` meets its contract: the line there is malformed or misplaced.
-- Assumes nothing.
use Rattle.frames.specs.Laws.WholeText.{surplus-bad, surplus-good}
use Rattle.lines.specs.Lines.{frame_length}
use lib.ListN.{take, drop}
use Prim.Native.Nat.{ℕ}
use mathlib.Core.Path.{sym, ap, ◌∙◌}
use Rattle.lines.specs.Laws.Places.{past-line}
use Rattle.lines.specs.Places.{line_from}
use Rattle.frames.proofs.reading.too_many.Goals as goal

pub slice_bounds-frame_length-count : goal.slice_bounds-frame_length-count
slice_bounds-frame_length-count c = (past-line _ _ _ c.requires c.past_line-next.ensures).from

pub slice_bounds-frame_length-start : goal.slice_bounds-frame_length-start
slice_bounds-frame_length-start c = (past-line _ _ _ c.requires c.past_line-next.ensures).from

pub slice_bounds-frame_length-end : goal.slice_bounds-frame_length-end
slice_bounds-frame_length-end c = (past-line _ _ _ c.requires c.past_line-next.ensures).to

pub returns-then-frame_length-eq0 : goal.returns-then-frame_length-eq0
returns-then-frame_length-eq0 c = let text = c.args.text.now in
    let p = c.args.place in
    let n = past-line text p c.past_line-next.result c.requires c.past_line-next.ensures in
    let e = ap (λ (k : ℕ). frame_length (take k (drop p.at text))) n.is in
    surplus-bad (line_from text p.at) p.line (sym (c.frame_length.ensures ∙ e) ∙ c.if-frame_length-eq0.true)

pub returns-else-frame_length-eq0 : goal.returns-else-frame_length-eq0
returns-else-frame_length-eq0 c = let text = c.args.text.now in
    let p = c.args.place in
    let n = past-line text p c.past_line-next.result c.requires c.past_line-next.ensures in
    let e = ap (λ (k : ℕ). frame_length (take k (drop p.at text))) n.is in
    surplus-good (line_from text p.at) p.line (λ z. c.if-frame_length-eq0.false ((c.frame_length.ensures ∙ e) ∙ z))
