-- `frame_length` meets its contract: the pairs passed are digits, and what is left decides.
-- Assumes nothing.
use Rattle.std.proofs.Common.{◌≡◌, ℕ, ◌*◌, ◌/◌, length, get_or, sym, ◌∙◌, ap, arith, eq-eqb, ne_eqb}
use Rattle.lines.specs.Laws.Lines.{pair-step, pair-fails, pair-last, pair-past, frame-length-good, frame-length-bad}
use Rattle.lines.proofs.lines.frame_length.Goals as goal

pub returns-then-not-is_pair : goal.returns-then-not-is_pair
returns-then-not-is_pair c = let l = c.args.line.now in
    sym (frame-length-bad l (c.loop-i.invariant.0 ∙ pair-fails l c.loop-i.i (omega arith) (sym c.is_pair.ensures ∙ c.if-not-is_pair.true)))

pub loop-i-preserved : goal.loop-i-preserved
loop-i-preserved c = let e = pair-step c.args.line.now c.loop-i.i (omega arith) (sym c.is_pair.ensures ∙ c.if-not-is_pair.false) in
    (c.loop-i.invariant.0 ∙ e.0, omega (arith, e.1))

pub returns-then-line-eq0 : goal.returns-then-line-eq0
returns-then-line-eq0 c = let l = c.args.line.now in
    sym (frame-length-bad l (c.loop-i.invariant.0 ∙ pair-past l (2 * c.loop-i.i) (omega arith)))

pub returns-then-line-pairs-eq-NEWLINE : goal.returns-then-line-pairs-eq-NEWLINE
returns-then-line-pairs-eq-NEWLINE c = let l = c.args.line.now in
    let n : c.loop-i.i ≡ length l / 2 = omega arith in
    let e = pair-last l (2 * c.loop-i.i) (omega arith) in
    let good = c.loop-i.invariant.0 ∙ (e.0 ∙ eq-eqb _ _ (ap (λ (k : ℕ). get_or l (2 * k) 0) n ∙ c.if-line-pairs-eq-NEWLINE.true)) in
    omega (arith, frame-length-good l good, e.1)

pub returns-else-line-pairs-eq-NEWLINE : goal.returns-else-line-pairs-eq-NEWLINE
returns-else-line-pairs-eq-NEWLINE c = let l = c.args.line.now in
    let n : c.loop-i.i ≡ length l / 2 = omega arith in
    let e = pair-last l (2 * c.loop-i.i) (omega arith) in
    sym (frame-length-bad l (c.loop-i.invariant.0 ∙ (e.0 ∙ ne_eqb _ _ (λ h. c.if-line-pairs-eq-NEWLINE.false (ap (λ (k : ℕ). get_or l (2 * k) 0) (sym n) ∙ h)))))
