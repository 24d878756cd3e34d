-- `refusal_frame` meets its contract: the frame's nine bytes.
-- Assumes nothing.
use Rattle.std.proofs.Common.{refl}
use Rattle.session.specs.Session.{refusal_frame}
use Rattle.session.proofs.figures.refusal_frame.Goals as goal

pub returns : goal.returns
unfolding refusal_frame
returns c = simp (c.high.ensures, c.low.ensures, c.low-2.ensures, c.low-3.ensures, c.high-2.ensures, c.low-4.ensures, c.low-5.ensures) refl
