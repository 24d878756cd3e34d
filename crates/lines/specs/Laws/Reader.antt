-- A text's end, and a line of it, as the code finds them.
-- Assumes nothing.
use Rattle.std.specs.Prelude.{ℕ, ◌-◌, ◌<◌, ◌≤◌, ◌≡◌, List, length, take, drop, Some, None}
use Rattle.std.proofs.Common.{sym, ap, ◌∙◌, le-ltb, lt-ltb}
use Rattle.lines.specs.Lines.{frame_length}
use Rattle.lines.specs.Places.{past_line, line_from}
use Rattle.lines.specs.declared.Place.{Place}
use Rattle.lines.specs.Reader.{found, frame_at}
use Rattle.lines.specs.Laws.Places.{past-line}

pub at-end : (t : List ℕ) (p : Place) → length t ≤ p.at → None ≡ frame_at t p
unfolding frame_at
at-end t p l = sym (rw (le-ltb p.at (length t) l))

-- the code cuts the line out of the text by the place after it
pub at-line : (t : List ℕ) (p after : Place) (b : ℕ) → p.at < length t → after ≡ past_line t p → b ≡ frame_length (take (after.at - p.at) (drop p.at t))
    → Some (found p b after) ≡ frame_at t p
unfolding frame_at
at-line t p after b l e f =
    let n = past-line t p after l e in
    let g = f ∙ ap (λ (k : ℕ). frame_length (take k (drop p.at t))) n.is in
    ap (λ (c : ℕ). Some (found p c after)) g
    ∙ (ap (λ (q : Place). Some (found p (frame_length (line_from t p.at)) q)) e ∙ sym (rw (lt-ltb p.at (length t) l)))
