-- A reader that is moved past each frame gives out the frames of the text's lines, each once and in order, with its line number, and then
-- the end.
-- Assumes nothing.
use Rattle.std.specs.Prelude.{ℕ, zero, suc, ◌+◌, ◌^◌, ◌<◌, ◌≤◌, ◌≡◌, refl, List, [], length, get_or, drop, Some, None}
use Rattle.std.proofs.Common.{sym, ap, ◌∙◌, ⊎_elim, arith, length-drop, drop_of_length-le, lt-ltb}
use Rattle.lines.specs.Lines.{lines, frame_length}
use Rattle.lines.specs.Places.{past_line}
use Rattle.lines.specs.Laws.Places.{past-line-at}
use Rattle.lines.specs.declared.Place.{Place}
use Rattle.lines.specs.Reader.{start, found, frame_at}
use Rattle.lines.specs.Laws.Reader.{at-end}
use Rattle.lines.specs.Laws.Lines.{line_at}
use Rattle.counting.specs.Laws.Tests.{lt-or-le}

-- the place after so many frames
unfoldable pub after : List ℕ → ℕ → Place
after t zero = start
after t (suc n) = past_line t (after t n)

-- where lines are left, so is text
more : (t : List ℕ) (at n : ℕ) → lines (drop at t) ≡ drop n (lines t) → n < length (lines t) → at < length t
unfolding lines
more t at n e l =
    ⊎_elim
    (λ (h : at < length t). h)
    (λ (h : length t ≤ at). absurd (omega (arith, ap length (sym e ∙ ap lines (drop_of_length-le t h)), length-drop n (lines t))))
    (lt-or-le at (length t))

-- what is left of the text has the lines that are left
left : (t : List ℕ) (n : ℕ) → n ≤ length (lines t) → lines (drop (after t n).at t) ≡ drop n (lines t)
unfolding after
left t zero l = refl
left t (suc n) l =
    let e = left t n (omega arith) in
    let h = more t (after t n).at n e (omega arith) in
    let one : n + 1 ≡ suc n = omega arith in
    ap (λ (k : ℕ). lines (drop k t)) (past-line-at t (after t n) h)
    ∙ ((line_at t (lines t) (after t n).at n h e).rest ∙ ap (λ (k : ℕ). drop k (lines t)) one)

-- frame n is that of line n, both counted from 0
pub in_order : (t : List ℕ) (n : ℕ) → n < length (lines t) → frame_at t (after t n) ≡ Some (found (after t n) (frame_length (get_or (lines t) n [])) (after t (suc n)))
unfolding frame_at after
in_order t n l =
    let e = left t n (omega arith) in
    let h = more t (after t n).at n e l in
    rw (lt-ltb (after t n).at (length t) h) (ap (λ (k : List ℕ). Some (found (after t n) (frame_length k) (past_line t (after t n)))) (line_at t (lines t) (after t n).at n h e).its)

-- its line number counts from 1
pub counted : (t : List ℕ) (n : ℕ) → n < length (lines t) → n + 1 < 2 ^ 64 → (after t n).line ≡ n + 1
unfolding after past_line
counted t zero l f = refl
counted t (suc n) l f =
    let c = counted t n (omega arith) (omega arith) in
    rw (lt-ltb (after t n).at (length t) (more t (after t n).at n (left t n (omega arith)) (omega arith))) (omega arith)

-- after the last line there is the end
pub ends : (t : List ℕ) → frame_at t (after t (length (lines t))) ≡ None
ends t =
    let n = length (lines t) in
    let p = after t n in
    ⊎_elim
    (λ (h : p.at < length t). absurd (omega (arith, (line_at t (lines t) p.at n h (left t n (omega arith))).inside)))
    (λ (h : length t ≤ p.at). sym (at-end t p h))
    (lt-or-le p.at (length t))
