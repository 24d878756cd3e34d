-- The whole text: one text, and nothing after it.
-- Assumes nothing.
use Rattle.std.specs.Prelude.{ℕ, zero, suc, ◌+◌, ◌≤◌, ◌<◌, ◌≡◌, refl, Bool, true, false, cond, ◌⊎◌, ltb, get_or, Option, Some, None, Ok, Err}
use Rattle.std.proofs.Math.Path.{ap, sym, fun_ext}
use Rattle.std.proofs.Common.{◌∙◌, inl, inr, ⊎_elim, arith, drop_of_length-le, lt-ltb, le-ltb}
use mathlib.Core.List.{List, []}
use Rattle.std.proofs.Math.ListN.{length, drop, length-drop, get_or-eq_default}
use Rattle.frames.specs.Layout.{layout}
use Rattle.lines.specs.Lines.{lines, bytes, frame_length, well_formed}
use Rattle.frames.specs.Frames.{frames_of, due, placed}
use Rattle.frames.specs.Laws.Steps.{placed-long}
use Rattle.frames.specs.Laws.Sound.{never-sound}
use Rattle.frames.specs.Tables.{table_of}
use Rattle.frames.specs.Reading.{fault_of, fault_at, read_one, read_from, read_all, nothing_more, Stop, on_due, on_fault, ended, refusal_of, checked, checked_lines, read_text}
use Rattle.frames.specs.Code.Steps.{first_frames, surplus, OneWhole, OneRefused}
use Rattle.frames.specs.declared.Due.{Due}
use Rattle.frames.specs.declared.Due.TheVariants.{Header, Field, Method, Node, End}
use Rattle.frames.specs.declared.Fault.{Fault}
use Rattle.frames.specs.declared.Fault.TheVariants.{Malformed, Misplaced}
use Rattle.frames.specs.declared.Refusal.{Refusal}
use Rattle.frames.specs.declared.OneText.{OneText}
use Rattle.lines.specs.Laws.Lines.{line_at}
use Rattle.counting.specs.Laws.Tests.{lt-or-le}
use Rattle.lines.specs.Places.{line_from}

-- a line too many
pub surplus-bad : (l : List ℕ) (n : ℕ) → frame_length l ≡ 0 → Refusal.Malformed n ≡ surplus l n
unfolding well_formed
surplus-bad l n e = sym (rw e)

pub surplus-good : (l : List ℕ) (n : ℕ) → (frame_length l ≡ 0 → ⊥) → Refusal.Misplaced n ≡ surplus l n
unfolding well_formed
surplus-good l n e = sym (rw (lt-ltb 0 (frame_length l) (⊎_elim (λ (h : 0 < frame_length l). h) (λ (z : frame_length l ≤ 0). absurd (e (omega arith))) (lt-or-le 0 (frame_length l)))))

-- where one text is sound, the end is due after it
on-end : (d : Due) (i : ℕ) → ended d ≡ None → d ≡ End
on-end Header i e = cc
on-end Field i e = cc
on-end Method i e = cc
on-end Node i e = cc
on-end End i e = refl

sound-end : (ls : List (List ℕ)) (i n : ℕ) → (read_from ls i n).fault ≡ None → due (frames_of ls) (read_from ls i n).before ≡ End
unfolding read_from
sound-end ls i zero e = on-end (due (frames_of ls) i) i e
sound-end ls i (suc n) e = go (due (frames_of ls) i) refl (fault_at ls i) e (sound-end ls (suc i) n)
  where
    r : Stop
    r = read_from ls (suc i) n

    after : (x : Option Fault) → (on_fault x i r).fault ≡ None → (r.fault ≡ None → due (frames_of ls) r.before ≡ End)
        → due (frames_of ls) (on_fault x i r).before ≡ End
    after None p h = h p
    after (Some y) p h = absurd (never-sound y refl p)

    go : (d : Due) → due (frames_of ls) i ≡ d → (x : Option Fault) → (on_due d i (on_fault x i r)).fault ≡ None
        → (r.fault ≡ None → due (frames_of ls) r.before ≡ End) → due (frames_of ls) (on_due d i (on_fault x i r)).before ≡ End
    go Header q x p h = after x p h
    go Field q x p h = after x p h
    go Method q x p h = after x p h
    go Node q x p h = after x p h
    go End q x p h = q

pub one-sound-end : (ls : List (List ℕ)) → (read_one ls).fault ≡ None → due (frames_of ls) (read_one ls).before ≡ End
unfolding read_one
one-sound-end ls e = sound-end ls 0 (length ls) e

-- the fault of a line there
end-fault : (ls : List (List ℕ)) (i : ℕ) → due (frames_of ls) i ≡ End
    → (x : Fault) × (fault_at ls i ≡ Some x) × (refusal_of x i ≡ surplus (get_or ls i []) (i + 1))
unfolding fault_at fault_of well_formed
end-fault ls i e = rw e (go (lt-or-le 0 (frame_length (get_or ls i []))))
  where
    l : List ℕ
    l = get_or ls i []

    go : (0 < frame_length l) ⊎ (frame_length l ≤ 0)
        → (x : Fault) × (fault_of (frames_of ls) End i l ≡ Some x) × (refusal_of x i ≡ surplus l (i + 1))
    go (inl h) = (Misplaced, rw (lt-ltb 0 (frame_length l) h, not-placed (placed End l) refl), rw (lt-ltb 0 (frame_length l) h))
      where
        not-placed : (b : Bool) → placed End l ≡ b → placed End l ≡ false
        not-placed true q = absurd (omega (arith, placed-long End l q))
        not-placed false q = q
    go (inr z) = (Malformed, rw (le-ltb 0 (frame_length l) z), rw (le-ltb 0 (frame_length l) z))

-- no line is sound there
pub end-unsound : (ls : List (List ℕ)) (i : ℕ) → due (frames_of ls) i ≡ End → (x : Fault) × (fault_at ls i ≡ Some x)
end-unsound ls i e = let f = end-fault ls i e in (f.0, f.1)

-- frames past the lines are empty
first-frames-all : (ls : List (List ℕ)) (i : ℕ) → length ls ≤ i → first_frames i (frames_of ls) ≡ frames_of ls
unfolding first_frames frames_of bytes
first-frames-all ls i h = fun_ext (λ j. fun_ext (λ b. ⊎_elim
    (λ (l : j < i). rw (lt-ltb j i l))
    (λ (g : i ≤ j). rw (le-ltb j i g, get_or-eq_default ls [] {n = j} (omega arith)))
    (lt-or-le j i)))

-- a fault gives no tables
pub fault-refusal : (ls : List (List ℕ)) (x : Fault) (i : ℕ) → read_all ls ≡ record { fault = Some x; before = i } → checked_lines ls ≡ Err (refusal_of x i)
unfolding checked_lines
fault-refusal ls x i e = ap (λ (q : Stop). checked ls q.fault q.before) e

module _ (text : List ℕ) (fits : length text ≤ layout.most_text) where
  -- the text is not too long
  pub text-lines : read_text text ≡ checked_lines (lines text)
  unfolding read_text
  text-lines = rw (le-ltb layout.most_text (length text) fits)

  -- one text is refused
  pub read-refused : (r : Refusal) → OneRefused (lines text) r → read_text text ≡ Err r
  unfolding read_all
  read-refused r is =
      let ls = lines text in
      text-lines
      ∙ (fault-refusal ls is.fault (read_one ls).before (ap (λ (y : Option Fault). nothing_more ls y (read_one ls).before) is.found)
      ∙ ap (λ (q : Refusal). Err q) (sym is.refusal))

  module _ (one : OneText) (is : OneWhole text (lines text) one) where
    read-on : read_all (lines text) ≡ record { fault = cond (ltb (read_one (lines text)).before (length (lines text))) (fault_at (lines text) (read_one (lines text)).before) None; before = (read_one (lines text)).before }
    unfolding read_all
    read-on = ap (λ (x : Option Fault). nothing_more (lines text) x (read_one (lines text)).before) is.sound

    -- a line too many
    pub read-surplus : one.after.at < length text → read_text text ≡ Err (surplus (line_from text one.after.at) one.after.line)
    read-surplus l =
        let ls = lines text in
        let i = (read_one ls).before in
        let w = line_at text ls one.after.at i l is.rest in
        let f = end-fault ls i (one-sound-end ls is.sound) in
        let ra : read_all ls ≡ record { fault = Some f.0; before = i } =
        read-on ∙ rw (lt-ltb i (length ls) (omega (arith, w.inside)), f.1) in
        let o : refusal_of f.0 i ≡ surplus (line_from text one.after.at) one.after.line =
        f.2 ∙ sym (ap (λ (k : List ℕ). surplus k one.after.line) w.its ∙ ap (surplus (get_or ls i [])) is.line) in
        text-lines ∙ (fault-refusal ls f.0 i ra ∙ ap (λ (q : Refusal). Err q) o)

    -- nothing follows
    pub read_whole : length text ≤ one.after.at → read_text text ≡ Ok one.tables
    unfolding checked_lines lines
    read_whole g =
        let ls = lines text in
        let i = (read_one ls).before in
        let e : drop i ls ≡ [] = sym is.rest ∙ ap lines (drop_of_length-le text g) in
        let past : length ls ≤ i = omega (arith, length-drop i ls, ap length e) in
        let ra : read_all ls ≡ record { fault = None; before = i } = read-on ∙ rw (le-ltb i (length ls) past) in
        let tb : table_of (frames_of ls) ≡ one.tables.bytes = sym (is.table ∙ ap table_of (first-frames-all ls i past)) in
        text-lines ∙ (ap (λ (q : Stop). checked ls q.fault q.before) ra ∙ (λ k. Ok (record { bytes = tb k })))

-- a text that is too long
pub read-long : (text : List ℕ) → layout.most_text < length text → read_text text ≡ Err Refusal.Overlong
unfolding read_text
read-long text h = rw (lt-ltb layout.most_text (length text) h)
