-- A line's bytes put into the tables: its frame stands there, and every other frame as before.
-- Assumes nothing.
use Rattle.std.specs.Prelude.{ℕ, suc, ◌+◌, ◌-◌, ◌*◌, ◌≤◌, ◌<◌, ◌≡◌, List, ◌++◌, length, get_or, set, take, drop}
use Rattle.std.proofs.Common.{ap, ◌∙◌, arith, get_or-take, get_or-drop, get_or-append-add, length-take-le, add-one, lt-ltb, le-ltb}
use Rattle.std.proofs.Math.Path.{sym}
use Rattle.std.proofs.Math.Logic.{⊎_elim}
use Rattle.std.proofs.Math.ListN.{get_or-append, get_or-eq_default}
use Rattle.std.proofs.Math.Seq.{paste, length_paste_head, paste-suc}
use Rattle.std.proofs.lemmas.List.Edits.{length-paste}
use Rattle.frames.specs.Layout.{layout, tables_length}
use Rattle.frames.specs.Laws.Tables.{cell_in, cell-past-frame, cell-past-byte}
use Rattle.lines.specs.Lines.{bytes, frame_length}
use Rattle.lines.specs.Laws.Lines.{frame-length-most}
use Rattle.frames.specs.Frames.{Frames}
use Rattle.frames.specs.Tables.{cell}
use Rattle.frames.specs.Code.Steps.{first_frames}
use Rattle.counting.specs.Laws.Tests.{lt-or-le}

-- what a paste has at each place
module _ (d : List ℕ) (at : ℕ) (s : List ℕ) (n : ℕ) (room : at + n ≤ length d) (long : n ≤ length s) where
  head-long : length (take at d ++ take n s) ≡ at + n
  head-long = length_paste_head d at s n (omega arith) long

  pub paste-before : (p : ℕ) → p < at → get_or (paste d at s n) p 0 ≡ get_or d p 0
  paste-before p h =
      get_or-append (take at d ++ take n s) (drop (at + n) d) 0 p (omega (arith, head-long))
      ∙ (get_or-append (take at d) (take n s) 0 p (omega (arith, length-take-le at d (omega arith)))
      ∙ get_or-take at d p 0 h)

  pub paste-in : (b : ℕ) → b < n → get_or (paste d at s n) (at + b) 0 ≡ get_or s b 0
  paste-in b h =
      get_or-append (take at d ++ take n s) (drop (at + n) d) 0 (at + b) (omega (arith, head-long))
      ∙ (ap (λ (k : ℕ). get_or (take at d ++ take n s) (k + b) 0) (sym (length-take-le at d (omega arith)))
      ∙ (get_or-append-add (take at d) (take n s) b 0 ∙ get_or-take n s b 0 h))

  pub paste-after : (p : ℕ) → at + n ≤ p → get_or (paste d at s n) p 0 ≡ get_or d p 0
  paste-after p h =
      let k = p - (at + n) in
      let e : p ≡ length (take at d ++ take n s) + k = omega (arith, head-long) in
      ap (λ (q : ℕ). get_or (paste d at s n) q 0) e
      ∙ (get_or-append-add (take at d ++ take n s) (drop (at + n) d) k 0
      ∙ (get_or-drop (at + n) d k 0 ∙ ap (λ (q : ℕ). get_or d q 0) (omega arith)))

-- one byte more of a line in the tables
module _ (t l : List ℕ) (o b n : ℕ) (is : n ≤ frame_length l) (room : o + n ≤ length t) where
  pub stored-length : b ≤ n → length (paste t o (bytes l) b) ≡ length t
  stored-length h = length-paste t o (bytes l) b (omega arith) (omega (arith, frame-length-most l))

  pub stored_more : b < n → set (paste t o (bytes l) b) (o + b) (get_or (bytes l) b 0) ≡ paste t o (bytes l) (b + 1)
  stored_more h =
      paste-suc t o (bytes l) b 0 (omega arith) (omega (arith, frame-length-most l))
      ∙ ap (paste t o (bytes l)) (sym (add-one b))

-- the tables hold the first i frames; the bytes of frame i are put in
module _ (f : Frames) (t s : List ℕ) (i n : ℕ) (wide : length t ≡ tables_length) (low : i < layout.most_frames) (holds : (j b : ℕ) → cell t j b ≡ first_frames i f j b)
    (short : n ≤ layout.stride) (long : n ≡ length s) (frame : (b : ℕ) → f i b ≡ get_or s b 0) where
  fits : i * layout.stride + n ≤ length t
  fits = omega arith

  -- a frame before it, the frame itself, and one after it
  pub stored-earlier : (j b : ℕ) → j < i → cell (paste t (i * layout.stride) s n) j b ≡ first_frames (suc i) f j b
  unfolding first_frames
  stored-earlier j b h =
      rw (lt-ltb j (suc i) (omega arith))
      (⊎_elim
      (λ (l : b < layout.stride). cell_in (paste t (i * layout.stride) s n) j b (omega arith) l
      ∙ (paste-before t (i * layout.stride) s n fits (omega arith) (j * layout.stride + b) (omega arith)
      ∙ (sym (cell_in t j b (omega arith) l) ∙ (holds j b ∙ rw (lt-ltb j i h)))))
      (λ (g : layout.stride ≤ b). cell-past-byte (paste t (i * layout.stride) s n) j b g ∙ (sym (cell-past-byte t j b g) ∙ (holds j b ∙ rw (lt-ltb j i h))))
      (lt-or-le b layout.stride))

  pub stored_here : (b : ℕ) → cell (paste t (i * layout.stride) s n) i b ≡ first_frames (suc i) f i b
  unfolding first_frames
  stored_here b =
      rw (lt-ltb i (suc i) (omega arith))
      (⊎_elim
      (λ (l : b < n). cell_in (paste t (i * layout.stride) s n) i b low (omega arith)
      ∙ (paste-in t (i * layout.stride) s n fits (omega arith) b l ∙ sym (frame b)))
      (λ (g : n ≤ b). ⊎_elim
      (λ (l : b < layout.stride). cell_in (paste t (i * layout.stride) s n) i b low l
      ∙ (paste-after t (i * layout.stride) s n fits (omega arith) (i * layout.stride + b) (omega arith)
      ∙ (sym (cell_in t i b low l) ∙ (holds i b ∙ (rw (le-ltb i i (omega arith)) (sym (past b g)))))))
      (λ (m : layout.stride ≤ b). cell-past-byte (paste t (i * layout.stride) s n) i b m ∙ sym (past b g))
      (lt-or-le b layout.stride))
      (lt-or-le b n))
    where
      past : (b : ℕ) → n ≤ b → f i b ≡ 0
      past b g = frame b ∙ get_or-eq_default s 0 (omega arith)

  pub stored-later : (j b : ℕ) → i < j → cell (paste t (i * layout.stride) s n) j b ≡ first_frames (suc i) f j b
  unfolding first_frames
  stored-later j b h =
      rw (le-ltb j (suc i) (omega arith))
      (⊎_elim
      (λ (k : j < layout.most_frames). ⊎_elim
      (λ (l : b < layout.stride). cell_in (paste t (i * layout.stride) s n) j b k l
      ∙ (paste-after t (i * layout.stride) s n fits (omega arith) (j * layout.stride + b) (omega arith)
      ∙ (sym (cell_in t j b k l) ∙ (holds j b ∙ rw (le-ltb j i (omega arith))))))
      (λ (g : layout.stride ≤ b). cell-past-byte (paste t (i * layout.stride) s n) j b g)
      (lt-or-le b layout.stride))
      (λ (k : layout.most_frames ≤ j). cell-past-frame (paste t (i * layout.stride) s n) j b k)
      (lt-or-le j layout.most_frames))

  pub stored-holds : (j b : ℕ) → cell (paste t (i * layout.stride) s n) j b ≡ first_frames (suc i) f j b
  stored-holds j b =
      ⊎_elim
      (λ (l : j < i). stored-earlier j b l)
      (λ (g : i ≤ j). ⊎_elim
      (λ (l : i < j). stored-later j b l)
      (λ (h : j ≤ i). let e : j ≡ i = omega arith in rw e (stored_here b))
      (lt-or-le i j))
      (lt-or-le j i)
