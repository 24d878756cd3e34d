-- Laws of lines: the first line and the rest, and what a well-formed line has at each place.
-- Assumes nothing.
use Rattle.std.specs.Prelude.{ℕ, zero, suc, ◌+◌, ◌*◌, ◌/◌, ◌≤◌, ◌<◌, ◌≡◌, refl, Bool, true, false, cond, ◌&&◌, List, [], ◌∷◌, ◌⊎◌, ltb, eqb, length, get_or, take, drop, Option, Some, None, MatchOption, is_some}
use Rattle.std.proofs.Common.{ap, sym, ◌∙◌, inl, inr, arith, le_of_suc-le-suc, not-suc-le-zero, le_of_eq, add-zero, add-one, length-drop, drop_of_length-le, lt-ltb, le-ltb, le-leb, eq-eqb, ne_eqb, ltb-true, drop-cons, drop-drop, get_or-drop}
use Rattle.std.proofs.Math.Numerals.{add-two}
use Rattle.std.proofs.Math.ListN.{get_or-eq_default}
use Rattle.std.proofs.lemmas.Bool.{lt-leb}
use Rattle.counting.specs.Laws.Tests.{and_left, and_right, lt-or-le}
use Rattle.lines.specs.Lines.{newline, joined, lines, line_length, digit, is_digit, paired, bytes, frame_length}

-- the first line of a text, and the others
pub lines-first : (c : ℕ) (t : List ℕ)
    → lines (c ∷ t) ≡ take (line_length (c ∷ t)) (c ∷ t) ∷ lines (drop (line_length (c ∷ t)) (c ∷ t))
unfolding lines line_length joined
lines-first c [] = go (eqb c newline)
  where
    go : (b : Bool) → cond b ((c ∷ []) ∷ lines []) (joined c (lines []))
        ≡ take (cond b 1 (suc (line_length []))) (c ∷ []) ∷ lines (drop (cond b 1 (suc (line_length []))) (c ∷ []))
    go true = refl
    go false = refl
lines-first c (d ∷ t) = go (eqb c newline) (lines-first d t)
  where
    go : (b : Bool)
        → lines (d ∷ t) ≡ take (line_length (d ∷ t)) (d ∷ t) ∷ lines (drop (line_length (d ∷ t)) (d ∷ t))
        → cond b ((c ∷ []) ∷ lines (d ∷ t)) (joined c (lines (d ∷ t)))
        ≡ take (cond b 1 (suc (line_length (d ∷ t)))) (c ∷ d ∷ t) ∷ lines (drop (cond b 1 (suc (line_length (d ∷ t)))) (c ∷ d ∷ t))
    go true e = refl
    go false e = ap (joined c) e

-- a line of pairs has two digits for each byte, and its 0A
pub paired-length : (l : List ℕ) → paired l ≡ true → length l ≡ 2 * length (bytes l) + 1
unfolding paired bytes
paired-length [] e = cc
paired-length (c ∷ []) e = refl
paired-length (c ∷ d ∷ l) e =
    let h = paired-length l (and_right (is_digit d) (paired l) (and_right (is_digit c) (is_digit d && paired l) e)) in
    omega arith

-- its bytes, by place
twice-suc : (b : ℕ) → 2 * suc b ≡ suc (suc (2 * b))
twice-suc b = omega arith

twice-suc-one : (b : ℕ) → 2 * suc b + 1 ≡ suc (suc (2 * b + 1))
twice-suc-one b = omega arith

pub bytes-at : (l : List ℕ) (b : ℕ) → b < length (bytes l) → get_or (bytes l) b 0 ≡ 16 * digit (get_or l (2 * b) 0) + digit (get_or l (2 * b + 1) 0)
unfolding bytes
bytes-at [] b h = absurd (not-suc-le-zero h)
bytes-at (c ∷ []) b h = absurd (not-suc-le-zero h)
bytes-at (c ∷ d ∷ l) zero h = refl
bytes-at (c ∷ d ∷ l) (suc b) h = rw (twice-suc-one b, twice-suc b) (bytes-at l b (le_of_suc-le-suc h))

-- a byte for each pair, whatever stands in the line
pub bytes-length : (l : List ℕ) → length (bytes l) ≡ length l / 2
unfolding bytes
bytes-length [] = refl
bytes-length (c ∷ []) = refl
bytes-length (c ∷ d ∷ l) = omega (arith, bytes-length l)

pub bytes_past : (l : List ℕ) (b : ℕ) → length l / 2 ≤ b → get_or (bytes l) b 0 ≡ 0
bytes_past l b h = get_or-eq_default (bytes l) 0 (rw (bytes-length l) h)

-- its digits
pub digits-at : (l : List ℕ) (b : ℕ) → paired l ≡ true → b < length (bytes l)
    → (digit (get_or l (2 * b) 0) < 16) × (digit (get_or l (2 * b + 1) 0) < 16)
unfolding bytes paired is_digit
digits-at [] b e h = absurd (not-suc-le-zero h)
digits-at (c ∷ []) b e h = absurd (not-suc-le-zero h)
digits-at (c ∷ d ∷ l) zero e h = (
  ltb-true _ _ (and_left (is_digit c) (is_digit d && paired l) e),
  ltb-true _ _ (and_left (is_digit d) (paired l) (and_right (is_digit c) (is_digit d && paired l) e)),
)
digits-at (c ∷ d ∷ l) (suc b) e h =
    rw (twice-suc-one b, twice-suc b)
    (digits-at l b (and_right (is_digit d) (paired l) (and_right (is_digit c) (is_digit d && paired l) e)) (le_of_suc-le-suc h))

-- what a digit stands for, if the byte is one
pub some-digit : (o : Option ℕ) (c : ℕ) → MatchOption o (digit c ≡ 16) (λ d. (d ≡ digit c) × (d < 16)) → is_some o ≡ is_digit c
unfolding is_digit
some-digit None c h = sym (le-ltb (digit c) 16 (omega (arith, h)))
some-digit (Some d) c h = sym (lt-ltb (digit c) 16 (omega (arith, h.0, h.1)))

-- a digit is below 16, or the byte is none
pub digit-most : (c : ℕ) → digit c ≤ 16
unfolding digit
digit-most c = go (lt-or-le c 0x30) (lt-or-le 0x39 c) (lt-or-le c 0x41) (lt-or-le 0x46 c)
  where
    go : (c < 0x30) ⊎ (0x30 ≤ c) → (0x39 < c) ⊎ (c ≤ 0x39) → (c < 0x41) ⊎ (0x41 ≤ c) → (0x46 < c) ⊎ (c ≤ 0x46) → digit c ≤ 16
    go (inl a) b (inl e) f = simp (lt-leb _ _ a, lt-leb _ _ e) (omega arith)
    go (inl a) b (inr e) f = absurd (omega arith)
    go (inr a) (inr b) e f = simp (le-leb _ _ a, le-leb _ _ b) (omega arith)
    go (inr a) (inl b) (inl e) f = simp (le-leb _ _ a, lt-leb _ _ b, lt-leb _ _ e) (omega arith)
    go (inr a) (inl b) (inr e) (inl f) = simp (le-leb _ _ a, lt-leb _ _ b, le-leb _ _ e, lt-leb _ _ f) (omega arith)
    go (inr a) (inl b) (inr e) (inr f) = simp (le-leb _ _ a, lt-leb _ _ b, le-leb _ _ e, le-leb _ _ f) (omega arith)

-- the length of the line at a place: it ends here, goes on, or the text is at its end
pub line-ends : (t : List ℕ) (i : ℕ) → i < length t → get_or t i 0 ≡ newline → line_length (drop i t) ≡ 1
unfolding line_length
line-ends t i h e = rw (drop-cons t i 0 h) (simp (eq-eqb _ _ e))

pub line-goes-on : (t : List ℕ) (i : ℕ) → i < length t → (get_or t i 0 ≡ newline → ⊥) → line_length (drop i t) ≡ suc (line_length (drop (i + 1) t))
unfolding line_length
line-goes-on t i h e = rw (drop-cons t i 0 h, add-one i) (simp (ne_eqb _ _ e))

pub line-at-end : (t : List ℕ) (i : ℕ) → length t ≤ i → line_length (drop i t) ≡ 0
unfolding line_length
line-at-end t i h = rw (drop_of_length-le t h)

-- two bytes of a list and the rest
pub drop-two : (l : List ℕ) (i : ℕ) → i + 1 < length l → drop i l ≡ get_or l i 0 ∷ get_or l (i + 1) 0 ∷ drop (i + 2) l
drop-two l i h =
    rw (add-one i, add-two i) (drop-cons l i 0 (omega arith) ∙ ap (λ (r : List ℕ). get_or l i 0 ∷ r) (drop-cons l (suc i) 0 (omega arith)))

-- a pair of digits more
pub pair-more : (l : List ℕ) (i : ℕ) → i + 1 < length l → digit (get_or l i 0) < 16 → digit (get_or l (i + 1) 0) < 16
    → (paired (drop i l) ≡ paired (drop (i + 2) l)) × (length (bytes (drop i l)) ≡ suc (length (bytes (drop (i + 2) l))))
unfolding paired bytes is_digit
pair-more l i h a b = rw (drop-two l i h) (simp (lt-ltb _ _ a, lt-ltb _ _ b), refl)

-- another byte
pub pair-none : (l : List ℕ) (i : ℕ) → i + 1 < length l → (digit (get_or l i 0) ≡ 16) ⊎ (digit (get_or l (i + 1) 0) ≡ 16) → paired (drop i l) ≡ false
unfolding paired is_digit
pair-none l i h (inl a) = rw (drop-two l i h) (simp (le-ltb _ _ (le_of_eq (sym a))))
pair-none l i h (inr b) = rw (drop-two l i h) (go (ltb (digit (get_or l i 0)) 16))
  where
    go : (x : Bool) → (x && (ltb (digit (get_or l (i + 1) 0)) 16 && paired (drop (i + 2) l))) ≡ false
    go true = simp (le-ltb _ _ (le_of_eq (sym b)))
    go false = refl

-- pair i of a line, by the test of both its digits
pub pair-step : (l : List ℕ) (i : ℕ) → 2 * i + 1 < length l → (is_digit (get_or l (2 * i) 0) && is_digit (get_or l (2 * i + 1) 0)) ≡ true
    → (paired (drop (2 * i) l) ≡ paired (drop (2 * (i + 1)) l)) × (length (bytes (drop (2 * i) l)) ≡ suc (length (bytes (drop (2 * (i + 1)) l))))
unfolding is_digit
pair-step l i h e =
    let n : 2 * (i + 1) ≡ 2 * i + 2 = omega arith in
    rw n (pair-more l (2 * i) h (ltb-true _ _ (and_left _ (is_digit (get_or l (2 * i + 1) 0)) e)) (ltb-true _ _ (and_right (is_digit (get_or l (2 * i) 0)) _ e)))

pub pair-fails : (l : List ℕ) (i : ℕ) → 2 * i + 1 < length l → (is_digit (get_or l (2 * i) 0) && is_digit (get_or l (2 * i + 1) 0)) ≡ false → paired (drop (2 * i) l) ≡ false
unfolding paired
pair-fails l i h e = rw (drop-two l (2 * i) h) (go (is_digit (get_or l (2 * i) 0)) (is_digit (get_or l (2 * i + 1) 0)) (paired (drop (2 * i + 2) l)) e)
  where
    go : (x y b : Bool) → (x && y) ≡ false → (x && (y && b)) ≡ false
    go true true b f = cc
    go true false b f = refl
    go false y b f = refl

-- the last byte, and none
pub pair-last : (l : List ℕ) (i : ℕ) → i + 1 ≡ length l → (paired (drop i l) ≡ eqb (get_or l i 0) newline) × (length (bytes (drop i l)) ≡ 0)
unfolding paired bytes
pair-last l i h = rw (drop-cons l i 0 (omega arith), drop_of_length-le l {i = suc i} (omega arith)) (refl, refl)

pub pair-past : (l : List ℕ) (i : ℕ) → length l ≤ i → paired (drop i l) ≡ false
unfolding paired
pair-past l i h = rw (drop_of_length-le l h)

-- how many bytes a line has, from what its test comes to
pub frame-length-good : (l : List ℕ) → paired l ≡ true → frame_length l ≡ length (bytes l)
unfolding frame_length
frame-length-good l e = rw e

pub frame-length-bad : (l : List ℕ) → paired l ≡ false → frame_length l ≡ 0
unfolding frame_length
frame-length-bad l e = rw e

-- a line that has a byte is paired, and as long as that says
pub frame-length-some : (l : List ℕ) (b : ℕ) → b < frame_length l → paired l ≡ true
unfolding frame_length
frame-length-some l b h = go (paired l) refl
  where
    go : (x : Bool) → paired l ≡ x → paired l ≡ true
    go true e = e
    go false e = absurd (not-suc-le-zero (rw (frame-length-bad l e) at h))

-- what a line has for its byte b
pub record ByteIn (l : List ℕ) (b : ℕ) : Type 0 where
  pub inside : 2 * b + 1 < length l
  pub high : digit (get_or l (2 * b) 0) < 16
  pub low : digit (get_or l (2 * b + 1) 0) < 16
  pub is : get_or (bytes l) b 0 ≡ 16 * digit (get_or l (2 * b) 0) + digit (get_or l (2 * b + 1) 0)

pub byte-in : (l : List ℕ) (b : ℕ) → b < frame_length l → ByteIn l b
byte-in l b h =
    let e = frame-length-some l b h in
    let n : b < length (bytes l) = rw (frame-length-good l e) at h in
    record {
      inside = omega (arith, paired-length l e);
      high = (digits-at l b e n).0;
      low = (digits-at l b e n).1;
      is = bytes-at l b n;
    }

-- a line never counts more bytes than it has
pub frame-length-most : (l : List ℕ) → frame_length l ≤ length (bytes l)
unfolding frame_length
frame-length-most l = go (paired l)
  where
    go : (x : Bool) → cond x (length (bytes l)) 0 ≤ length (bytes l)
    go true = omega arith
    go false = omega arith

-- a line is not longer than what is left of the text, and has a byte
pub line-most : (t : List ℕ) → line_length t ≤ length t
unfolding line_length
line-most [] = omega arith
line-most (c ∷ t) = go (eqb c newline) (line-most t)
  where
    go : (b : Bool) → line_length t ≤ length t → cond b 1 (suc (line_length t)) ≤ suc (length t)
    go true h = omega arith
    go false h = omega arith

pub line-least : (c : ℕ) (t : List ℕ) → 1 ≤ line_length (c ∷ t)
unfolding line_length
line-least c t = go (eqb c newline)
  where
    go : (b : Bool) → 1 ≤ cond b 1 (suc (line_length t))
    go true = omega arith
    go false = omega arith

-- the line at a place of the text, as one of its lines
pub record LineAt (text : List ℕ) (ls : List (List ℕ)) (at i : ℕ) : Type 0 where
  pub least : 1 ≤ line_length (drop at text)
  pub most : at + line_length (drop at text) ≤ length text
  pub its : take (line_length (drop at text)) (drop at text) ≡ get_or ls i []
  pub rest : lines (drop (at + line_length (drop at text)) text) ≡ drop (i + 1) ls
  pub inside : i + 1 ≤ length ls

pub line_at : (text : List ℕ) (ls : List (List ℕ)) (at i : ℕ) → at < length text → lines (drop at text) ≡ drop i ls → LineAt text ls at i
line_at text ls at i h e =
    let u = drop at text in
    let n = line_length u in
    let dc = drop-cons text at 0 h in
    let first : lines u ≡ take n u ∷ lines (drop n u) = rw dc (lines-first (get_or text at 0) (drop (suc at) text)) in
    let both : drop i ls ≡ take n u ∷ lines (drop n u) = sym e ∙ first in
    record {
      least = rw dc (line-least (get_or text at 0) (drop (suc at) text));
      most = omega (arith, line-most u, length-drop at text);
      its = sym (ap (λ (k : ℕ). get_or ls k []) (sym (add-zero i)) ∙ (sym (get_or-drop i ls 0 []) ∙ ap (λ (k : List (List ℕ)). get_or k 0 []) both));
      rest =
          ap lines (sym (drop-drop n at text))
          ∙ (ap (λ (k : List (List ℕ)). drop 1 k) (sym both) ∙ drop-drop 1 i ls);
      inside = omega (arith, length-drop i ls, ap length both);
    }
