-- A line that was written reads back.
-- Assumes nothing.
use Rattle.std.specs.Prelude.{ℕ, ◌+◌, ◌*◌, ◌/◌, ◌%◌, ◌≤◌, ◌<◌, ◌≡◌, refl, true, List, [], ◌∷◌, ◌++◌, map, length}
use Rattle.std.proofs.Common.{ap, ◌∙◌, ⊎_elim, arith, length-append, lt-ltb, le-ltb, le-leb}
use Rattle.std.proofs.lemmas.Bool.{lt-leb}
use Rattle.lines.specs.Lines.{digit, is_digit, paired, bytes}
use Rattle.session.specs.Writing.{hex_digit, digits_of, line_of, high, low}
use Rattle.counting.specs.Laws.Tests.{lt-or-le}

-- ---- digits

pub digit-back : (d : ℕ) → d < 16 → digit (hex_digit d) ≡ d
unfolding digit hex_digit
digit-back d h = ⊎_elim low_digit high_digit (lt-or-le d 10)
  where
    low_digit : d < 10 → digit (hex_digit d) ≡ d
    low_digit l = simp (lt-ltb d 10 l, le-leb 0x30 (0x30 + d) (omega arith), le-leb (0x30 + d) 0x39 (omega arith)) (omega arith)

    high_digit : 10 ≤ d → digit (hex_digit d) ≡ d
    high_digit g = simp (le-ltb d 10 g, le-leb 0x30 (0x37 + d) (omega arith), lt-leb (0x37 + d) 0x39 (omega arith), le-leb 0x41 (0x37 + d) (omega arith), le-leb (0x37 + d) 0x46 (omega arith)) (omega arith)

pub is_digit_lem : (d : ℕ) → d < 16 → is_digit (hex_digit d) ≡ true
unfolding is_digit
is_digit_lem d h = rw (digit-back d h) (lt-ltb d 16 h)

-- ---- lines

pub digits_append : (a b : List ℕ) → digits_of (a ++ b) ≡ digits_of a ++ digits_of b
unfolding digits_of
digits_append [] b = refl
digits_append (x ∷ a) b = ap (λ (l : List ℕ). hex_digit (x / 16 % 16) ∷ hex_digit (x % 16) ∷ l) (digits_append a b)

pub length_digits : (a : List ℕ) → length (digits_of a) ≡ 2 * length a
unfolding digits_of
length_digits [] = refl
length_digits (x ∷ a) = let e = length_digits a in omega arith

pub length-line : (frame : List ℕ) → length (line_of frame) ≡ 2 * length frame + 1
unfolding line_of
length-line frame = length-append (digits_of frame) _ ∙ omega (arith, length_digits frame)

pub written-paired : (frame : List ℕ) → paired (line_of frame) ≡ true
unfolding line_of digits_of paired
written-paired [] = refl
written-paired (b ∷ frame) = simp (is_digit_lem (b / 16 % 16) (omega arith), is_digit_lem (b % 16) (omega arith)) (written-paired frame)

-- a number that is no byte reads back as its remainder by 256
pub written_low : (frame : List ℕ) → bytes (line_of frame) ≡ map low frame
unfolding line_of digits_of bytes
written_low [] = refl
written_low (b ∷ frame) =
    simp (digit-back (b / 16 % 16) (omega arith), digit-back (b % 16) (omega arith))
    (ap (λ (l : List ℕ). (16 * (b / 16 % 16) + b % 16) ∷ l) (written_low frame) ∙ ap (λ (x : ℕ). x ∷ map low frame) (omega arith))

-- every number is a byte
abbrev pub Bytes : List ℕ → Type 0
Bytes [] = Unit {0}
Bytes (b ∷ frame) = (b < 256) × Bytes frame

low-bytes : (frame : List ℕ) → Bytes frame → map low frame ≡ frame
low-bytes [] h = refl
low-bytes (b ∷ frame) h = ap (λ (l : List ℕ). low b ∷ l) (low-bytes frame h.1) ∙ ap (λ (x : ℕ). x ∷ frame) (omega (arith, h.0))

-- a written frame reads back
pub written_back : (frame : List ℕ) → Bytes frame → bytes (line_of frame) ≡ frame
written_back frame h = written_low frame ∙ low-bytes frame h

-- a number below 65,536 is back from its two bytes
pub two_back : (n : ℕ) → n < 65536 → 256 * high n + low n ≡ n
two_back n h = omega arith
