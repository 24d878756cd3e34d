-- "Lines of digits 0-9 and A-F, one frame a line, two digits a byte, each line ended by byte 0A."
-- Assumes nothing.
use Rattle.std.specs.Prelude.{ℕ, suc, ◌+◌, ◌-◌, ◌*◌, Bool, false, cond, ◌&&◌, List, [], ◌∷◌, leb, ltb, eqb, length}

abbrev pub newline : ℕ
newline = 0x0A

-- a byte before what the first line has
unfoldable pub joined : ℕ → List (List ℕ) → List (List ℕ)
joined c [] = (c ∷ []) ∷ []
joined c (l ∷ ls) = (c ∷ l) ∷ ls

-- the lines of a text, each with the 0A that ends it; the last may lack it
unfoldable pub lines : List ℕ → List (List ℕ)
lines [] = []
lines (c ∷ t) = cond (eqb c newline) ((c ∷ []) ∷ lines t) (joined c (lines t))

-- how long the first line of a text is, with its 0A
unfoldable pub line_length : List ℕ → ℕ
line_length [] = 0
line_length (c ∷ t) = cond (eqb c newline) 1 (suc (line_length t))

-- what a digit 0-9 or A-F stands for; 16 for any other byte
unfoldable pub digit : ℕ → ℕ
digit c =
    cond (leb 0x30 c && leb c 0x39)
    (c - 0x30)
    (cond (leb 0x41 c && leb c 0x46) (c - 0x37) 16)

unfoldable pub is_digit : ℕ → Bool
is_digit c = ltb (digit c) 16

-- pairs of digits, then the 0A that ends the line, and nothing else
unfoldable pub paired : List ℕ → Bool
paired [] = false
paired (c ∷ []) = eqb c newline
paired (c ∷ d ∷ l) = is_digit c && (is_digit d && paired l)

-- the bytes of a line, two digits a byte
unfoldable pub bytes : List ℕ → List ℕ
bytes [] = []
bytes (c ∷ []) = []
bytes (c ∷ d ∷ l) = (16 * digit c + digit d) ∷ bytes l

-- how many bytes a line has; 0 for a line that refusal 3 is for: it "is empty, has another byte or an odd count of digits, or lacks
-- its 0A"
unfoldable pub frame_length : List ℕ → ℕ
frame_length l = cond (paired l) (length (bytes l)) 0

unfoldable pub well_formed : List ℕ → Bool
well_formed l = ltb 0 (frame_length l)
