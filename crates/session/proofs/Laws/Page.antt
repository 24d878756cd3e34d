-- Laws of a page's lines, and of a page that is handed out.
-- Assumes nothing.
use Rattle.std.specs.Prelude.{ℕ, ◌+◌, ◌≤◌, ◌<◌, ◌≡◌, List, [], ◌∷◌, ◌++◌, length, get_or, take, drop}
use Rattle.std.proofs.Common.{refl, ap, sym, ◌∙◌, append_assoc, add-one, take-suc, le-leb}
use Rattle.std.proofs.lemmas.Bool.{lt-leb}
use Rattle.lines.specs.Lines.{newline}
use Rattle.session.specs.Page.{printed}
use Rattle.session.specs.Writing.{digits_of, line_of}
use Rattle.session.proofs.Laws.Writing.{digits_append}

pub printed-room : (s old : List ℕ) → length s ≤ length old → s ++ drop (length s) old ≡ printed s old
unfolding printed
printed-room s old h = rw (le-leb (length s) (length old) h) refl

pub printed-none : (s old : List ℕ) → length old < length s → old ≡ printed s old
unfolding printed
printed-none s old h = rw (lt-leb (length s) (length old) h) refl

-- one more byte's two digits
pub digits_more : (bytes : List ℕ) (i : ℕ) → i < length bytes
    → digits_of (take i bytes) ++ digits_of (get_or bytes i 0 ∷ []) ≡ digits_of (take (i + 1) bytes)
digits_more bytes i h =
    sym (digits_append (take i bytes) (get_or bytes i 0 ∷ []))
    ∙ ap digits_of (sym (take-suc bytes i 0 h) ∙ ap (λ (n : ℕ). take n bytes) (sym (add-one i)))

-- a frame's line, of the frame's two parts
pub line_parts : (old page head tail frame : List ℕ) → page ≡ old ++ digits_of head → head ++ tail ≡ frame
    → (page ++ digits_of tail) ++ newline ∷ [] ≡ old ++ line_of frame
unfolding line_of
line_parts old page head tail frame is whole =
    ap (λ (l : List ℕ). (l ++ digits_of tail) ++ newline ∷ []) is
    ∙ (ap (λ (l : List ℕ). l ++ newline ∷ []) (append_assoc old (digits_of head) (digits_of tail) ∙ ap (λ (l : List ℕ). old ++ l) (sym (digits_append head tail)))
    ∙ (append_assoc old (digits_of (head ++ tail)) (newline ∷ []) ∙ ap (λ (l : List ℕ). old ++ (digits_of l ++ newline ∷ [])) whole))
