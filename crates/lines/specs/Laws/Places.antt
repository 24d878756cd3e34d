-- Laws of places: where the place after a line stands.
-- Assumes nothing.
use Rattle.std.specs.Prelude.{ℕ, ◌+◌, ◌-◌, ◌^◌, ◌≤◌, ◌<◌, min, ◌≡◌, List, length, drop}
use Rattle.std.proofs.Common.{ap, ◌∙◌, arith, length-drop, lt-ltb, le-ltb}
use Rattle.lines.specs.Lines.{line_length}
use Rattle.lines.specs.Laws.Lines.{line-most}
use Rattle.lines.specs.Places.{past_line}
use Rattle.lines.specs.declared.Place.{Place}

pub past-line-stays : (t : List ℕ) (p : Place) → length t ≤ p.at → past_line t p ≡ p
unfolding past_line
past-line-stays t p h = simp (le-ltb _ _ h)

pub past-line-goes : (t : List ℕ) (p : Place) (e l : ℕ) → p.at < length t → e ≡ p.at + line_length (drop p.at t)
    → l ≡ min (p.line + 1) (2 ^ 64 - 1) → ◌≡◌ {A = Place} (record { at = e; line = l }) (past_line t p)
unfolding past_line
past-line-goes t p e l h a b = simp (lt-ltb _ _ h) (λ i. record { at = a i; line = b i })

pub past-line-at : (t : List ℕ) (p : Place) → p.at < length t → (past_line t p).at ≡ p.at + line_length (drop p.at t)
unfolding past_line
past-line-at t p h = rw (lt-ltb p.at (length t) h)

pub past-line-line : (t : List ℕ) (p : Place) → p.at < length t → p.line + 1 < 2 ^ 64 → (past_line t p).line ≡ p.line + 1
unfolding past_line
past-line-line t p h s = rw (lt-ltb p.at (length t) h) (omega arith)

-- the place after any line of a text
pub record PastLine (text : List ℕ) (p next : Place) : Type 0 where
  pub is : next.at - p.at ≡ line_length (drop p.at text)
  pub from : p.at ≤ next.at
  pub to : next.at ≤ length text

pub past-line : (text : List ℕ) (p next : Place) → p.at < length text → next ≡ past_line text p → PastLine text p next
past-line text p next l e =
    let a : next.at ≡ p.at + line_length (drop p.at text) = ap (λ (q : Place). q.at) e ∙ past-line-at text p l in
    record {
      is = omega arith;
      from = omega arith;
      to = omega (arith, line-most (drop p.at text), length-drop p.at text);
    }
