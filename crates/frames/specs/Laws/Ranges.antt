-- Laws of the ranges' tests.
-- Assumes nothing.
use Rattle.std.specs.Prelude.{ℕ, ◌+◌, ◌≤◌, ◌<◌, min, ◌≡◌, Bool, true, false, ◌&&◌, ◌||◌, [], ◌∷◌, leb, ltb, eqb, IsTrue, ◌↔◌, T}
use Rattle.std.proofs.Common.{refl, sym, ap, ◌∙◌, arith, lt-ltb, le-ltb, ne_eqb}
use Rattle.std.specs.Bool.{passes}
use Rattle.std.proofs.Math.ListN.{get_or-eq_default}
use Rattle.counting.specs.Counting.{every}
use Rattle.counting.specs.Laws.Counting.{every_of, every-at}
use Rattle.frames.specs.Layout.{layout}
use Rattle.frames.specs.Frames.{Frame, two}
use Rattle.frames.specs.Ranges.{grades_listed, grade_in_range, children_listed, names_listed, listed_or_zero, uses_field, uses_method, name_in_range, node_in_range}

passed : (b : Bool) → T b → b ≡ true
passed true t = refl
passed false t = absurd t

-- a grade within the 16: the frame's count of listed ones may be cut at 16
pub grade-listed : (r : Frame) (h listed : ℕ) → h < layout.grades → listed ≡ min (grades_listed r) layout.grades → h < listed → grade_in_range r h ≡ leb (r (layout.grades_at + h)) layout.most_grade
unfolding grade_in_range
grade-listed r h listed s e l = simp (lt-ltb h (grades_listed r) (omega arith))

pub grade-unlisted : (r : Frame) (h listed : ℕ) → h < layout.grades → listed ≡ min (grades_listed r) layout.grades → listed ≤ h → grade_in_range r h ≡ eqb (r (layout.grades_at + h)) 0
unfolding grade_in_range
grade-unlisted r h listed s e l = simp (le-ltb h (grades_listed r) (omega arith))

-- an op over 9 lists nothing
pub children-past : (op : ℕ) → 10 ≤ op → children_listed op ≡ 0
unfolding children_listed
children-past op h = get_or-eq_default (0 ∷ 1 ∷ 2 ∷ 2 ∷ 3 ∷ 2 ∷ 1 ∷ 1 ∷ 1 ∷ 1 ∷ []) 0 h

pub names-past : (op : ℕ) → 10 ≤ op → names_listed op ≡ 0
unfolding names_listed
names-past op h = get_or-eq_default (0 ∷ 1 ∷ 1 ∷ 0 ∷ 0 ∷ 0 ∷ 1 ∷ 0 ∷ layout.names ∷ 0 ∷ []) 0 h

-- a conjunction, part by part
pub fails-first : (a b : Bool) → a ≡ false → (a && b) ≡ false
fails-first a b e = rw e

pub fails-later : (a b : Bool) → a ≡ true → b ≡ false → (a && b) ≡ false
fails-later a b e f = rw e f

pub holds_then : (a b c : Bool) → a ≡ true → b ≡ c → (a && b) ≡ c
holds_then a b c e f = rw e f

-- what a call said of an operand, said of the frame's
pub operand : (l l' : Bool) (x x' : ℕ) (r b : Bool) → r ≡ listed_or_zero l x → l ≡ l' → x ≡ x' → r ≡ b → listed_or_zero l' x' ≡ b
operand l l' x x' r b e p q f = rw (← p, ← q) (sym e ∙ f)

-- the ops that use neither a field nor a method, but for 9
pub uses-rest : (op : ℕ) → (op ≡ 1 → ⊥) → (op ≡ 2 → ⊥) → (op ≡ 8 → ⊥) → (uses_field op || uses_method op) ≡ eqb op 9
uses-rest op a b d = rw (ne_eqb op 1 a, ne_eqb op 2 b, ne_eqb op 8 d)

-- the part of a node's test that is on X, Y and Z
unfoldable pub children_in_range : Frame → Bool
children_in_range r =
    listed_or_zero (ltb 0 (children_listed (r layout.op_at))) (two r layout.XAt)
    && (listed_or_zero (ltb 1 (children_listed (r layout.op_at))) (two r layout.YAt)
    && listed_or_zero (ltb 2 (children_listed (r layout.op_at))) (two r layout.ZAt))

pub node_parts : (r : Frame) → node_in_range r
    ≡ (leb (r layout.op_at) layout.most_op && (children_in_range r && (listed_or_zero (uses_field (r layout.op_at) || uses_method (r layout.op_at)) (r layout.UAt) && every layout.names (name_in_range r))))
unfolding node_in_range children_in_range
node_parts r =
    ap (λ (b : Bool). leb (r layout.op_at) layout.most_op && b)
    (apart (listed_or_zero (ltb 0 (children_listed (r layout.op_at))) (two r layout.XAt)) (listed_or_zero (ltb 1 (children_listed (r layout.op_at))) (two r layout.YAt)) (listed_or_zero (ltb 2 (children_listed (r layout.op_at))) (two r layout.ZAt)) _)
  where
    apart : (x y z b : Bool) → (x && (y && (z && b))) ≡ ((x && (y && z)) && b)
    apart true true z b = refl
    apart true false z b = refl
    apart false y z b = refl

-- a test that is true exactly if all pass
pub every_iff : (n : ℕ) (f : ℕ → Bool) (r : Bool) → (IsTrue r ↔ ((k : ℕ) → k < n → IsTrue (f k))) → r ≡ every n f
every_iff n f true h = sym (passed (every n f) (every_of n f (λ k l. passes (f k) (h.0 refl k l))))
every_iff n f false h = go (every n f) refl
  where
    go : (b : Bool) → every n f ≡ b → false ≡ every n f
    go true e = h.1 (λ k l. passed (f k) (every-at n f (passes (every n f) e) k l)) ∙ sym e
    go false e = sym e
