-- What the functions that look back at a round come to, over the rounds of the rises.
-- Assumes nothing.
use Rattle.std.specs.Prelude.{ℕ, zero, suc, ◌+◌, ◌*◌, cond, List, ltb, get_or}
use Rattle.counting.specs.Counting.{tabulate}
use Rattle.frames.specs.Layout.{layout, answer_length}

-- 1 if entry e rose past grade g before a round, else 0
unfoldable pub risen_past : List ℕ → (e round g : ℕ) → ℕ
risen_past rises e round g = cond (ltb (get_or rises (layout.most_grade * e + g) 0) round) 1 0

-- how often entry e of flat tables rose before a round
unfoldable pub risen_count : List ℕ → (e round : ℕ) → ℕ
risen_count rises e round =
    risen_past rises e round 0 + risen_past rises e round 1 + (risen_past rises e round 2 + risen_past rises e round 3)

unfoldable pub tables_at : List ℕ → (round : ℕ) → List ℕ
tables_at rises round = tabulate answer_length (λ e. risen_count rises e round)

-- the round at which entry e first got a grade
abbrev pub round_at : List ℕ → (e grade : ℕ) → ℕ
round_at rises e zero = 1
round_at rises e (suc g) = get_or rises (layout.most_grade * e + g) 0
