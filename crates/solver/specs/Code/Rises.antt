-- What the functions that note rises come to.
-- Assumes nothing.
use Rattle.std.specs.Prelude.{ℕ, ◌+◌, ◌*◌, ◌/◌, ◌%◌, ◌≤◌, ◌<◌, cond, ◌&&◌, List, ◌≡◌, leb, ltb, length, get_or}
use Rattle.frames.specs.Layout.{layout}

-- the round n, if an entry went from `old` to `new` past the grade g; else what was noted before
unfoldable pub noted : (before old new g n : ℕ) → ℕ
noted before old new g n = cond (leb old g && ltb g new) n before

-- the rises of entry e from `old` to `new` noted, at the first b of its places
pub record NotedAt (e b old new n : ℕ) (from to : List ℕ) : Type 0 where
  pub size : length to ≡ length from
  pub done : (g : ℕ) → g < b → get_or to (layout.most_grade * e + g) 0 ≡ noted (get_or from (layout.most_grade * e + g) 0) old new g n
  pub before : (i : ℕ) → i < layout.most_grade * e → get_or to i 0 ≡ get_or from i 0
  pub rest : (i : ℕ) → layout.most_grade * e + b ≤ i → get_or to i 0 ≡ get_or from i 0

-- the rises from old tables to new ones noted, at the first b places
pub record Noted (b : ℕ) (old new : List ℕ) (n : ℕ) (from to : List ℕ) : Type 0 where
  pub size : length to ≡ length from
  pub done : (i : ℕ) → i < b
      → get_or to i 0 ≡ noted (get_or from i 0) (get_or old (i / layout.most_grade) 0) (get_or new (i / layout.most_grade) 0) (i % layout.most_grade) n
  pub rest : (i : ℕ) → b ≤ i → get_or to i 0 ≡ get_or from i 0
