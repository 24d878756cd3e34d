-- Where a constraint is broken, as the code looks for it.
-- Assumes nothing.
use Rattle.std.specs.Prelude.{ℕ, ◌≤◌, ◌<◌, not, ◌||◌, ◌≡◌, leb, Option, MatchOption}
use Rattle.grades.specs.Grades.{cmpd}
use Rattle.grades.specs.HeldSets.{held}
use Rattle.frames.specs.Program.{Program}
use Rattle.meaning.specs.Meaning.{Assignment}
use Rattle.counting.specs.Counting.{first}
use Rattle.meaning.specs.Lowest.{entry_count}

-- the lowest held set at which method u's table is over 3 with its lock 0 held; as many as there are sets if there is none
unfoldable pub fork_set : Program → Assignment → (u : ℕ) → ℕ
fork_set p a u = first (entry_count p u) (λ H. not (not (held H 0) || leb (a u H) cmpd))

-- the set H, of `count` sets; none where H is as many as there are
abbrev pub IsLowestSet : (count H : ℕ) → Option ℕ → Type 0
IsLowestSet count H r = MatchOption r (count ≤ H) (λ set. (set < count) × (set ≡ H))
