-- The lowest tables, worked out round by round: document 01's "Constraints and the answer", from "Start with every undeclared table
-- all 0". Which methods are fixed, at which tables, and a floor that the others keep above, are given; a text gives its declarations,
-- and no floor.
-- Assumes nothing.
use Rattle.std.specs.Prelude.{ℕ, zero, suc, ◌*◌, ◌≤◌, Bool, not, ◌&&◌, cond, ◌≡◌, T, eqb, ltb, length, get_or}
use Rattle.grades.specs.Grades.{const, cap, join}
use Rattle.grades.specs.HeldSets.{entries}
use Rattle.frames.specs.Program.{Program, method_at}
use Rattle.meaning.specs.Meaning.{Assignment, root_table}
use Rattle.counting.specs.Counting.{every, first, total}

-- "One table is no worse than another if it is no larger at every entry": of whole assignments
abbrev pub NoWorse : Assignment → Assignment → Type 0
NoWorse a b = (m H : ℕ) → a m H ≤ b m H

-- ---- the entries of a program's tables

unfoldable pub method_count : Program → ℕ
method_count p = length p.methods

-- "there are 2^k entries, from none held to all held"
unfoldable pub entry_count : Program → (m : ℕ) → ℕ
entry_count p m = entries (method_at p m).k

unfoldable pub is_entry : Program → (m H : ℕ) → Bool
is_entry p m H = ltb m (method_count p) && ltb H (entry_count p m)

-- the tables alone: 0 at every number that is no method's, or no set's
unfoldable pub on_entries : Program → Assignment → Assignment
on_entries p a m H = cond (is_entry p m H) (a m H) const

-- ---- what is given

-- which methods are fixed, and at which tables; a floor that the tables of the others are nowhere below
pub record Givens : Type 0 where
  pub fixed : ℕ → Bool
  pub tables : Assignment
  pub floor : Assignment

-- an assignment keeps to what is given: the fixed tables; else nowhere below the floor, nor below its own root's table
pub record Keeps (p : Program) (g : Givens) (a : Assignment) : Type 0 where
  pub fixed : (m H : ℕ) → T (is_entry p m H) → T (g.fixed m) → a m H ≡ g.tables m H
  pub floor : (m H : ℕ) → T (is_entry p m H) → T (not (g.fixed m)) → cap (g.floor m H) ≤ a m H
  pub root : (m H : ℕ) → T (is_entry p m H) → T (not (g.fixed m)) → root_table p a m H ≤ a m H

-- ---- rounds

-- the fixed tables, and the floor of all others
unfoldable pub start : Program → Givens → Assignment
start p g = on_entries p (λ m H. cond (g.fixed m) (g.tables m H) (cap (g.floor m H)))

-- "One round gives every undeclared method its root's table, all worked out from the tables before the round." A root below the floor
-- gives the floor.
unfoldable pub round : Program → Givens → Assignment → Assignment
round p g a = on_entries p (λ m H. cond (g.fixed m) (g.tables m H) (join (g.floor m H) (root_table p a m H)))

-- the tables after n rounds
unfoldable pub after : Program → Givens → ℕ → Assignment
after p g zero = start p g
after p g (suc n) = round p g (after p g n)

-- two assignments have the same tables
unfoldable pub same : Program → Assignment → Assignment → Bool
same p a b = every (method_count p) (λ m. every (entry_count p m) (λ H. eqb (a m H) (b m H)))

-- round n+1 changes nothing
unfoldable pub settled : Program → Givens → ℕ → Bool
settled p g n = same p (after p g n) (round p g (after p g n))

-- "the number of entries of undeclared methods"
unfoldable pub open_entries : Program → Givens → ℕ
open_entries p g = total (method_count p) (λ m. cond (g.fixed m) 0 (entry_count p m))

-- "Rounds is the least n such that round n+1 changes nothing. It is at most 4 times the number of entries of undeclared methods": that such
-- an n is found by then is proved.
unfoldable pub rounds_from : Program → Givens → ℕ
rounds_from p g = first (4 * open_entries p g) (settled p g)

-- "the tables then reached"
unfoldable pub lowest_from : Program → Givens → Assignment
lowest_from p g = after p g (rounds_from p g)

-- ---- a text's own: the declared methods are fixed, and there is no floor

unfoldable pub is_declared : Program → (m : ℕ) → Bool
is_declared p m = (method_at p m).declared

unfoldable pub declared_table : Program → Assignment
declared_table p m H = get_or (method_at p m).table H const

unfoldable pub declarations : Program → Givens
declarations p = record { fixed = is_declared p; tables = declared_table p; floor = λ m H. const }

unfoldable pub rounds : Program → ℕ
rounds p = rounds_from p (declarations p)

unfoldable pub lowest : Program → Assignment
lowest p = lowest_from p (declarations p)
