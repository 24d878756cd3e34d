-- What the rounds' functions come to, over flat tables.
-- Assumes nothing.
use Rattle.std.specs.Prelude.{ℕ, ◌+◌, ◌*◌, ◌^◌, ◌≤◌, ◌<◌, Bool, not, List, ◌≡◌, T, length, get_or}
use Rattle.frames.specs.Frames.{methods_in}
use Rattle.frames.specs.Tables.{cell, method_of, first_frame}
use Rattle.meaning.specs.Lowest.{is_entry, declarations, is_declared, start, round}
use Rattle.solver.specs.Code.Engine.{last_frame, LocksFit}
use Rattle.frames.specs.Layout.{layout, answer_length}
use Rattle.solver.specs.Flat.{program_in, flat, tables_in}

-- tables that flat tables have room for
pub record Fits (t : List ℕ) : Type 0 where
  pub methods : methods_in (cell t) ≤ layout.most_methods
  pub names : (m : ℕ) → m < methods_in (cell t) → (method_of (cell t) m).k ≤ layout.most_names
  pub frames : last_frame t ≤ layout.most_frames
  pub locks : LocksFit t

-- the frame of the first node of each method below m
pub record Starts (t : List ℕ) (m : ℕ) (starts : List ℕ) : Type 0 where
  pub size : length starts ≡ layout.most_methods
  pub first : (i : ℕ) → i < m → get_or starts i 0 ≡ first_frame (cell t) i
  pub small : (i : ℕ) → i < m → get_or starts i 0 < 2 ^ 32

-- `first` is the frame of method m's first node
pub record At (t : List ℕ) (m first : ℕ) : Type 0 where
  pub method : m < methods_in (cell t)
  pub frame : first ≡ first_frame (cell t) m
  pub small : first < 2 ^ 32

-- whether a method is declared
abbrev pub is_fixed : List ℕ → ℕ → Bool
is_fixed t m = (method_of (cell t) m).declared

-- the tables that rounds start from, and those that one round gives
unfoldable pub start_tables : List ℕ → List ℕ
start_tables t = flat (start (program_in t) (declarations (program_in t)))

unfoldable pub round_tables : List ℕ → List ℕ → List ℕ
round_tables t old = flat (round (program_in t) (declarations (program_in t)) (tables_in old))

-- new tables, worked out up to place b and otherwise as they were
pub record Done (b : ℕ) (target old new : List ℕ) : Type 0 where
  pub size : length new ≡ answer_length
  pub before : (i : ℕ) → i < b → get_or new i 0 ≡ get_or target i 0
  pub rest : (i : ℕ) → b ≤ i → get_or new i 0 ≡ get_or old i 0

-- tables that a round alters at the entries of undeclared methods alone
pub record Still (t old : List ℕ) : Type 0 where
  pub size : length old ≡ answer_length
  pub declared : (m h : ℕ) → m < layout.most_methods → h < layout.grades → T (is_declared (program_in t) m) → get_or (round_tables t old) (layout.grades * m + h) 0 ≡ get_or old (layout.grades * m + h) 0
  pub outside : (m h : ℕ) → m < layout.most_methods → h < layout.grades → T (not (is_entry (program_in t) m h)) → get_or (round_tables t old) (layout.grades * m + h) 0 ≡ get_or old (layout.grades * m + h) 0

-- whether two tables are the same up to place n
pub record SameTo (n : ℕ) (old new : List ℕ) (r : Bool) : Type 0 where
  pub yes : T r → (i : ℕ) → i < n → get_or old i 0 ≡ get_or new i 0
  pub no : T (not r) → (i : ℕ) × (i < n) × (get_or old i 0 ≡ get_or new i 0 → ⊥)
