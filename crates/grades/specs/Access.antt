-- What an access of a field costs, by the field's width and guard, read or write, and whether the lock is held.
-- Assumes nothing.
use Rattle.std.specs.Prelude.{ℕ, Bool, true, false, cond, [], ◌∷◌, get_or}
use Rattle.grades.specs.Grades.{const, mover, atomic, cmpd, error}

-- "An access without protection has grade 2 for a narrow field and 3 for a wide one": width 0 is narrow, 1 wide. A width that
-- the paper does not have counts as wide.
unfoldable pub unprotected : ℕ → ℕ
unprotected w = get_or (atomic ∷ cmpd ∷ []) w cmpd

-- the grade that goes with the guard: 0 final, 1 guarded, 2 write-guarded, 3 none. A guard that the paper does not have permits
-- nothing: error.
abbrev pub by_guard : (guard final guarded write_guarded none : ℕ) → ℕ
by_guard guard final guarded write_guarded none = get_or (final ∷ guarded ∷ write_guarded ∷ none ∷ []) guard error

-- "Guarded: 1 if the lock is held, else 4, read and write alike"
unfoldable pub guarded : Bool → ℕ
guarded held = cond held mover error

-- "final field, read 0"; "Write-guarded: read 1 if held, else the unprotected grade"; "No guard: the unprotected grade"
unfoldable pub read_access : ℕ → ℕ → Bool → ℕ
read_access w g held = by_guard g const (guarded held) (cond held mover (unprotected w)) (unprotected w)

-- "final field, .. write 4"; "Write-guarded: .. write the unprotected grade if held, else 4"; "No guard: the unprotected grade"
unfoldable pub write_access : ℕ → ℕ → Bool → ℕ
write_access w g held = by_guard g error (guarded held) (cond held (unprotected w) error) (unprotected w)

-- an access of a field of width w under guard g; `write` tells a write from a read
unfoldable pub access : ℕ → ℕ → Bool → Bool → ℕ
access w g true held = write_access w g held
access w g false held = read_access w g held
