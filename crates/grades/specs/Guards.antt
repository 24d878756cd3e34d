-- The guards by name: 0 final, 1 guarded, 2 write-guarded, 3 none; a number over 3 names no guard that the paper has.
-- Assumes nothing.
use Rattle.std.specs.Prelude.{ℕ, [], ◌∷◌, get_or}
use Rattle.grades.specs.declared.access.Guard.{Guard}
use Rattle.grades.specs.declared.access.Guard.TheVariants.{Final, Guarded, WriteGuarded, Unguarded, Unknown}

-- the guard that a number names
unfoldable pub guard_named : ℕ → Guard
guard_named n = get_or (Final ∷ Guarded ∷ WriteGuarded ∷ Unguarded ∷ []) n Unknown

-- a guard's number; an unknown one has the first that names none
abbrev pub guard_number : Guard → ℕ
guard_number Final = 0
guard_number Guarded = 1
guard_number WriteGuarded = 2
guard_number Unguarded = 3
guard_number Unknown = 4
