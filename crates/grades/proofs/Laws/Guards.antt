-- Laws of the guards' names: an access is decided by the guard that its number names.
-- Assumes nothing.
use Rattle.std.specs.Prelude.{ℕ, zero, suc, ◌≤◌, ◌≡◌, Bool, [], ◌∷◌}
use Rattle.std.proofs.Common.{refl}
use Rattle.std.proofs.Math.ListN.{get_or-eq_default}
use Rattle.grades.specs.Access.{read_access, write_access}
use Rattle.grades.specs.Guards.{guard_named, guard_number}
use Rattle.grades.specs.declared.access.Guard.TheVariants.{Final, Guarded, WriteGuarded, Unguarded, Unknown}

pub unknown_past : (n : ℕ) → 4 ≤ n → guard_named n ≡ Unknown
unfolding guard_named
unknown_past n h = get_or-eq_default (Final ∷ Guarded ∷ WriteGuarded ∷ Unguarded ∷ []) Unknown h

pub read_named : (w n : ℕ) (held : Bool) → read_access w (guard_number (guard_named n)) held ≡ read_access w n held
unfolding read_access guard_named
read_named w zero held = refl
read_named w (suc zero) held = refl
read_named w (suc (suc zero)) held = refl
read_named w (suc (suc (suc zero))) held = refl
read_named w (suc (suc (suc (suc n)))) held = refl

pub write_named : (w n : ℕ) (held : Bool) → write_access w (guard_number (guard_named n)) held ≡ write_access w n held
unfolding write_access guard_named
write_named w zero held = refl
write_named w (suc zero) held = refl
write_named w (suc (suc zero)) held = refl
write_named w (suc (suc (suc zero))) held = refl
write_named w (suc (suc (suc (suc n)))) held = refl
