-- A root's grade in the lowest tables, case by case.
-- Assumes nothing.
use Rattle.std.specs.Prelude.{ℕ, Bool, true, false, List, Some, None, ◌≡◌}
use Rattle.std.proofs.Math.Bool.{cond}
use Rattle.std.proofs.Math.Path.{sym, ap}
use Rattle.std.proofs.Common.{◌∙◌}
use Rattle.meaning.specs.Meaning.{root_table}
use Rattle.meaning.specs.Lowest.{is_entry, lowest}
use Rattle.solver.specs.Room.{has_room}
use Rattle.solver.specs.Root.{lowest_root, root_in}
use Rattle.solver.specs.Flat.{program_in}

module _ (t : List ℕ) (m H : ℕ) where
  pub root-no-room : has_room t ≡ false → None ≡ root_in t m H
  unfolding root_in
  root-no-room e = sym (ap (λ (b : Bool). cond b (lowest_root (program_in t) m H) None) e)

  -- what has room comes to what its program does
  pub root-room : has_room t ≡ true → root_in t m H ≡ lowest_root (program_in t) m H
  unfolding root_in
  root-room e = ap (λ (b : Bool). cond b (lowest_root (program_in t) m H) None) e

  pub root-no-entry : has_room t ≡ true → is_entry (program_in t) m H ≡ false → None ≡ root_in t m H
  unfolding lowest_root
  root-no-entry e none = sym (root-room e ∙ ap (λ (b : Bool). cond b (Some (root_table (program_in t) (lowest (program_in t)) m H)) None) none)

  pub root-entry : (grade : ℕ) → has_room t ≡ true → is_entry (program_in t) m H ≡ true → grade ≡ root_table (program_in t) (lowest (program_in t)) m H
      → Some grade ≡ root_in t m H
  unfolding lowest_root
  root-entry grade e some is =
      ap Some is ∙ sym (root-room e ∙ ap (λ (b : Bool). cond b (Some (root_table (program_in t) (lowest (program_in t)) m H)) None) some)
