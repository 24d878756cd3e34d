-- The method that a node stands in.
-- Assumes nothing.
use Prim.Native.Nat.{ℕ, zero, suc, ◌+◌, ◌-◌, ◌≤◌, ◌<◌}
use Rattle.std.specs.Prelude.{◌≡◌}
use Rattle.std.proofs.Math.Path.{ap}
use Rattle.std.proofs.Common.{sym, le-leb}
use Rattle.std.proofs.Math.Logic.{⊎_elim}
use native.Mathlib.Omega.{arith}
use Rattle.std.proofs.lemmas.Bool.{lt-leb}
use Rattle.frames.specs.Frames.{Frames, methods_in}
use Rattle.frames.specs.Links.{node_count, nodes_before, owner_up_to, owner, number_in}
use Rattle.counting.specs.Laws.Tests.{lt-or-le}

-- later methods start no earlier
pub before-grows : (f : Frames) (m j : ℕ) → m ≤ j → nodes_before f m ≤ nodes_before f j
unfolding nodes_before
before-grows f m zero h = ap-le (omega arith)
  where
    ap-le : m ≡ zero → nodes_before f m ≤ 0
    ap-le e = rw e (omega arith)
before-grows f m (suc j) h =
    ⊎_elim
    (λ (l : m < suc j). let r = before-grows f m j (omega arith) in omega arith)
    (λ (g : suc j ≤ m). let e : m ≡ suc j = omega arith in omega (arith, ap (nodes_before f) e))
    (lt-or-le m (suc j))

module _ (f : Frames) (m n a : ℕ) (stands : nodes_before f m + n ≡ a) (within : n < node_count f m) where
  pub owner-up-to : (j : ℕ) → m ≤ j → owner_up_to f j a ≡ m
  unfolding owner_up_to nodes_before
  owner-up-to zero h = omega arith
  owner-up-to (suc j) h =
      ⊎_elim
      (λ (l : m < suc j). let g = before-grows f (suc m) (suc j) (omega arith) in
      rw (lt-leb (nodes_before f (suc j)) a (omega arith)) (owner-up-to j (omega arith)))
      (λ (g : suc j ≤ m). let e : m ≡ suc j = omega arith in
      rw (le-leb (nodes_before f (suc j)) a (omega (arith, ap (nodes_before f) e))) (sym e))
      (lt-or-le m (suc j))

  pub owner-is : m < methods_in f → owner f a ≡ m
  owner-is h = owner-up-to (methods_in f - 1) (omega arith)

  pub number_is : m < methods_in f → number_in f a ≡ n
  number_is h = omega (arith, ap (nodes_before f) (owner-is h))
