-- `entries` meets its contract: four names have 16 held sets, and more names no fewer.
-- Assumes nothing.
use Rattle.std.proofs.Common.{arith, ◌≡◌, ◌≤◌, ℕ, ◌^◌, ⊎_elim, min, ◌*◌, ◌%◌, ◌<◌}
use Rattle.std.proofs.Math.Pow.{pow_mono}
use Rattle.counting.specs.Laws.Tests.{lt-or-le}
use Rattle.frames.specs.Layout.{layout}
use Rattle.frames.proofs.accessors.entries.Goals as goal

shifted : (k m : ℕ) → m ≡ min k layout.most_names → 1 * 2 ^ m % 2 ^ 64 ≡ min (2 ^ k) layout.grades
shifted k m e =
    ⊎_elim
    (λ (l : k < 4). let same : m ≡ k = omega (arith, e) in rw same (omega (arith, pow_mono {i = k} {j = 4} (omega arith))))
    (λ (g : 4 ≤ k). let four : m ≡ 4 = omega (arith, e) in rw four (omega (arith, pow_mono {i = 4} {j = k} g)))
    (lt-or-le k 4)

pub returns : goal.returns
returns c = shifted c.args.k c.min.result c.min.ensures
