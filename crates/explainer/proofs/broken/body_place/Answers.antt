-- `explainer::broken::body_place` meets its contract.
-- Assumes nothing.
use Rattle.std.proofs.Common.{◌≡◌, ℕ, ◌+◌, suc, ap, ◌∙◌, add-one, arith}
use Rattle.meaning.specs.Lowest.{rounds}
use Rattle.solver.specs.Flat.{program_in}
use Rattle.solver.specs.Laws.Rounds.{rounds-few}
use Rattle.explainer.proofs.Laws.Known.{ready-known, rounds-known}
use Rattle.explainer.proofs.Laws.Broken.{body-found, body-in}
use Rattle.explainer.proofs.broken.body_place.Goals as goal

pub overflow_add-known : goal.overflow_add-known
overflow_add-known c = let a = c.args in
    omega (arith, rounds-known a.known.now c.requires.known, rounds-few a.known.now.tables.bytes c.requires.known.read.fits)

pub returns : goal.returns
returns c = let a = c.args in
    let k = a.known.now in
    let t = k.tables.bytes in
    let ready = ready-known k c.requires.known in
    let round : k.risen.rounds + 1 ≡ suc (rounds (program_in t)) = ap (λ (n : ℕ). n + 1) (rounds-known k c.requires.known) ∙ add-one (rounds (program_in t)) in (
      body-found t k.risen.rises ready a.method a.set c.requires.entry (k.risen.rounds + 1) c.at_root.result c.at_root.ensures round,
      body-in t k.risen.rises ready a.method a.set c.requires.entry (k.risen.rounds + 1) c.at_root.result c.at_root.ensures round,
    )
