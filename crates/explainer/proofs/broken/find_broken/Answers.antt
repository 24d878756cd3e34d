-- `explainer::broken::find_broken` meets its contract.
-- Assumes nothing.
use Rattle.std.proofs.Common.{ℕ, ap, ◌∙◌}
use Rattle.solver.specs.Flat.{program_in}
use Rattle.explainer.specs.Broken.{chain_about}
use Rattle.explainer.proofs.Laws.Known.{met-steps, broken-steps}
use Rattle.explainer.proofs.Laws.Broken.{any-same}
use Rattle.explainer.proofs.broken.find_broken.Goals as goal

pub returns-in_err-broken : goal.returns-in_err-broken
returns-in_err-broken c = let k = c.args.known.now in
    rw c.from_residual.ensures (met-steps k.tables.bytes c.requires.read k.risen c.requires.solved c.in_err-broken.was)

pub returns : goal.returns
returns c = let k = c.args.known.now in
    let t = k.tables.bytes in
    let b = c.in_ok-broken.broken in
    let about = ap (λ (m : ℕ). chain_about (program_in t) m b.kind b.set) c.about_method-about.ensures in
    any-same t k.risen.rises c.chain_about.result _ _ (about ∙ broken-steps t c.requires.read k.risen c.requires.solved b c.in_ok-broken.was) c.chain_about.ensures
