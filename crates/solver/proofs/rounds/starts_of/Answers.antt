-- `solver::rounds::starts_of` meets its contract. The loop's invariant: the methods passed have their first frames, and the next one's is at hand.
-- Assumes nothing.
use mathlib.Core.Path.{◌≡◌, refl, ◌∙◌}
use native.Mathlib.Omega.{arith}
use Rattle.frames.specs.Laws.Tables.{nodes-length}
use Rattle.frames.specs.Tables.{cell}
use Rattle.frames.specs.Links.{node_count, nodes_before}
use Rattle.solver.specs.Laws.Flat.{starts_more, first_more}
use Rattle.solver.proofs.rounds.starts_of.Goals as goal

pub loop-m-init : goal.loop-m-init
unfolding nodes_before
loop-m-init c = (
  omega (arith, c.methods-methods.ensures.is, c.fields.ensures.is),
  omega (arith, c.methods-methods.ensures.small, c.fields.ensures.small),
  record { size = refl; first = λ i l. absurd (omega arith); small = λ i l. absurd (omega arith) },
)

pub loop-m-preserved : goal.loop-m-preserved
loop-m-preserved c = let t = c.args.tables.now in
    let at = c.loop-m in
    let fits = c.requires in
    let count : c.node_count-at.result ≡ node_count (cell t) at.m = c.node_count-at.ensures.is ∙ nodes-length (cell t) at.m in (
      omega (arith, first_more t at.m, at.invariant.0),
      omega (arith, at.invariant.1, c.node_count-at.ensures.small),
      starts_more t at.starts at.m at.at at.invariant.2 (omega (arith, fits.methods, c.methods-methods.ensures.is)) at.invariant.0
          (omega (arith, fits.methods, c.methods-methods.ensures.is, at.invariant.1)),
    )
