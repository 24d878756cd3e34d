-- `explainer::places::at_root` meets its contract.
-- Assumes nothing.
use mathlib.Core.Path.{◌≡◌, refl, sym, ap, ◌∙◌}
use native.Mathlib.Omega.{arith}
use Prim.Native.Nat.{◌-◌}
use lib.ListN.{length}
use Rattle.frames.specs.Program.{Method, method_at}
use Rattle.reasons.proofs.Laws.Ends.{some-nodes}
use Rattle.solver.specs.Flat.{program_in}
use Rattle.solver.specs.Rises.{rises}
use Rattle.solver.specs.Laws.Views.{method-in, method-count}
use Rattle.explainer.specs.Code.Lower.{Ready}
use Rattle.explainer.proofs.Laws.Places.{root-number, set-few, at-root}
use Rattle.explainer.proofs.places.at_root.Goals as goal

pub overflow_sub-result : goal.overflow_sub-result
overflow_sub-result c = let a = c.args in
    let t = a.tables.now in
    let pre = c.requires in
    let some = some-nodes (program_in t) pre.0.well_formed a.m pre.1.method in
    let read : c.node_count.result ≡ length (method_at (program_in t) a.m).nodes = c.node_count.ensures.is ∙ sym (ap (λ (x : Method). length x.nodes) (method-in t a.m (omega (arith, method-count t, pre.1.method)))) in
    omega arith

pub overflow_cast-result : goal.overflow_cast-result
overflow_cast-result c = let a = c.args in
    let t = a.tables.now in
    let pre = c.requires in
    omega (arith, set-few t (rises (program_in t)) (record { read = pre.0; rises = refl }) a.m a.set pre.1)

pub returns : goal.returns
returns c = let a = c.args in
    let t = a.tables.now in
    let pre = c.requires in
    let ready : Ready t (rises (program_in t)) = record { read = pre.0; rises = refl } in
    at-root t (rises (program_in t)) ready a.m a.set pre.1 c.first_frame.result (c.node_count.result - 1) a.round c.first_frame.ensures
    (root-number t (rises (program_in t)) ready a.m c.node_count.result pre.1.method c.node_count.ensures.is)
