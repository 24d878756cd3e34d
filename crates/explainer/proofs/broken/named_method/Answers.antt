-- `explainer::broken::named_method` meets its contract.
-- Assumes nothing.
use mathlib.Core.Path.{refl, sym, ap, subst}
use native.Mathlib.Omega.{arith}
use Prim.Native.Nat.{◌+◌, ◌<◌}
use lib.ListN.{length}
use Rattle.frames.specs.Frames.{methods_in}
use Rattle.frames.specs.Links.{node_count}
use Rattle.frames.specs.Tables.{cell, first_frame}
use Rattle.frames.specs.Program.{Method}
use Rattle.frames.specs.Laws.Tables.{nodes-length}
use Rattle.frames.specs.Layout.{layout}
use Rattle.solver.specs.Flat.{program_in}
use Rattle.solver.specs.Rises.{rises}
use Rattle.solver.specs.Code.Rounds.{At}
use Rattle.solver.specs.Laws.Views.{method-in, method-count}
use Rattle.solver.specs.Laws.Findings.{fork-names}
use Rattle.solver.specs.Laws.Flat.{node-frame}
use Rattle.explainer.specs.Code.Lower.{Ready}
use Rattle.explainer.proofs.Laws.Places.{at_first}
use Rattle.explainer.proofs.Laws.Broken.{no-method-named, no-node-named}
use Rattle.explainer.proofs.broken.named_method.Goals as goal

pub returns-then-methods-m : goal.returns-then-methods-m
returns-then-methods-m c = let a = c.args in
    let t = a.tables.now in
    no-method-named t a.m a.n (omega (arith, c.methods.ensures.is, c.if-methods-m.true))

pub returns-then-node_count-n : goal.returns-then-node_count-n
returns-then-node_count-n c = let a = c.args in
    let t = a.tables.now in
    let within : a.m < methods_in (cell t) = omega (arith, c.methods.ensures.is, c.if-methods-m.false) in
    no-node-named t a.m a.n (omega (arith, c.node_count.ensures.is, c.if-node_count-n.true, ap (λ (x : Method). length x.nodes) (method-in t a.m within)))

pub overflow_add-first_frame : goal.overflow_add-first_frame
overflow_add-first_frame c = let a = c.args in
    let t = a.tables.now in
    let within : a.m < methods_in (cell t) = omega (arith, c.methods.ensures.is, c.if-methods-m.false) in
    let inside : a.n < node_count (cell t) a.m = omega (arith, c.node_count.ensures.is, c.if-node_count-n.false, nodes-length (cell t) a.m) in
    let small : first_frame (cell t) a.m + a.n < layout.most_frames = omega (arith, node-frame t a.m a.n within inside, c.requires.fits.frames) in
    omega (arith, c.first_frame.ensures)

pub returns : goal.returns
returns c = let a = c.args in
    let t = a.tables.now in
    let within : a.m < methods_in (cell t) = omega (arith, c.methods.ensures.is, c.if-methods-m.false) in
    let inside : a.n < node_count (cell t) a.m = omega (arith, c.node_count.ensures.is, c.if-node_count-n.false, nodes-length (cell t) a.m) in
    let ready : Ready t (rises (program_in t)) = record { read = c.requires; rises = refl } in
    let at : At t a.m c.first_frame.result = subst (At t a.m) (sym c.first_frame.ensures) (at_first t (rises (program_in t)) ready a.m (omega (arith, method-count t, within))) in
    fork-names t a.m c.first_frame.result a.n at inside c.used.result c.used.ensures.is
