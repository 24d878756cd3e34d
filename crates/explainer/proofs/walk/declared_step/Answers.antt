-- `explainer::walk::declared_step` meets its contract.
-- Assumes nothing.
use mathlib.Core.Path.{sym, ap, ◌∙◌}
use native.Mathlib.Omega.{arith}
use lib.ListN.{get_or}
use Prim.Native.Nat.{ℕ}
use Rattle.frames.specs.Tables.{cell, method_of}
use Rattle.frames.specs.Program.{Method}
use Rattle.meaning.specs.Lowest.{method_count, declared_table}
use Rattle.reasons.specs.Steps.{declared_step}
use Rattle.reasons.proofs.Laws.Ends.{root_below}
use Rattle.solver.specs.Flat.{program_in}
use Rattle.solver.specs.Laws.Views.{method-in, method-count}
use Rattle.explainer.proofs.walk.declared_step.Goals as goal

pub overflow_cast-result : goal.overflow_cast-result
overflow_cast-result c = let given = c.requires in omega (arith, method-count c.args.tables.now, given.entry.method, given.read.fits.methods)

pub overflow_cast-result-2 : goal.overflow_cast-result-2
unfolding method_count
overflow_cast-result-2 c = let given = c.requires in
    let nodes = (given.read.well_formed.methods c.args.at.method given.entry.method).few_nodes in
    omega (arith, given.root, root_below (program_in c.args.tables.now) given.read.well_formed c.args.at.method given.entry.method, nodes)

pub returns : goal.returns
unfolding declared_step declared_table
returns c = let a = c.args in
    let t = a.tables.now in
    let given = c.requires in
    let grade = c.entry.ensures.is ∙ ap (λ (h : ℕ). get_or (method_of (cell t) a.at.method).table h 0) c.from.ensures ∙ sym (ap (λ (x : Method). get_or x.table a.at.set 0) (method-in t a.at.method (omega (arith, method-count t, given.entry.method)))) in
    λ i. record { method = a.at.method; node = given.root i; set = a.at.set; round = 0; grade = grade i; rule = 7 }
