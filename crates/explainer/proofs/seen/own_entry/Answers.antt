-- `explainer::seen::own_entry` meets its contract.
-- Assumes nothing.
use mathlib.Core.Path.{refl, sym, ap, ◌∙◌, subst}
use native.Mathlib.Omega.{arith}
use Prim.Native.Nat.{ℕ, ◌+◌}
use Rattle.frames.specs.Ops.{op_named}
use Rattle.frames.specs.Program.{Node, method_at}
use Rattle.meaning.specs.Lowest.{entry_count}
use Rattle.reasons.specs.Steps.{tables_before}
use Rattle.solver.specs.Flat.{program_in}
use Rattle.solver.specs.Nodes.{node_in}
use Rattle.solver.specs.Laws.Views.{method-count}
use Rattle.explainer.specs.declared.callee.Entry.{Entry}
use Rattle.explainer.specs.Code.Callee.{BestAt, Best}
use Rattle.explainer.proofs.Laws.Callee.{met}
use Rattle.explainer.proofs.Laws.Seen.{call-named}
use Rattle.explainer.proofs.Laws.Places.{node-few, node-here, called-few}
use Rattle.explainer.proofs.seen.own_entry.Goals as goal

pub overflow_add-j : goal.overflow_add-j
overflow_add-j c = let a = c.args in
    let t = a.tables.now in
    let ready = c.requires.ready.0 in
    let placed = c.requires.ready.1 in
    omega (arith, placed.first.small, node-few t a.rises.now ready a.at placed)

pub callee_entry-met-requires : goal.callee_entry-met-requires
callee_entry-met-requires c = let a = c.args in
    let t = a.tables.now in
    let ready = c.requires.ready.0 in
    let placed = c.requires.ready.1 in
    let node = node-here t a.rises.now ready a.at placed in
    let eight = sym (ap (λ (x : Node). x.op) node) ∙ call-named _ (sym c.requires.op_value ∙ c.in-Call.is) in
    record { ready = ready; u_bound = (omega (arith, called-few t a.rises.now ready a.at placed eight, method-count t, c.used.ensures.is, ap (λ (x : Node). x.U) node), placed.fits.round, placed.fits.no_later) }

pub returns-in-Call : goal.returns-in-Call
returns-in-Call c = let a = c.args in
    let p = program_in a.tables.now in
    let node = node_in a.tables.now (a.at.first + a.at.node) in
    let table = tables_before p a.at.round in
    let given : Entry = record { grade = a.own; set = 0 } in
    let best = subst (λ (u : ℕ). Best (table u) node.names (method_at p u).k a.at.set (entry_count p u) c.callee_entry-met.result) c.used.ensures.is c.callee_entry-met.ensures in
    record {
      called = λ _.
          subst (λ (e : Entry). BestAt (table node.U) node.names (method_at p node.U).k a.at.set (entry_count p node.U) e.grade e.set) (sym c.unwrap_or.ensures)
          (met p table node a.at.set c.callee_entry-met.result given best);
      other = λ n. absurd (n (call-named _ (sym c.requires.op_value ∙ c.in-Call.is)));
    }

pub returns-in_default : goal.returns-in_default
unfolding op_named
returns-in_default c = record { called = λ e. absurd (c.in_default.not-Call (c.requires.op_value ∙ ap op_named e)); other = λ n. refl }
