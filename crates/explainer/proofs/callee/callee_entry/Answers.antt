-- `explainer::callee::callee_entry` meets its contract.
-- Assumes nothing.
use Rattle.std.proofs.Common.{ℕ, List, ◌+◌, ◌*◌, ◌≡◌, ◌<◌, length, take, sym, ap, ◌∙◌, subst, T, arith}
use Rattle.counting.specs.Counting.{member}
use Rattle.frames.specs.Layout.{layout}
use Rattle.frames.specs.Program.{Method, method_at}
use Rattle.meaning.specs.Meaning.{matching}
use Rattle.meaning.specs.Lowest.{entry_count, rounds}
use Rattle.reasons.specs.Steps.{tables_before}
use Rattle.solver.specs.Flat.{program_in}
use Rattle.solver.specs.Nodes.{node_in}
use Rattle.solver.specs.Rises.{rises}
use Rattle.solver.specs.Laws.Views.{method-in}
use Rattle.solver.specs.Laws.Flat.{entry-count, count-read}
use Rattle.solver.specs.Laws.Rises.{rises-length}
use Rattle.explainer.specs.Code.Before.{risen_count}
use Rattle.explainer.specs.Code.Callee.{Best}
use Rattle.explainer.proofs.Laws.Before.{entry_known}
use Rattle.explainer.proofs.Laws.Callee.{best-passed, best-more}
use Rattle.explainer.proofs.callee.callee_entry.Goals as goal
use Rattle.explainer.proofs.callee.callee_entry.Goals.{then-meets, else-meets}

pub entry_before-grade-requires : goal.entry_before-grade-requires
entry_before-grade-requires c = let a = c.args in
    let t = a.tables.now in
    let ready = c.requires.ready in
    (ap length ready.rises ∙ (unfold rises in rises-length t (rounds (program_in t))), omega (arith, c.requires.u_bound.0, ready.read.fits.methods))

pub loop-inside-preserved : goal.loop-inside-preserved
loop-inside-preserved c = let a = c.args in
    let t = a.tables.now in
    let ready = c.requires.ready in
    let given = c.requires.u_bound in
    let at = c.loop-inside in
    let p = program_in t in
    let table = tables_before p a.round a.u in
    let names = (node_in t a.j).names in
    let k = (method_at p a.u).k in
    let small : at.inside < layout.grades = omega arith in
    let is : c.k-k.result ≡ k = c.k-k.ensures.is ∙ sym (ap (λ (x : Method). x.k) (method-in t a.u given.0)) in
    let meets = c.meets.ensures ∙ ap (λ (x : ℕ). member at.inside (matching (take x names) a.set)) is in
    elim c.if-meets.branch [
      | then-meets w ↦
          let grade : w.entry_before-grade.result ≡ table at.inside
          = w.entry_before-grade.ensures.0 ∙ ap (λ (x : List ℕ). risen_count x (layout.grades * a.u + at.inside) a.round) ready.rises
          ∙ entry_known t ready.read a.round given.1 given.2 a.u at.inside (omega (arith, given.0, ready.read.fits.methods)) small in
          subst (Best table names k a.set (at.inside + 1)) (sym w.best-is)
          (best-more table names k a.set at.inside w.entry_before-grade.result at.best w.better.result grade at.invariant (subst T (sym (sym meets ∙ w.if-meets.true)) tt) w.better.ensures)
      | else-meets w ↦ subst (Best table names k a.set (at.inside + 1)) (sym w.best-is)
          (best-passed table names k a.set at.inside at.best at.invariant (λ m. subst T (sym meets ∙ w.if-meets.false) m))
    ]

pub returns : goal.returns
returns c = let a = c.args in
    let t = a.tables.now in
    let ready = c.requires.ready in
    let within = c.requires.u_bound.0 in
    let sets = count-read t ready.read.fits a.u c.k-k.result c.entries-sets.result within c.k-k.ensures.is c.entries-sets.ensures ∙ sym (entry-count t ready.read.fits a.u within) in
    let whole : c.loop-inside.inside ≡ entry_count (program_in t) a.u = omega arith in
    subst (λ (b : ℕ). Best (tables_before (program_in t) a.round a.u) (node_in t a.j).names (method_at (program_in t) a.u).k a.set b c.loop-inside.best) whole c.loop-inside.invariant
