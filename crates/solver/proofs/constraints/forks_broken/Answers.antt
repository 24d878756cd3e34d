-- `solver::constraints::forks_broken` meets its contract. The loop's invariant: the first broken constraint is that of the forks not passed yet.
-- Assumes nothing.
use mathlib.Core.Path.{◌≡◌, refl, sym, ap, ◌∙◌}
use native.Mathlib.Omega.{arith}
use Prim.Native.Nat.{ℕ, ◌+◌, ◌-◌, ◌<◌}
use Rattle.frames.specs.Links.{node_count}
use Rattle.frames.specs.Ops.{op_named, number_of}
use Rattle.frames.specs.Laws.Ops.{named_number}
use Rattle.frames.specs.declared.ops.Op.TheVariants.{Fork}
use Rattle.frames.specs.Tables.{cell}
use Rattle.frames.specs.Laws.Tables.{nodes-length}
use Rattle.meaning.specs.Constraints.{first_broken, fork_at, forked_table, named_method}
use Rattle.counting.specs.Counting.{only_if}
use mathlib.Core.List.{◌++◌}
use Rattle.meaning.specs.Lowest.{entry_count}
use Rattle.solver.specs.Laws.Findings.{lists_from, fork_of, forks-all, lists-next, lists-end, is-fork, no-fork, fork-names, fork-set, if-not, if-broken, if-met, no-set}
use Rattle.solver.specs.Nodes.{node_in}
use Rattle.solver.specs.Flat.{program_in, tables_in}
use Rattle.solver.specs.Findings.{found}
use Rattle.solver.specs.Code.Forks.{fork_set}
use Rattle.solver.proofs.constraints.forks_broken.Goals as goal
use Rattle.solver.proofs.constraints.forks_broken.Goals.{in-Fork+in_default-fork_broken, in_default}

pub loop-node-init : goal.loop-node-init
loop-node-init c = let a = c.args in
    let t = a.method.tables.now in
    ap (first_broken (program_in t) (tables_in a.grades.now)) (forks-all t a.method.number (node_count (cell t) a.method.number) c.args.method.at.method refl)

-- a number that names `Fork` is 9
nine : {n : ℕ} → op_named n ≡ Fork → n ≡ 9
nine {n = n} e = sym (named_number n) ∙ ap number_of e

pub returns-in-Some : goal.returns-in-Some
returns-in-Some c = let a = c.args in
    let t = a.method.tables.now in
    let p = program_in t in
    let g = tables_in a.grades.now in
    let at = c.loop-node in
    let given = c.requires in
    let count = c.node_count-node-end.ensures.is ∙ nodes-length (cell t) a.method.number in
    let here = (node_in t (a.method.first + at.node)).op in
    let inside : at.node < node_count (cell t) a.method.number = omega (arith, count) in
    let u = c.used-u.result in
    let named : u ≡ named_method p a.method.number at.node = fork-names t a.method.number a.method.first at.node c.args.method.at inside u c.used-u.ensures.is in
    ap found
    (sym (at.invariant ∙ ap (first_broken p g) (lists-next (fork_of p a.method.number) at.node (node_count (cell t) a.method.number) inside)
    ∙ if-broken p g (fork_at p a.method.number at.node) (forked_table a.method.number at.node) _ c.in-Some.set
    (is-fork t a.method.number a.method.first at.node c.args.method.at inside here refl (nine (sym c.op_at.ensures ∙ c.in-Fork.is)))
    (c.in-Some.ensures.1 ∙ fork-set p g a.method.number at.node u named)
    (omega (arith, c.in-Some.ensures.0, ap (entry_count p) named))))

pub loop-node-preserved : goal.loop-node-preserved
unfolding op_named
loop-node-preserved c = let a = c.args in
    let t = a.method.tables.now in
    let p = program_in t in
    let g = tables_in a.grades.now in
    let at = c.loop-node in
    let given = c.requires in
    let nodes = node_count (cell t) a.method.number in
    let count = c.node_count-node-end.ensures.is ∙ nodes-length (cell t) a.method.number in
    let here = (node_in t (a.method.first + at.node)).op in
    let inside : at.node < nodes = omega (arith, count) in
    let rest = lists_from (fork_of p a.method.number) (at.node + 1) (nodes - (at.node + 1)) in
    let passed : first_broken p g (only_if (fork_at p a.method.number at.node) (forked_table a.method.number at.node) ++ rest) ≡ first_broken p g rest
    = elim c.match-op_at.branch [
      | in-Fork+in_default-fork_broken w ↦
          let named : w.used-u.result ≡ named_method p a.method.number at.node = fork-names t a.method.number a.method.first at.node c.args.method.at inside w.used-u.result w.used-u.ensures.is in
          if-met p g (fork_at p a.method.number at.node) (forked_table a.method.number at.node) rest (fork_set p g w.used-u.result)
          (is-fork t a.method.number a.method.first at.node c.args.method.at inside here refl (nine (sym c.op_at.ensures ∙ w.in-Fork.is)))
          (fork-set p g a.method.number at.node w.used-u.result named)
          (omega (arith, no-set _ _ w.fork_broken.result w.fork_broken.ensures w.in_default-fork_broken.not-Some, ap (entry_count p) named))
      | in_default w ↦ if-not p g (fork_at p a.method.number at.node) (forked_table a.method.number at.node) rest
          (no-fork t a.method.number a.method.first at.node c.args.method.at inside here refl (λ e. w.in_default.not-Fork (c.op_at.ensures ∙ ap op_named e)))
    ] in at.invariant ∙ ap (first_broken p g) (lists-next (fork_of p a.method.number) at.node nodes inside) ∙ passed

pub returns : goal.returns
returns c = let a = c.args in
    let t = a.method.tables.now in
    let at = c.loop-node in
    let count = c.node_count-node-end.ensures.is ∙ nodes-length (cell t) a.method.number in
    ap found (sym (at.invariant ∙ lists-end (program_in t) (tables_in a.grades.now) (fork_of (program_in t) a.method.number) at.node (node_count (cell t) a.method.number) (omega (arith, count))))
