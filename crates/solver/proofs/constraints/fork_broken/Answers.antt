-- `solver::constraints::fork_broken` meets its contract. The loop's invariant: at no set passed is the constraint broken.
-- Assumes nothing.
use mathlib.Core.Path.{sym, ◌∙◌}
use native.Mathlib.Omega.{arith}
use Rattle.solver.specs.Laws.Findings.{fork-is, sets-few}
use Rattle.solver.specs.Flat.{program_in, tables_in}
use Rattle.solver.proofs.constraints.fork_broken.Goals as goal

pub returns : goal.returns
returns c = let a = c.args in
    let at = c.loop-held in
    let same = fork-is (program_in a.tables.now) (tables_in a.grades.now) a.u c.sets_of-held-end.result at.held c.sets_of-held-end.ensures (omega arith) at.invariant (λ l. absurd (omega arith)) in
    omega (arith, same, c.sets_of-held-end.ensures)

pub overflow_cast-held : goal.overflow_cast-held
overflow_cast-held c = omega (arith, c.sets_of-held-end.ensures, sets-few c.args.tables.now c.requires.fits c.args.u)

pub returns-then-holds : goal.returns-then-holds
returns-then-holds c = let a = c.args in
    let at = c.loop-held in (
      omega (arith, c.sets_of-held-end.ensures),
      fork-is (program_in a.tables.now) (tables_in a.grades.now) a.u c.sets_of-held-end.result at.held c.sets_of-held-end.ensures (omega arith) at.invariant
          (λ l. (omega (arith, c.entry_at.ensures), sym c.holds.ensures ∙ c.if-holds.true)),
    )
