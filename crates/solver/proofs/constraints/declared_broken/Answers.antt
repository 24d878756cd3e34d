-- `solver::constraints::declared_broken` meets its contract. The loop's invariant: at no set passed is the constraint broken.
-- Assumes nothing.
use mathlib.Core.Path.{◌≡◌}
use native.Mathlib.Omega.{arith}
use borrow.Author.Count.{below_more}
use Rattle.meaning.specs.Lowest.{declared_table}
use Rattle.solver.specs.Laws.Findings.{declared-is, declared-entry, sets-few}
use Rattle.solver.specs.Flat.{program_in, tables_in}
use Rattle.solver.proofs.constraints.declared_broken.Goals as goal

pub overflow_cast-h : goal.overflow_cast-h
overflow_cast-h c = omega (arith, c.sets_of-h-end.ensures, sets-few c.args.method.tables.now c.args.method.fits c.args.method.number)

pub returns-then-entry-from : goal.returns-then-entry-from
returns-then-entry-from c = let a = c.args in
    let t = a.method.tables.now in
    let given = c.requires in
    let at = c.loop-h in
    let own : c.entry.result ≡ declared_table (program_in t) a.method.number at.h
    = declared-entry t a.method.number at.h c.entry.result c.args.method.at.method c.entry.ensures.is in
    (omega (arith, c.sets_of-h-end.ensures), declared-is (program_in t) (tables_in a.grades.now) a.method.number c.sets_of-h-end.result at.h c.sets_of-h-end.ensures (omega arith) at.invariant (λ l. omega (arith, c.root_grade-root.ensures)))

pub loop-h-preserved : goal.loop-h-preserved
loop-h-preserved c = let a = c.args in
    let t = a.method.tables.now in
    let at = c.loop-h in
    let own : c.entry.result ≡ declared_table (program_in t) a.method.number at.h
    = declared-entry t a.method.number at.h c.entry.result c.args.method.at.method c.entry.ensures.is in
    below_more _ _ at.invariant (omega (arith, c.root_grade-root.ensures))

pub returns : goal.returns
returns c = let a = c.args in
    let at = c.loop-h in
    let same = declared-is (program_in a.method.tables.now) (tables_in a.grades.now) a.method.number c.sets_of-h-end.result at.h c.sets_of-h-end.ensures (omega arith) at.invariant (λ l. absurd (omega arith)) in
    omega (arith, same, c.sets_of-h-end.ensures)
