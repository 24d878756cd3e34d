-- `explainer::asked::is_entry` meets its contract.
-- Assumes nothing.
use mathlib.Core.Path.{◌≡◌, sym, ◌∙◌}
use native.Mathlib.Omega.{arith}
use Prim.Native.Nat.{◌<◌}
use Rattle.std.proofs.Common.{le-ltb}
use Rattle.frames.specs.Frames.{methods_in}
use Rattle.frames.specs.Tables.{cell}
use Rattle.meaning.specs.Lowest.{entry_count}
use Rattle.solver.specs.Flat.{program_in}
use Rattle.solver.specs.Laws.Views.{method-count}
use Rattle.solver.specs.Laws.Flat.{count-read, entry-count}
use Rattle.explainer.proofs.Laws.Asked.{no-method, set_tested}
use Rattle.explainer.proofs.asked.is_entry.Goals as goal

pub returns-then-method-methods : goal.returns-then-method-methods
returns-then-method-methods c = let a = c.args in
    let t = a.tables.now in
    let fits = c.requires.fits in
    let within : a.method < methods_in (cell t) = omega (arith, c.methods.ensures.is) in
    let sets : c.entries.result ≡ entry_count (program_in t) a.method
    = count-read t fits a.method c.k.result c.entries.result within c.k.ensures.is c.entries.ensures ∙ sym (entry-count t fits a.method within) in
    set_tested (program_in t) a.method a.set c.entries.result (omega (arith, method-count t, within)) sets

pub returns-else-method-methods : goal.returns-else-method-methods
returns-else-method-methods c = let a = c.args in
    let t = a.tables.now in
    le-ltb a.method c.methods.result c.if-method-methods.false
    ∙ no-method (program_in t) a.method a.set (omega (arith, method-count t, c.methods.ensures.is, c.if-method-methods.false))
