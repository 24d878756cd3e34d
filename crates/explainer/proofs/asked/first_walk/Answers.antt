-- `explainer::asked::first_walk` meets its contract.
-- Assumes nothing.
use mathlib.Core.Path.{◌≡◌, sym, ap, ap₂, ◌∙◌, subst}
use native.Mathlib.Omega.{arith}
use Prim.Native.Nat.{ℕ, suc, ◌+◌, ◌*◌, ◌<◌}
use mathlib.Core.Bool.{Bool, true, false, not}
use mathlib.Core.List.{List}
use native.Mathlib.Numerals.{add-one}
use lib.Dec.{T}
use Rattle.frames.specs.Layout.{layout}
use Rattle.frames.specs.Frames.{methods_in}
use Rattle.frames.specs.Tables.{cell}
use Rattle.meaning.specs.Lowest.{is_declared, rounds}
use Rattle.reasons.specs.Steps.{tables_before}
use Rattle.solver.specs.Flat.{program_in}
use Rattle.solver.specs.Laws.Views.{method-count}
use Rattle.solver.specs.Laws.Flat.{fixed-declared}
use Rattle.solver.specs.Laws.Rounds.{rounds-few}
use Rattle.explainer.specs.Code.Before.{risen_count}
use Rattle.explainer.proofs.Laws.Known.{ready-known, rounds-known}
use Rattle.explainer.proofs.Laws.Before.{entry_known}
use Rattle.explainer.proofs.Laws.Places.{rises-size, methods-few, set-few}
use Rattle.explainer.proofs.Laws.Asked.{starts-declared, final-been, starts-undeclared}
use Rattle.explainer.proofs.asked.first_walk.Goals as goal

pub returns-then-declared : goal.returns-then-declared
returns-then-declared c = let a = c.args in
    let k = a.known.now in
    let t = k.tables.bytes in
    let entry = c.requires.entry in
    let within : a.method < methods_in (cell t) = omega (arith, method-count t, entry.method) in
    let declared : is_declared (program_in t) a.method ≡ true = fixed-declared t c.requires.known.read.fits a.method within ∙ sym c.declared.ensures ∙ c.if-declared.true in
    starts-declared t k.risen.rises (ready-known k c.requires.known) a.method a.set entry c.at_root-at.result declared c.at_root-at.ensures

pub overflow_mul-method : goal.overflow_mul-method
overflow_mul-method c = let a = c.args in
    let k = a.known.now in
    omega (arith, methods-few k.tables.bytes k.risen.rises (ready-known k c.requires.known) a.method c.requires.entry.method)

pub overflow_add-method : goal.overflow_add-method
overflow_add-method c = let a = c.args in
    let k = a.known.now in
    let ready = ready-known k c.requires.known in
    omega (arith, methods-few k.tables.bytes k.risen.rises ready a.method c.requires.entry.method, set-few k.tables.bytes k.risen.rises ready a.method a.set c.requires.entry)

pub overflow_add-known : goal.overflow_add-known
overflow_add-known c = let k = c.args.known.now in
    omega (arith, rounds-known k c.requires.known, rounds-few k.tables.bytes c.requires.known.read.fits)

pub entry_before-grade-requires : goal.entry_before-grade-requires
entry_before-grade-requires c = let a = c.args in
    let k = a.known.now in
    let ready = ready-known k c.requires.known in
    (rises-size k.tables.bytes k.risen.rises ready, omega (arith, methods-few k.tables.bytes k.risen.rises ready a.method c.requires.entry.method, set-few k.tables.bytes k.risen.rises ready a.method a.set c.requires.entry))

pub root_place-at-requires-clause-ready : goal.root_place-at-requires-clause-ready
root_place-at-requires-clause-ready c = ready-known c.args.known.now c.requires.known

-- the entry's grade after the last round
pub root_place-at-requires-clause-has_been : goal.root_place-at-requires-clause-has_been
root_place-at-requires-clause-has_been c = let a = c.args in
    let k = a.known.now in
    let t = k.tables.bytes in
    let ready = ready-known k c.requires.known in
    let entry = c.requires.entry in
    let within : a.method < methods_in (cell t) = omega (arith, method-count t, entry.method) in
    let declared : is_declared (program_in t) a.method ≡ false = fixed-declared t ready.read.fits a.method within ∙ sym c.declared.ensures ∙ c.if-declared.false in
    let graded : c.entry_before-grade.result ≡ tables_before (program_in t) (suc (rounds (program_in t))) a.method a.set
    = c.entry_before-grade.ensures.0 ∙ ap₂ (λ (x : List ℕ) (n : ℕ). risen_count x (layout.grades * a.method + a.set) n) ready.rises (ap (λ (n : ℕ). n + 1) (rounds-known k c.requires.known) ∙ add-one (rounds (program_in t)))
    ∙ entry_known t ready.read (suc (rounds (program_in t))) (omega arith) (omega arith) a.method a.set (methods-few t k.risen.rises ready a.method entry.method) (set-few t k.risen.rises ready a.method a.set entry) in
    final-been t k.risen.rises ready a.method a.set entry c.entry_before-grade.result (subst (λ (b : Bool). T (not b)) (sym declared) tt) graded

pub returns-else-declared : goal.returns-else-declared
returns-else-declared c = let a = c.args in
    let k = a.known.now in
    let t = k.tables.bytes in
    let ready = ready-known k c.requires.known in
    let entry = c.requires.entry in
    let within : a.method < methods_in (cell t) = omega (arith, method-count t, entry.method) in
    let declared : is_declared (program_in t) a.method ≡ false = fixed-declared t ready.read.fits a.method within ∙ sym c.declared.ensures ∙ c.if-declared.false in
    let graded : c.entry_before-grade.result ≡ tables_before (program_in t) (suc (rounds (program_in t))) a.method a.set
    = c.entry_before-grade.ensures.0 ∙ ap₂ (λ (x : List ℕ) (n : ℕ). risen_count x (layout.grades * a.method + a.set) n) ready.rises (ap (λ (n : ℕ). n + 1) (rounds-known k c.requires.known) ∙ add-one (rounds (program_in t)))
    ∙ entry_known t ready.read (suc (rounds (program_in t))) (omega arith) (omega arith) a.method a.set (methods-few t k.risen.rises ready a.method entry.method) (set-few t k.risen.rises ready a.method a.set entry) in
    starts-undeclared t k.risen.rises ready a.method a.set entry c.root_place-at.result c.entry_before-grade.result declared graded c.root_place-at.ensures.0 c.root_place-at.ensures.1
