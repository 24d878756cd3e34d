-- `explainer::walk::enter` meets its contract.
-- Assumes nothing.
use mathlib.Core.Path.{◌≡◌, ap, ◌∙◌, subst}
use Prim.Native.Nat.{ℕ}
use mathlib.Core.List.{List}
use lib.ListN.{length}
use Rattle.frames.specs.Program.{method_at}
use Rattle.meaning.specs.Meaning.{Assignment}
use Rattle.solver.specs.Flat.{program_in, tables_in}
use Rattle.explainer.specs.Code.Before.{tables_at}
use Rattle.explainer.specs.Code.Lower.{Lower}
use Rattle.explainer.proofs.Laws.Before.{tables-known}
use Rattle.explainer.proofs.walk.enter.Goals as goal

-- the same in the same tables
in_tables : (t : List ℕ) (b b' : Assignment) (m n : ℕ) (lower : List ℕ) → b ≡ b' → Lower t b m n lower → Lower t b' m n lower
in_tables t b b' m n lower e known = subst (λ (x : Assignment). Lower t x m n lower) e known

pub returns : goal.returns
returns c = let a = c.args in
    let t = a.tables.now in
    let ready = c.requires.ready.0 in
    let placed = c.requires.ready.1 in
    in_tables t _ _ a.at.method (length (method_at (program_in t) a.at.method).nodes) _
    (ap tables_in (c.tables_before-before.ensures ∙ ap (λ (x : List ℕ). tables_at x a.at.round) ready.rises)
    ∙ tables-known t ready.read a.at.round placed.fits.round placed.fits.no_later)
    c.grade_nodes.ensures
