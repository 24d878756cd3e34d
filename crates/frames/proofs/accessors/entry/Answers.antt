-- `entry` meets its contract: within its table an entry is the frame's byte, past it 0.
-- Assumes nothing.
use Rattle.frames.specs.Layout.{layout}
use Rattle.frames.specs.Tables.{cell}
use Prim.Native.Nat.{ℕ, ◌^◌, min}
use mathlib.Core.Path.{sym, ◌∙◌, ap}
use Rattle.frames.specs.Laws.Tables.{table-entry, table-past}
use native.Mathlib.Omega.{arith}
use Rattle.frames.proofs.accessors.entry.Goals as goal

pub returns-then-entries-h : goal.returns-then-entries-h
returns-then-entries-h c = let f = cell c.args.tables.now in
    let e = c.entries.ensures ∙ ap (λ (x : ℕ). min (2 ^ x) layout.grades) c.k.ensures.is in
    record { is = sym (table-past f _ _ (omega (arith, e))); small = omega arith }

pub returns : goal.returns
returns c = let f = cell c.args.tables.now in
    let e = c.entries.ensures ∙ ap (λ (x : ℕ). min (2 ^ x) layout.grades) c.k.ensures.is in
    record { is = c.method_cell.ensures.is ∙ sym (table-entry f _ _ (omega (arith, e))); small = omega arith }
