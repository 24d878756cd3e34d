-- `store` meets its contract: after b turns the first b bytes of the line stand in the tables.
-- Assumes nothing.
use lib.ListN.{set}
use Rattle.lines.specs.Laws.Lines.{byte-in}
use Prim.Native.Nat.{ℕ, ◌*◌, ◌+◌}
use mathlib.Core.List.{List}
use Rattle.frames.specs.Layout.{layout}
use Rattle.lines.specs.Lines.{bytes}
use lib.Seq.{paste}
use mathlib.Core.Path.{ap, ◌∙◌}
use native.Mathlib.Omega.{arith}
use Rattle.frames.specs.Laws.Stored.{stored_more}
use Rattle.frames.proofs.reading.store.Goals as goal

pub overflow_cast-tables : goal.overflow_cast-tables
overflow_cast-tables c = omega (arith, byte-in c.args.line.now c.loop-b.b (omega arith), c.line_byte.ensures)

pub loop-b-preserved : goal.loop-b-preserved
loop-b-preserved c = let t = c.args.tables.now in
    let o = c.args.j * layout.stride in
    let b = c.loop-b.b in
    ap (λ (d : List ℕ). set d (o + b) c.line_byte.result) c.loop-b.invariant
    ∙ (ap (set (paste t o (bytes c.args.line.now) b) (o + b)) c.line_byte.ensures
    ∙ stored_more t c.args.line.now o b c.args.count c.requires.0 c.requires.1.1 (omega arith))
