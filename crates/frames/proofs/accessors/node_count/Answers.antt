-- `node_count` meets its contract: a method has as many nodes as it counts.
-- Assumes nothing.
use Rattle.frames.specs.Tables.{cell}
use Rattle.frames.specs.Links.{node_count}
use Prim.Native.Nat.{◌+◌, ◌*◌}
use mathlib.Core.Path.{◌≡◌, sym, ◌∙◌}
use Rattle.frames.specs.Laws.Tables.{nodes-length}
use native.Mathlib.Omega.{arith}
use Rattle.frames.proofs.accessors.node_count.Goals as goal

pub returns : goal.returns
returns c = let t = c.args.tables.now in
    let m = c.args.m in
    let e : 256 * c.method_cell.result + c.method_cell-2.result ≡ node_count (cell t) m = omega arith in
    record { is = e ∙ sym (nodes-length (cell t) m); small = omega arith }
