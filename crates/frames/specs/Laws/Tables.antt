-- Laws of the tables' cells, and of what the tables say of a method.
-- Assumes nothing.
use Rattle.std.specs.Prelude.{ℕ, zero, suc, ◌+◌, ◌-◌, ◌*◌, ◌^◌, ◌≤◌, ◌<◌, min, ◌≡◌, refl, Bool, true, false, cond, ◌&&◌, List, ◌⊎◌, ltb, length, get_or}
use Rattle.std.proofs.Common.{ap, sym, ◌∙◌, ⊎_elim, arith, zero-add, suc-add, add-zero, add-one, lt-ltb, le-ltb}
use Rattle.std.proofs.Math.ListN.{get_or-eq_default}
use Rattle.counting.specs.Laws.Lists.{get_or-past-tabulate, get_or-tabulate, length-tabulate}
use Rattle.counting.specs.Laws.Tests.{lt-or-le}
use Rattle.frames.specs.Layout.{layout}
use Rattle.frames.specs.Frames.{Frames, method_frame}
use Rattle.frames.specs.Links.{nodes_before, node_count}
use Rattle.frames.specs.Tables.{cell, method_of, grade_of}

pub cell_in : (t : List ℕ) (j b : ℕ) → j < layout.most_frames → b < layout.stride → cell t j b ≡ get_or t (j * layout.stride + b) 0
unfolding cell
cell_in t j b hj hb = simp (lt-ltb j layout.most_frames hj, lt-ltb b layout.stride hb)

pub cell-past-frame : (t : List ℕ) (j b : ℕ) → layout.most_frames ≤ j → cell t j b ≡ 0
unfolding cell
cell-past-frame t j b h = simp (le-ltb j layout.most_frames h)

pub cell-past-byte : (t : List ℕ) (j b : ℕ) → layout.stride ≤ b → cell t j b ≡ 0
unfolding cell
cell-past-byte t j b h = go (ltb j layout.most_frames)
  where
    go : (x : Bool) → cond (x && ltb b layout.stride) (get_or t (j * layout.stride + b) 0) 0 ≡ 0
    go true = simp (le-ltb b layout.stride h)
    go false = refl

pub cell-past-end : (t : List ℕ) (j b : ℕ) → length t ≤ j * layout.stride + b → cell t j b ≡ 0
unfolding cell
cell-past-end t j b h = go (ltb j layout.most_frames && ltb b layout.stride)
  where
    go : (x : Bool) → cond x (get_or t (j * layout.stride + b) 0) 0 ≡ 0
    go true = get_or-eq_default t 0 h
    go false = refl

pub nodes-before-more : (f : Frames) (m : ℕ) → nodes_before f (m + 1) ≡ nodes_before f m + node_count f m
unfolding nodes_before
nodes-before-more f m = rw (add-one m)

pub nodes-length : (f : Frames) (m : ℕ) → length (method_of f m).nodes ≡ node_count f m
nodes-length f m = length-tabulate _ _

-- a method that the tables have no room for has no nodes
pub nodes-before-past : (t : List ℕ) (n : ℕ) → nodes_before (cell t) (n + layout.most_frames) ≡ nodes_before (cell t) layout.most_frames
unfolding nodes_before
nodes-before-past t zero = ap (nodes_before (cell t)) (zero-add layout.most_frames)
nodes-before-past t (suc n) =
    ap (nodes_before (cell t)) (suc-add n layout.most_frames)
    ∙ (simp (cell-past-frame t (1 + cell t 0 2 + (n + layout.most_frames)) 2 (omega arith), cell-past-frame t (1 + cell t 0 2 + (n + layout.most_frames)) 3 (omega arith))
    (add-zero _ ∙ nodes-before-past t n))

pub nodes_before_most : (t : List ℕ) (m : ℕ) → nodes_before (cell t) (min m layout.most_frames) ≡ nodes_before (cell t) m
nodes_before_most t m =
    ⊎_elim
    (λ (l : m < layout.most_frames). ap (nodes_before (cell t)) (omega arith))
    (λ (g : layout.most_frames ≤ m). let e : min m layout.most_frames ≡ layout.most_frames = omega arith in
    let d : m ≡ (m - layout.most_frames) + layout.most_frames = omega arith in
    ap (nodes_before (cell t)) e ∙ sym (ap (nodes_before (cell t)) d ∙ nodes-before-past t (m - layout.most_frames)))
    (lt-or-le m layout.most_frames)

-- an entry of a method's table, which has one for each held set
pub table-entry : (f : Frames) (m h : ℕ) → h < min (2 ^ method_frame f m layout.k_at) layout.grades → get_or (method_of f m).table h 0 ≡ method_frame f m (5 + h)
unfolding grade_of
table-entry f m h l = get_or-tabulate _ _ h 0 (omega arith) ∙ simp (lt-ltb h layout.grades (omega arith))

pub table-past : (f : Frames) (m h : ℕ) → min (2 ^ method_frame f m layout.k_at) layout.grades ≤ h → get_or (method_of f m).table h 0 ≡ 0
unfolding grade_of
table-past f m h l = go (lt-or-le h (2 ^ method_frame f m layout.k_at))
  where
    go : (h < 2 ^ method_frame f m layout.k_at) ⊎ (2 ^ method_frame f m layout.k_at ≤ h) → get_or (method_of f m).table h 0 ≡ 0
    go = ⊎_elim
        (λ (i : h < 2 ^ method_frame f m layout.k_at). get_or-tabulate _ _ h 0 i ∙ simp (le-ltb h layout.grades (omega arith)))
        (λ (o : 2 ^ method_frame f m layout.k_at ≤ h). get_or-past-tabulate _ _ h 0 o)
