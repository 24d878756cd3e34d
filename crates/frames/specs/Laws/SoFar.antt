-- "line by line": a line's fault depends on the lines up to it alone, though the definition is handed them all.
-- Assumes nothing.
use Prim.Native.Nat.{ℕ, zero, suc, ◌+◌, ◌-◌, ◌≤◌, ◌<◌, zero-le}
use Rattle.std.specs.Prelude.{◌≡◌, Bool, ◌&&◌, leb, get_or}
use Rattle.std.proofs.Math.Path.{refl, ap}
use Rattle.std.proofs.Common.{◌∙◌, ⊎_elim, arith, le_refl, le-leb}
use Rattle.std.proofs.Math.Bool.{cond}
use mathlib.Core.List.{List, []}
use Rattle.std.proofs.lemmas.Bool.{lt-leb}
use Rattle.frames.specs.Layout.{layout}
use Rattle.lines.specs.Lines.{bytes}
use Rattle.frames.specs.Frames.{Frame, Frames, frames_of, due, methods_in, method_frame, first_method, first_node}
use Rattle.frames.specs.Links.{linked, method_linked, node_linked, node_linked_at, children_of, naming, named_by, fresh, names_linked, nodes_before, owner_up_to, owner, number_in}
use Rattle.frames.specs.Reading.{fault_of, fault_at}
use Rattle.frames.specs.Laws.Agree.{agree-due, agree-range, agree-fields, agree-methods, agree-method, agree-before, agree-method-linked, agree-names}
use Rattle.frames.specs.Laws.Going.{which}
use Rattle.frames.specs.declared.Due.{Due}
use Rattle.frames.specs.declared.Due.TheVariants.{Header, Field, Method, Node, End}
use Rattle.counting.specs.Laws.Tests.{lt-or-le}

-- a node's method is one of those looked through, and starts no later than the node
owner-most : (f : Frames) (m a : ℕ) → owner_up_to f m a ≤ m
unfolding owner_up_to
owner-most f zero a = zero-le
owner-most f (suc m) a =
    ⊎_elim
    (λ (l : a < nodes_before f (suc m)). rw (lt-leb (nodes_before f (suc m)) a l) (omega (arith, owner-most f m a)))
    (λ (g : nodes_before f (suc m) ≤ a). rw (le-leb (nodes_before f (suc m)) a g) (le_refl (suc m)))
    (lt-or-le a (nodes_before f (suc m)))

owner-starts : (f : Frames) (m a : ℕ) → nodes_before f (owner_up_to f m a) ≤ a
unfolding owner_up_to nodes_before
owner-starts f zero a = zero-le
owner-starts f (suc m) a =
    ⊎_elim
    (λ (l : a < nodes_before f (suc m)). rw (lt-leb (nodes_before f (suc m)) a l) (owner-starts f m a))
    (λ (g : nodes_before f (suc m) ≤ a). rw (le-leb (nodes_before f (suc m)) a g) g)
    (lt-or-le a (nodes_before f (suc m)))

module _ (f g : Frames) (i : ℕ) (same : (j : ℕ) → j ≤ i → g j ≡ f j) where
  agree-owner : (m a : ℕ) → first_method f + m ≤ suc i → owner_up_to g m a ≡ owner_up_to f m a
  unfolding owner_up_to
  agree-owner zero a h = refl
  agree-owner (suc m) a h =
      ap (λ (n : ℕ). cond (leb n a) (suc m) (owner_up_to g m a)) (agree-before f g i same (suc m) h)
      ∙ ap (λ (n : ℕ). cond (leb (nodes_before f (suc m)) a) (suc m) n) (agree-owner m a (omega arith))

  agree-first : first_node g ≡ first_node f
  agree-first = omega (arith, agree-fields f g i same, agree-methods f g i same)

  agree-named : (b n : ℕ) → first_node f + (b + n) ≤ i → named_by g b n ≡ named_by f b n
  unfolding named_by
  agree-named b zero h = refl
  agree-named b (suc n) h =
      let e : first_node g + (b + n) ≡ first_node f + (b + n) = omega (arith, agree-first) in
      ap (λ (xs : List ℕ). naming xs (children_of (g (first_node g + (b + n))))) (agree-named b n (omega arith))
      ∙ ap (λ (r : Frame). naming (named_by f b n) (children_of r)) (ap g e ∙ same (first_node f + (b + n)) (omega arith))

  agree-node : (a : ℕ) → first_node f + a ≡ i → node_linked_at g a ≡ node_linked_at f a
  unfolding node_linked_at node_linked
  agree-node a h =
      let o = owner f a in
      let low = owner-most f (methods_in f - 1) a in
      let start = owner-starts f (methods_in f - 1) a in
      let n = number_in f a in
      let r = f (first_node f + a) in
      let eo : owner g a ≡ o =
      ap (λ (m : ℕ). owner_up_to g (m - 1) a) (agree-methods f g i same) ∙ agree-owner (methods_in f - 1) a (omega arith) in
      let eb : nodes_before g (owner g a) ≡ nodes_before f o = ap (nodes_before g) eo ∙ agree-before f g i same o (omega arith) in
      let en : number_in g a ≡ n = ap (λ (b : ℕ). a - b) eb in
      let er : g (first_node g + a) ≡ r = ap (λ (b : ℕ). g (b + a)) agree-first ∙ same (first_node f + a) (omega arith) in
      let ek : method_frame g (owner g a) layout.k_at ≡ method_frame f o layout.k_at =
      ap (λ (m : ℕ). method_frame g m layout.k_at) eo ∙ ap (λ (q : Frame). q layout.k_at) (agree-method f g i same o (omega arith)) in
      let ex : named_by g (nodes_before g (owner g a)) (number_in g a) ≡ named_by f (nodes_before f o) n =
      ap (λ (b : ℕ). named_by g b (number_in g a)) eb
      ∙ (ap (named_by g (nodes_before f o)) en ∙ agree-named (nodes_before f o) n (omega arith)) in
      ap (λ (q : Frame). fresh (number_in g a) (named_by g (nodes_before g (owner g a)) (number_in g a)) (children_of q) && names_linked g (method_frame g (owner g a) layout.k_at) q) er
      ∙ (ap (λ (k : ℕ). fresh (number_in g a) (named_by g (nodes_before g (owner g a)) (number_in g a)) (children_of r) && names_linked g k r) ek
      ∙ (ap (λ (xs : List ℕ). fresh (number_in g a) xs (children_of r) && names_linked g (method_frame f o layout.k_at) r) ex
      ∙ (ap (λ (m : ℕ). fresh m (named_by f (nodes_before f o) n) (children_of r) && names_linked g (method_frame f o layout.k_at) r) en
      ∙ ap (λ (b : Bool). fresh n (named_by f (nodes_before f o) n) (children_of r) && b) (agree-names f g i same (omega arith) (method_frame f o layout.k_at) r))))

  agree-linked : (d : Due) → due f i ≡ d → linked g d i ≡ linked f d i
  unfolding linked
  agree-linked Header e = refl
  agree-linked Field e = refl
  agree-linked Method e =
      let w = which f i Method e in
      ap (λ (n : ℕ). method_linked g (i - (1 + n))) (agree-fields f g i same)
      ∙ agree-method-linked f g i same (i - first_method f) (omega arith)
  agree-linked Node e =
      let w = which f i Node e in
      ap (λ (n : ℕ). node_linked_at g (i - n)) agree-first ∙ agree-node (i - first_node f) (omega arith)
  agree-linked End e = refl

-- lines that are the same up to line i have the same fault there
pub so_far : (ls ms : List (List ℕ)) (i : ℕ) → ((j : ℕ) → j ≤ i → get_or ms j [] ≡ get_or ls j [])
    → fault_at ms i ≡ fault_at ls i
unfolding fault_at fault_of frames_of
so_far ls ms i h =
    let f = frames_of ls in
    let g = frames_of ms in
    let same : (j : ℕ) → j ≤ i → g j ≡ f j = λ j l. ap (λ (k : List ℕ). λ (b : ℕ). get_or (bytes k) b 0) (h j l) in
    let d = due f i in
    ap (λ (k : List ℕ). fault_of g (due g i) i k) (h i (le_refl i))
    ∙ (ap (λ (x : Due). fault_of g x i (get_or ls i [])) (agree-due f g i (same 0 zero-le))
    ∙ rw (agree-range f g i same d, agree-linked f g i same d refl))
