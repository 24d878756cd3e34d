-- The engine has room for every text that reads.
-- Assumes nothing.
use Rattle.std.specs.Prelude.{ℕ, zero, suc, ◌+◌, ◌-◌, ◌≤◌, ◌<◌, Bool, not, ◌||◌, List, ◌≡◌, length}
use Rattle.std.proofs.Math.Bool.{true, false, ◌&&◌}
use Rattle.std.proofs.Math.Path.{refl, ap, ap₂, subst}
use Rattle.std.proofs.Common.{sym, ◌∙◌, add-one, arith}
use Rattle.std.proofs.Math.Decide.{dec_lt}
use borrow.Author.Tests.{lt-ltb, le-leb, eqb-true}
use Rattle.std.proofs.Math.Dec.{T, ltb, eqb}
use Rattle.std.proofs.Math.ListN.{get_or}
use Rattle.solver.specs.Nodes.{node_in}
use Rattle.grades.specs.HeldSets.{mask_names}
use Rattle.frames.specs.Program.{Node, Method, method_at, node_at, plain_node}
use Rattle.frames.specs.Layout.{layout}
use Rattle.frames.specs.Frames.{methods_in}
use Rattle.frames.specs.Links.{node_count, nodes_before}
use Rattle.frames.specs.Tables.{cell, method_of, node_of, first_frame, program_of}
use Rattle.frames.specs.Laws.Tables.{nodes-length}
use Rattle.frames.specs.Laws.Program.{method-is, fields-length, methods-length}
use Rattle.frames.specs.WellFormed.{WellFormed, name_at}
use Rattle.frames.specs.Laws.WellFormed.{total-same}
use Rattle.counting.specs.Laws.Counting.{every_of}
use Rattle.solver.specs.Code.Engine.{first_node_frame, last_frame}
use Rattle.solver.specs.Laws.Flat.{first_more}
use Rattle.solver.specs.Room.{names_fit, lock_fits, locks_fit, has_room}
use Rattle.counting.specs.Counting.{total}
use Rattle.counting.specs.Laws.Lists.{get_or-tabulate}

-- a frame among the nodes of the first M methods is some method's node
record Stands (t : List ℕ) (M j : ℕ) : Type 0 where
  method : ℕ
  node : ℕ
  inside : method < M
  counted : node < node_count (cell t) method
  frame : j ≡ first_frame (cell t) method + node

stands : (t : List ℕ) (M j : ℕ) → first_node_frame t ≤ j → j < first_frame (cell t) M → Stands t M j
stands t zero j from to = absurd (omega arith)
stands t (suc m) j from to = go (dec_lt j (first_frame (cell t) m)) (stands t m j from)
  where
    go : Dec (j < first_frame (cell t) m) → (j < first_frame (cell t) m → Stands t m j) → Stands t (suc m) j
    go (yes l) lower =
        let s = lower l in
        record { method = s.method; node = s.node; inside = omega (arith, s.inside); counted = s.counted; frame = s.frame }
    go (no l) lower =
        record {
          method = m;
          node = j - first_frame (cell t) m;
          inside = omega arith;
          counted = omega (arith, first_more t m, ap (first_frame (cell t)) (add-one m));
          frame = omega arith;
        }

module _ (t : List ℕ) (w : WellFormed (program_of (cell t))) where
  own-method : (m : ℕ) → m < methods_in (cell t) → method_at (program_of (cell t)) m ≡ method_of (cell t) m
  own-method m h = method-is (cell t) m h

  within : (m : ℕ) → m < methods_in (cell t) → m < length (program_of (cell t)).methods
  within m h = omega (arith, methods-length (cell t))

  few-names : (m : ℕ) → m < methods_in (cell t) → (method_of (cell t) m).k ≤ layout.most_names
  few-names m h = subst (λ (x : Method). x.k ≤ layout.most_names) (own-method m h) (w.methods m (within m h)).names

  few-frames : last_frame t ≤ layout.most_frames
  few-frames =
      let nodes : total (methods_in (cell t)) (λ m. length (method_at (program_of (cell t)) m).nodes) ≡ nodes_before (cell t) (methods_in (cell t))
      = total-same (cell t) (methods_in (cell t)) _ (λ m l. ap (λ (x : Method). length x.nodes) (own-method m l) ∙ nodes-length (cell t) m) in
      let all = ap (λ (n : ℕ). total n (λ m. length (method_at (program_of (cell t)) m).nodes)) (methods-length (cell t)) in
      omega (arith, w.few_nodes, w.few_methods, w.few_fields, methods-length (cell t), fields-length (cell t))

  own-node : (m n : ℕ) → m < methods_in (cell t) → n < node_count (cell t) m → node_at (method_at (program_of (cell t)) m) n ≡ node_in t (first_frame (cell t) m + n)
  unfolding node_at
  own-node m n h l =
      ap (λ (x : Method). node_at x n) (own-method m h)
      ∙ get_or-tabulate (node_count (cell t) m) (λ i. node_of (cell t (first_frame (cell t) m + i))) n plain_node l

  -- a synchronised node's lock is one of its method's names, of which there are at most four
  lock-small : (m n : ℕ) → m < methods_in (cell t) → n < node_count (cell t) m → (node_in t (first_frame (cell t) m + n)).op ≡ 6
      → get_or (node_in t (first_frame (cell t) m + n)).names 0 0 < mask_names
  lock-small m n h l six =
      let same = own-node m n h l in
      let counted : n < length (method_at (program_of (cell t)) m).nodes = omega (arith, ap (λ (x : Method). length x.nodes) (own-method m h), nodes-length (cell t) m) in
      let fits = w.nodes m n (within m h) counted in
      let small = fits.synchronised (ap (λ (x : Node). x.op) same ∙ six) in
      omega (arith, (w.methods m (within m h)).names, small, ap (λ (x : Node). name_at x 0) same)

  lock-fits : (j : ℕ) → first_node_frame t ≤ j → j < last_frame t → T (lock_fits t j)
  unfolding lock_fits
  lock-fits j from to = go (eqb (node_in t j).op 6) refl
    where
      go : (b : Bool) → eqb (node_in t j).op 6 ≡ b → T (not b || ltb (get_or (node_in t j).names 0 0) mask_names)
      go false e = tt
      go true e =
          let s = stands t (methods_in (cell t)) j from to in
          let six : (node_in t (first_frame (cell t) s.method + s.node)).op ≡ 6
          = ap (λ (i : ℕ). (node_in t i).op) (sym s.frame) ∙ eqb-true (node_in t j).op 6 e in
          let small = lock-small s.method s.node s.inside s.counted six in
          let here : get_or (node_in t j).names 0 0 < mask_names
          = subst (λ (i : ℕ). get_or (node_in t i).names 0 0 < mask_names) (sym s.frame) small in
          subst T (sym (lt-ltb (get_or (node_in t j).names 0 0) mask_names here)) tt

  truth : (b : Bool) → T b → b ≡ true
  truth true x = refl
  truth false x = absurd x

  pub well-formed-room : has_room t ≡ true
  unfolding has_room names_fit locks_fit
  well-formed-room =
      ap₂ ◌&&◌ (le-leb (methods_in (cell t)) layout.most_methods (omega (arith, w.few_methods, methods-length (cell t))))
      (ap₂ ◌&&◌ (le-leb (last_frame t) layout.most_frames few-frames)
      (ap₂ ◌&&◌
      (truth (names_fit t (methods_in (cell t))) (every_of (methods_in (cell t)) _ (λ m l. subst T (sym (le-leb (method_of (cell t) m).k layout.most_names (few-names m l))) tt)))
      (truth (locks_fit t (first_node_frame t) (last_frame t - first_node_frame t))
      (every_of (last_frame t - first_node_frame t) _ (λ n l. lock-fits (first_node_frame t + n) (omega arith) (omega arith))))))
