-- What sound lines show: a prefix of the lines without a fault has frames in range that hang together.
-- Assumes nothing.
use Rattle.std.specs.Prelude.{suc, ℕ, ◌+◌, ◌-◌, ◌≤◌, ◌<◌, ◌≡◌, refl, Bool, true, false, cond, ◌&&◌, List, [], ◌⊎◌, leb, eqb, get_or, Option, Some, None}
use Rattle.std.proofs.Common.{ap, sym, ◌∙◌, inl, inr, ⊎_elim}
use native.Mathlib.Omega.{arith}
use borrow.Author.Tests.{ltb-true, leb-true, eqb-true}
use Rattle.frames.specs.Layout.{layout}
use Rattle.lines.specs.Lines.{frame_length, well_formed}
use Rattle.frames.specs.Frames.{Frame, Frames, frames_of, two, due, placed, methods_in, fields_in, nodes_in, method_frame, first_method, first_node, all_frames}
use Rattle.frames.specs.Ranges.{in_range, header_in_range, method_in_range, grade_in_range}
use Rattle.frames.specs.Links.{linked, method_linked, nodes_before}
use Rattle.frames.specs.Laws.Links.{method-last}
use Rattle.frames.specs.Reading.{fault_of, fault_at}
use Rattle.frames.specs.Laws.Steps.{due-header, due-method, due-end, placed-long}
use Rattle.frames.specs.declared.Due.{Due}
use Rattle.frames.specs.declared.Due.TheVariants.{Header, Method, End}
use Rattle.frames.specs.declared.Fault.{Fault}
use Rattle.frames.specs.declared.Fault.TheVariants.{Malformed, Misplaced, OutOfRange, Unlinked}
use Rattle.counting.specs.Counting.{every}
use Rattle.counting.specs.Laws.Tests.{and_left, and_right, lt-or-le}

-- a sound line passes all four tests
pub record Passes (f : Frames) (d : Due) (i : ℕ) (l : List ℕ) : Type 0 where
  pub formed : well_formed l ≡ true
  pub is_placed : placed d l ≡ true
  pub ranged : in_range f d i ≡ true
  pub is_linked : linked f d i ≡ true

pub sound-passes : (f : Frames) (d : Due) (i : ℕ) (l : List ℕ) → fault_of f d i l ≡ None → Passes f d i l
unfolding fault_of
sound-passes f d i l e =
    let h = go (well_formed l) (placed d l) (in_range f d i) (linked f d i) e in
    record { formed = h.0; is_placed = h.1; ranged = h.2; is_linked = h.3 }
  where
    go : (a b g h : Bool) → ◌≡◌ {A = Option Fault} (cond a (cond b (cond g (cond h None (Some Unlinked)) (Some OutOfRange)) (Some Misplaced)) (Some Malformed)) None
        → (a ≡ true) × (b ≡ true) × (g ≡ true) × (h ≡ true)
    go true true true true p = (refl, refl, refl, refl)
    go true true true false p = (cc, cc, cc, cc)
    go true true false h p = (cc, cc, cc, cc)
    go true false g h p = (cc, cc, cc, cc)
    go false b g h p = (cc, cc, cc, cc)

-- the header's numbers
pub record HeaderFits (f : Frames) : Type 0 where
  pub methods_low : 1 ≤ methods_in f
  pub methods_high : methods_in f ≤ layout.most_methods
  pub fields_high : fields_in f ≤ layout.most_fields
  pub nodes_low : 1 ≤ nodes_in f
  pub nodes_high : nodes_in f ≤ layout.most_nodes

header-fits : (f : Frames) → header_in_range (f 0) ≡ true → HeaderFits f
unfolding header_in_range
header-fits f e =
    let a = and_left (leb 1 (f 0 layout.methods_at) && leb (f 0 layout.methods_at) layout.most_methods) (leb (f 0 layout.fields_at) layout.most_fields && (leb 1 (two (f 0) layout.nodes_at) && leb (two (f 0) layout.nodes_at) layout.most_nodes)) e in
    let b = and_right (leb 1 (f 0 layout.methods_at) && leb (f 0 layout.methods_at) layout.most_methods) (leb (f 0 layout.fields_at) layout.most_fields && (leb 1 (two (f 0) layout.nodes_at) && leb (two (f 0) layout.nodes_at) layout.most_nodes)) e in
    let d = and_right (leb (f 0 layout.fields_at) layout.most_fields) (leb 1 (two (f 0) layout.nodes_at) && leb (two (f 0) layout.nodes_at) layout.most_nodes) b in
    record {
      methods_low = leb-true 1 (f 0 layout.methods_at) (and_left (leb 1 (f 0 layout.methods_at)) (leb (f 0 layout.methods_at) layout.most_methods) a);
      methods_high = leb-true (f 0 layout.methods_at) layout.most_methods (and_right (leb 1 (f 0 layout.methods_at)) (leb (f 0 layout.methods_at) layout.most_methods) a);
      fields_high = leb-true (f 0 layout.fields_at) layout.most_fields (and_left (leb (f 0 layout.fields_at) layout.most_fields) (leb 1 (two (f 0) layout.nodes_at) && leb (two (f 0) layout.nodes_at) layout.most_nodes) b);
      nodes_low = leb-true 1 (two (f 0) layout.nodes_at) (and_left (leb 1 (two (f 0) layout.nodes_at)) (leb (two (f 0) layout.nodes_at) layout.most_nodes) d);
      nodes_high = leb-true (two (f 0) layout.nodes_at) layout.most_nodes (and_right (leb 1 (two (f 0) layout.nodes_at)) (leb (two (f 0) layout.nodes_at) layout.most_nodes) d);
    }

-- a method's numbers
pub record MethodFits (main : Bool) (r : Frame) : Type 0 where
  pub names : r layout.k_at ≤ cond main 0 layout.most_names
  pub count_low : 1 ≤ two r layout.count_at
  pub count_high : two r layout.count_at ≤ layout.most_nodes
  pub declared : r layout.declared_at ≤ 1
  pub graded : every layout.grades (grade_in_range r) ≡ true

pub method-fits : (main : Bool) (r : Frame) → method_in_range main r ≡ true → MethodFits main r
unfolding method_in_range
method-fits main r e =
    let k = leb (r layout.k_at) (cond main 0 layout.most_names) in
    let n = leb 1 (two r layout.count_at) && leb (two r layout.count_at) layout.most_nodes in
    let g = every layout.grades (grade_in_range r) in
    let b = and_right k (n && (leb (r layout.declared_at) 1 && g)) e in
    let h = and_right n (leb (r layout.declared_at) 1 && g) b in
    record {
      names = leb-true (r layout.k_at) (cond main 0 layout.most_names) (and_left k (n && (leb (r layout.declared_at) 1 && g)) e);
      count_low = leb-true 1 (two r layout.count_at) (and_left (leb 1 (two r layout.count_at)) (leb (two r layout.count_at) layout.most_nodes) (and_left n (leb (r layout.declared_at) 1 && g) b));
      count_high = leb-true (two r layout.count_at) layout.most_nodes (and_right (leb 1 (two r layout.count_at)) (leb (two r layout.count_at) layout.most_nodes) (and_left n (leb (r layout.declared_at) 1 && g) b));
      declared = leb-true (r layout.declared_at) 1 (and_left (leb (r layout.declared_at) 1) g h);
      graded = and_right (leb (r layout.declared_at) 1) g h;
    }

-- one sound line more
pub sound_more : (ls : List (List ℕ)) (i : ℕ) → ((j : ℕ) → j < i → fault_at ls j ≡ None) → fault_at ls i ≡ None → (j : ℕ) → j < suc i → fault_at ls j ≡ None
sound_more ls i clean e j h =
    ⊎_elim
    (λ (l : j < i). clean j l)
    (λ (g : i ≤ j). let q : j ≡ i = omega arith in ap (fault_at ls) q ∙ e)
    (lt-or-le j i)

-- a fault is none, or it is one
pub sound-or : (x : Option Fault) → (x ≡ None) ⊎ ((y : Fault) × (x ≡ Some y))
sound-or None = inl refl
sound-or (Some y) = inr (y, refl)

-- not both
pub never-sound : {x : Option Fault} (y : Fault) → x ≡ Some y → x ≡ None → ⊥
never-sound y e p = let z : ◌≡◌ {A = ℕ} 0 1 = cc in omega arith

-- a prefix of i sound lines
module _ (ls : List (List ℕ)) (i : ℕ) (clean : (j : ℕ) → j < i → fault_at ls j ≡ None) where
  pub passes_at : (j : ℕ) (d : Due) → j < i → due (frames_of ls) j ≡ d → Passes (frames_of ls) d j (get_or ls j [])
  unfolding fault_at
  passes_at j d h e =
      sound-passes (frames_of ls) d j (get_or ls j []) (ap (λ (x : Due). fault_of (frames_of ls) x j (get_or ls j [])) (sym e) ∙ clean j h)

  -- no line is sound where the end is due
  pub never-end : (j : ℕ) → j < i → due (frames_of ls) j ≡ End → ⊥
  unfolding well_formed
  never-end j h e =
      let p = passes_at j End h e in
      omega (arith, ltb-true 0 (frame_length (get_or ls j [])) p.formed, placed-long End (get_or ls j []) p.is_placed)

  pub header-sound : 0 < i → HeaderFits (frames_of ls)
  unfolding in_range
  header-sound h = header-fits (frames_of ls) (passes_at 0 Header h (due-header (frames_of ls) 0 refl)).ranged

  pub at-method : (m : ℕ) → m < methods_in (frames_of ls) → due (frames_of ls) (first_method (frames_of ls) + m) ≡ Method
  at-method m h = due-method (frames_of ls) (first_method (frames_of ls) + m) (λ e. omega arith) (omega arith) (omega arith)

  pub method-sound : (m : ℕ) → m < methods_in (frames_of ls) → first_method (frames_of ls) + m < i
      → MethodFits (eqb (first_method (frames_of ls) + m) (first_method (frames_of ls))) (method_frame (frames_of ls) m)
  unfolding in_range
  method-sound m h g = method-fits _ (method_frame (frames_of ls) m) (passes_at (first_method (frames_of ls) + m) Method g (at-method m h)).ranged

  -- the counts total the header's
  pub total-sound : 0 < i → first_node (frames_of ls) ≤ i → nodes_before (frames_of ls) (methods_in (frames_of ls)) ≡ nodes_in (frames_of ls)
  unfolding linked
  total-sound z h =
      let f = frames_of ls in
      let hf = header-sound z in
      let m = methods_in f - 1 in
      let p = (passes_at (first_method f + m) Method (omega arith) (at-method m (omega arith))).is_linked in
      let e : (first_method f + m) - first_method f ≡ m = omega arith in
      eqb-true _ _ (sym (method-last f m (omega arith)) ∙ (ap (method_linked f) (sym e) ∙ p))

  -- there are no more of them than the header says
  pub not-over : 0 < i → i ≤ all_frames (frames_of ls)
  not-over z = ⊎_elim
      (λ (l : i - 1 < all_frames (frames_of ls)). omega arith)
      (λ (g : all_frames (frames_of ls) ≤ i - 1). absurd (go g (lt-or-le 0 (i - 1))))
      (lt-or-le (i - 1) (all_frames (frames_of ls)))
    where
      go : all_frames (frames_of ls) ≤ i - 1 → (0 < i - 1) ⊎ (i - 1 ≤ 0) → ⊥
      go g (inl a) = never-end (i - 1) (omega arith) (due-end (frames_of ls) (i - 1) (λ e. omega arith) (omega arith) (omega arith) g)
      go g (inr b) = omega arith
