-- One line more: what the reader's step gives is the line's fault, and where there is none, what the reader carries holds again.
-- Assumes nothing.
use Rattle.std.specs.Prelude.{ℕ, suc, ◌+◌, ◌-◌, ◌≤◌, ◌<◌, ◌≡◌, Bool, true, false, cond, ◌&&◌, ◌⊎◌, eqb, length, Some, None}
use Rattle.std.proofs.Math.Path.{refl, ap, sym, fun_ext}
use Rattle.std.proofs.Common.{◌∙◌, inl, inr, le_refl, add-one, lt-ltb, eq-eqb, ne_eqb, ltb-true}
use mathlib.Core.List.{List, []}
use Rattle.std.proofs.Math.Logic.{⊎_elim}
use native.Mathlib.Omega.{arith}
use Rattle.std.proofs.Math.Decide.{ℕ_discrete}
use Rattle.std.proofs.Math.ListN.{get_or}
use Rattle.frames.specs.Layout.{layout}
use Rattle.lines.specs.Lines.{bytes, frame_length, well_formed}
use Rattle.lines.specs.Laws.Lines.{frame-length-some, frame-length-good}
use Rattle.frames.specs.Frames.{Frame, Frames, frames_of, two, due, placed, methods_in, method_frame, first_method, first_node, all_frames}
use Rattle.frames.specs.Ranges.{in_range}
use Rattle.frames.specs.Links.{linked, children_of, fresh, naming, names_linked, node_linked, node_linked_at, method_linked, nodes_before, node_count, named_by}
use Rattle.frames.specs.Code.Marks.{fresh_in, marked, linked_by, marked_by}
use Rattle.frames.specs.Laws.Marks.{marks-fresh, marks-naming, length-marks}
use Rattle.frames.specs.Laws.Owners.{owner-is, number_is}
use Rattle.frames.specs.Laws.Agree.{agree-due, agree-range, agree-method, agree-fields, agree-method-linked, agree-names}
use Rattle.frames.specs.Laws.Sound.{header-sound, method-sound, total-sound}
use Rattle.frames.specs.Laws.Stored.{stored-holds}
use Rattle.frames.specs.Laws.Steps.{due-header, due-field, due-method, due-node, due-end, placed-short, next-over, next-on}
use Rattle.frames.specs.Laws.Tables.{nodes-before-more}
use Rattle.frames.specs.Tables.{cell}
use Rattle.frames.specs.Reading.{fault_of, fault_at}
use Rattle.frames.specs.Code.Steps.{fault_by, stored, line_fault, next_stand, marks_of, first_frames, Going}
use Rattle.frames.specs.declared.Due.{Due}
use Rattle.frames.specs.declared.Due.TheVariants.{Header, Field, Method, Node, End}
use Rattle.frames.specs.declared.Fault.TheVariants.{Malformed, Misplaced, OutOfRange, Unlinked}
use Rattle.frames.specs.declared.Stand.{Stand}
use Rattle.counting.specs.Counting.{zeros}
use Rattle.counting.specs.Laws.Tests.{lt-or-le}

-- where a frame stands, by what is due
abbrev pub DueIs : Frames → ℕ → Due → Type 0
DueIs f i Header = (i ≡ 0) × (i < first_node f)
DueIs f i Field = (0 < i) × (i < first_node f)
DueIs f i Method = (0 < i) × (first_method f ≤ i) × (i < first_node f)
DueIs f i Node = (0 < i) × (first_node f ≤ i) × (i < all_frames f)
DueIs f i End = (0 < i) × (first_node f ≤ i) × (all_frames f ≤ i)

pub due-which : (f : Frames) (i : ℕ) → DueIs f i (due f i)
due-which f i = go (lt-or-le 0 i) (lt-or-le i (first_method f)) (lt-or-le i (first_node f)) (lt-or-le i (all_frames f))
  where
    go : (0 < i) ⊎ (i ≤ 0) → (i < first_method f) ⊎ (first_method f ≤ i) → (i < first_node f) ⊎ (first_node f ≤ i) → (i < all_frames f) ⊎ (all_frames f ≤ i)
        → DueIs f i (due f i)
    go (inr z) b d e = rw (due-header f i (omega arith)) (omega arith, omega arith)
    go (inl p) (inl b) d e = rw (due-field f i (λ q. omega arith) b) (p, omega arith)
    go (inl p) (inr b) (inl d) e = rw (due-method f i (λ q. omega arith) b d) (p, b, d)
    go (inl p) (inr b) (inr d) (inl e) = rw (due-node f i (λ q. omega arith) b d e) (p, d, e)
    go (inl p) (inr b) (inr d) (inr e) = rw (due-end f i (λ q. omega arith) b d e) (p, d, e)

pub which : (f : Frames) (i : ℕ) (d : Due) → due f i ≡ d → DueIs f i d
which f i d e = rw e at (due-which f i)

-- a test decides what it is asked of
pub cond_same : {A : Type 0} (b : Bool) (x y z : A) → (b ≡ true → x ≡ y) → cond b x z ≡ cond b y z
cond_same true x y z h = h refl
cond_same false x y z h = refl

module _ {text : List ℕ} {ls : List (List ℕ)} {t N : List ℕ} {at line i : ℕ} {s : Stand} (go : Going text ls t N at line i s) where
  -- what the tables say is due is what is due
  pub going-due : due (cell t) i ≡ due (frames_of ls) i
  unfolding first_frames
  going-due =
      ⊎_elim
      (λ (p : 0 < i). agree-due (frames_of ls) (cell t) i (fun_ext (λ b. go.holds 0 b ∙ rw (lt-ltb 0 i p))))
      (λ (z : i ≤ 0). due-header (cell t) i (omega arith) ∙ sym (due-header (frames_of ls) i (omega arith)))
      (lt-or-le 0 i)

  -- what the reader found due
  pub going-is : (d : Due) → d ≡ due (cell t) i → due (frames_of ls) i ≡ d
  going-is d e = sym (e ∙ going-due)

  pub going-open : (d : Due) → d ≡ due (cell t) i → (d ≡ End → ⊥) → due (frames_of ls) i ≡ End → ⊥
  going-open d e f h = f (sym (going-is d e) ∙ h)

  -- the tables have room for the frame
  pub going-low : (due (frames_of ls) i ≡ End → ⊥) → i < layout.most_frames
  going-low h =
      ⊎_elim
      (λ (p : 0 < i).
      let hf = header-sound ls i go.clean p in
      ⊎_elim
      (λ (l : i < all_frames (frames_of ls)). omega arith)
      (λ (g : all_frames (frames_of ls) ≤ i). absurd (h (due-end (frames_of ls) i (λ q. omega arith) (omega arith) (omega arith) g)))
      (lt-or-le i (all_frames (frames_of ls))))
      (λ (z : i ≤ 0). omega arith)
      (lt-or-le 0 i)

  -- before the nodes there is no node
  pub going-none : i < first_node (frames_of ls) → s.number ≡ 0
  going-none h = omega (arith, go.stands)

  -- the node that is due
  pub record AtNode : Type 0 where
    pub mine : s.method < methods_in (frames_of ls)
    pub inside : s.number < node_count (frames_of ls) s.method
    pub few : s.number < layout.most_nodes
    pub passed : first_method (frames_of ls) + s.method ≤ i
    pub here : first_node (frames_of ls) + (nodes_before (frames_of ls) s.method + s.number) ≡ i

  pub at-node : due (frames_of ls) i ≡ Node → AtNode
  at-node e =
      let w = which (frames_of ls) i Node e in
      let total = total-sound ls i go.clean w.0 w.1 in
      let mine : s.method < methods_in (frames_of ls) =
      ⊎_elim
      (λ (l : s.method < methods_in (frames_of ls)). l)
      (λ (g : methods_in (frames_of ls) ≤ s.method).
      let q : s.method ≡ methods_in (frames_of ls) = omega (arith, go.owned) in
      absurd (omega (arith, go.stands, ap (nodes_before (frames_of ls)) q)))
      (lt-or-le s.method (methods_in (frames_of ls))) in
      let fits = method-sound ls i go.clean s.method mine (omega arith) in
      record {
        mine = mine;
        inside = omega (arith, go.within, fits.count_low);
        few = omega (arith, go.within, fits.count_low, fits.count_high);
        passed = omega arith;
        here = omega (arith, go.stands);
      }

  pub going-few : (due (frames_of ls) i ≡ End → ⊥) → s.number ≤ layout.most_nodes
  going-few h = few (due (frames_of ls) i) refl
    where
      few : (d : Due) → due (frames_of ls) i ≡ d → s.number ≤ layout.most_nodes
      few Header e = omega (arith, going-none (which (frames_of ls) i Header e).1)
      few Field e = omega (arith, going-none (which (frames_of ls) i Field e).1)
      few Method e = omega (arith, going-none (which (frames_of ls) i Method e).2)
      few Node e = omega (arith, (at-node e).few)
      few End e = absurd (h e)

  pub going-marks : length N ≡ layout.most_nodes
  going-marks = ap length go.named ∙ length-marks (named_by (frames_of ls) (nodes_before (frames_of ls) s.method) s.number)

  -- the line that is read as frame i, with frames that agree with the tables after it
  module _ (g : Frames) (same : (j : ℕ) → j ≤ i → g j ≡ frames_of ls j) where
    going-children : due (frames_of ls) i ≡ Node
        → fresh_in s.number N (children_of (g i)) ≡ fresh s.number (named_by (frames_of ls) (nodes_before (frames_of ls) s.method) s.number) (children_of (frames_of ls i))
    going-children e =
        let xs = named_by (frames_of ls) (nodes_before (frames_of ls) s.method) s.number in
        ap (λ (r : Frame). fresh_in s.number N (children_of r)) (same i (le_refl i))
        ∙ (ap (λ (l : List ℕ). fresh_in s.number l (children_of (frames_of ls i))) go.named
        ∙ marks-fresh s.number xs (children_of (frames_of ls i)) (omega (arith, (at-node e).few)))

    going-node : due (frames_of ls) i ≡ Node → linked_by g N Node i s.method s.number ≡ linked (frames_of ls) Node i
    unfolding linked_by linked node_linked_at node_linked
    going-node e =
        let f = frames_of ls in
        let n = at-node e in
        let a = i - first_node f in
        let w = which f i Node e in
        let st : nodes_before f s.method + s.number ≡ a = go.stands in
        let o = owner-is f s.method s.number a st n.inside n.mine in
        let u = number_is f s.method s.number a st n.inside n.mine in
        let q : first_node f + a ≡ i = omega arith in
        rw (u, o, q, going-children e)
        (ap (λ (b : Bool). fresh s.number (named_by f (nodes_before f s.method) s.number) (children_of (f i)) && b)
        (ap (λ (r : Frame). names_linked g (method_frame g s.method layout.k_at) r) (same i (le_refl i))
        ∙ (ap (λ (r : Frame). names_linked g (r layout.k_at) (f i)) (agree-method f g i same s.method n.passed)
        ∙ agree-names f g i same w.1 (method_frame f s.method layout.k_at) (f i))))

    going-linked : (d : Due) → due (frames_of ls) i ≡ d → linked_by g N d i s.method s.number ≡ linked (frames_of ls) d i
    unfolding linked_by linked
    going-linked Header e = refl
    going-linked Field e = refl
    going-linked Method e =
        let f = frames_of ls in
        let w = which f i Method e in
        ap (λ (n : ℕ). method_linked g (i - (1 + n))) (agree-fields f g i same)
        ∙ agree-method-linked f g i same (i - first_method f) (omega arith)
    going-linked Node e = going-node e
    going-linked End e = refl

    pub going-tested : (d : Due) → due (frames_of ls) i ≡ d
        → fault_by g N d i s.method s.number ≡ cond (in_range (frames_of ls) d i) (cond (linked (frames_of ls) d i) None (Some Unlinked)) (Some OutOfRange)
    unfolding fault_by
    going-tested d e = rw (agree-range (frames_of ls) g i same d, going-linked d e)

-- the line itself: its frame is put into the tables
module _ {text : List ℕ} {ls : List (List ℕ)} {t N : List ℕ} {at line i : ℕ} {s : Stand} (go : Going text ls t N at line i s)
    (l : List ℕ) (its : l ≡ get_or ls i []) (d : Due) (is : due (frames_of ls) i ≡ d) (more : d ≡ End → ⊥) where
  pub line-holds : well_formed l ≡ true → placed d l ≡ true → (j b : ℕ) → cell (stored t i l) j b ≡ first_frames (suc i) (frames_of ls) j b
  unfolding frames_of well_formed
  line-holds w p =
      stored-holds (frames_of ls) t (bytes l) i (frame_length l) go.wide (going-low go (λ e. more (sym is ∙ e))) go.holds
      (placed-short d l p)
      (frame-length-good l (frame-length-some l 0 (ltb-true 0 (frame_length l) w)))
      (λ b. ap (λ (k : List ℕ). get_or (bytes k) b 0) (sym its))

  pub line_same : well_formed l ≡ true → placed d l ≡ true → (j : ℕ) → j ≤ i → cell (stored t i l) j ≡ frames_of ls j
  unfolding first_frames
  line_same w p j h = fun_ext (λ b. line-holds w p j b ∙ rw (lt-ltb j (suc i) (omega arith)))

  -- the step's fault is the line's
  pub going-fault : line_fault l d t N i s.method s.number ≡ fault_at ls i
  unfolding line_fault fault_at fault_of
  going-fault =
      cond_same (well_formed l) _ _ (Some Malformed)
      (λ w. cond_same (placed d l) _ _ (Some Misplaced) (λ p. going-tested go (cell (stored t i l)) (line_same w p) d is))
      ∙ (ap (λ (k : List ℕ). fault_of (frames_of ls) d i k) its ∙ ap (λ (x : Due). fault_of (frames_of ls) x i (get_or ls i [])) (sym is))

-- where the next node stands, and what its method has named
pub record Standing (f : Frames) (marks : List ℕ) (i : ℕ) (s : Stand) : Type 0 where
  pub stands : nodes_before f s.method + s.number ≡ i - first_node f
  pub within : s.number ≤ node_count f s.method - 1
  pub owned : s.method ≤ methods_in f
  pub named : marks ≡ marks_of (named_by f (nodes_before f s.method) s.number)

-- the marks that the reader goes on with
abbrev pub going_on : Frames → List ℕ → Due → ℕ → Stand → List ℕ
going_on g N d i s = cond (eqb s.number 0) (zeros layout.most_nodes) (marked_by g N d i)

pub none_named : (f : Frames) (a : ℕ) → zeros layout.most_nodes ≡ marks_of (named_by f a 0)
unfolding marks_of named_by
none_named f a = refl

named_more : (f : Frames) (a n : ℕ) → named_by f a (n + 1) ≡ naming (named_by f a n) (children_of (f (first_node f + (a + n))))
unfolding named_by
named_more f a n = rw (add-one n)

module _ {text : List ℕ} {ls : List (List ℕ)} {t N : List ℕ} {at line i : ℕ} {s : Stand} (go : Going text ls t N at line i s)
    (g : Frames) (same : (j : ℕ) → j ≤ i → g j ≡ frames_of ls j) where
  -- a frame before the nodes leaves it as it was
  standing-before : (d : Due) → i < first_node (frames_of ls) → Standing (frames_of ls) (going_on g N d i s) (i + 1) s
  standing-before d h =
      let z = going-none go h in
      record {
        stands = omega (arith, go.stands, z);
        within = go.within;
        owned = go.owned;
        named =
            rw (eq-eqb s.number 0 z)
            (none_named (frames_of ls) (nodes_before (frames_of ls) s.method)
            ∙ ap (λ (n : ℕ). marks_of (named_by (frames_of ls) (nodes_before (frames_of ls) s.method) n)) (sym z));
      }

  -- the last node of its method
  standing-over : due (frames_of ls) i ≡ Node → s.number + 1 ≡ node_count (frames_of ls) s.method → (s' : Stand)
      → s'.method ≡ s.method + 1 → s'.number ≡ 0 → Standing (frames_of ls) (going_on g N Node i s') (i + 1) s'
  standing-over e c s' em en =
      let f = frames_of ls in
      let n = at-node go e in
      let b = nodes-before-more f s.method in
      record {
        stands = omega (arith, n.here, ap (nodes_before f) em, b, en, c);
        within = omega (arith, en);
        owned = omega (arith, em, n.mine);
        named =
            rw (eq-eqb s'.number 0 en)
            (none_named f (nodes_before f s'.method) ∙ ap (λ (k : ℕ). marks_of (named_by f (nodes_before f s'.method) k)) (sym en));
      }

  -- another node of its method
  standing_on : due (frames_of ls) i ≡ Node → (s.number + 1 ≡ node_count (frames_of ls) s.method → ⊥) → (s' : Stand)
      → s'.method ≡ s.method → s'.number ≡ s.number + 1 → Standing (frames_of ls) (going_on g N Node i s') (i + 1) s'
  unfolding marked_by
  standing_on e c s' em en =
      let f = frames_of ls in
      let n = at-node go e in
      let a = nodes_before f s.method in
      let xs = named_by f a s.number in
      let eb : nodes_before f s'.method ≡ a = ap (nodes_before f) em in
      let ec : node_count f s'.method ≡ node_count f s.method = ap (node_count f) em in
      record {
        stands = omega (arith, n.here, eb, en);
        within = ⊎_elim
            (λ (l : s.number + 1 < node_count f s.method). omega (arith, ec, en))
            (λ (h : node_count f s.method ≤ s.number + 1). absurd (c (omega (arith, n.inside))))
            (lt-or-le (s.number + 1) (node_count f s.method));
        owned = omega (arith, em, n.mine);
        named =
            rw (ne_eqb s'.number 0 (λ z. omega (arith, en, z)), eb, en)
            (named-more' f a s.number (g i) N n.here (same i (le_refl i)) go.named);
      }
    where
      named-more' : (f : Frames) (a k : ℕ) (r : Frame) (M : List ℕ) → first_node f + (a + k) ≡ i → r ≡ f i → M ≡ marks_of (named_by f a k)
          → marked M (children_of r) ≡ marks_of (named_by f a (k + 1))
      named-more' f a k r M h er em =
          ap (λ (q : Frame). marked M (children_of q)) er
          ∙ (ap (λ (l : List ℕ). marked l (children_of (f i))) em
          ∙ (marks-naming (named_by f a k) (children_of (f i))
          ∙ ap marks_of (ap (λ (j : ℕ). naming (named_by f a k) (children_of (f j))) (sym h) ∙ sym (named_more f a k))))

  pub standing-next : (d : Due) → due (frames_of ls) i ≡ d → (d ≡ End → ⊥) → (s' : Stand) → s' ≡ next_stand g d s
      → Standing (frames_of ls) (going_on g N d i s') (i + 1) s'
  standing-next Header e m s' q = rw q (standing-before Header (which (frames_of ls) i Header e).1)
  standing-next Field e m s' q = rw q (standing-before Field (which (frames_of ls) i Field e).1)
  standing-next Method e m s' q = rw q (standing-before Method (which (frames_of ls) i Method e).2)
  standing-next Node e m s' q = by (ℕ_discrete (s.number + 1) (node_count g s.method))
    where
      count : node_count g s.method ≡ node_count (frames_of ls) s.method
      count = ap (λ (r : Frame). two r layout.count_at) (agree-method (frames_of ls) g i same s.method (at-node go e).passed)

      by : Dec (s.number + 1 ≡ node_count g s.method) → Standing (frames_of ls) (going_on g N Node i s') (i + 1) s'
      by (yes p) =
          let r = q ∙ sym (next-over g s p) in
          standing-over e (p ∙ count) s' (ap (λ (x : Stand). x.method) r) (ap (λ (x : Stand). x.number) r)
      by (no p) =
          let r = q ∙ sym (next-on g s p) in
          standing_on e (λ h. p (h ∙ sym count)) s' (ap (λ (x : Stand). x.method) r) (ap (λ (x : Stand). x.number) r)
  standing-next End e m s' q = absurd (m refl)
