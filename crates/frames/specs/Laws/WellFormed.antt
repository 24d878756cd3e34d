-- A program read is well formed.
-- Assumes nothing.
use Prim.Native.Nat.{ℕ, zero, suc, ◌+◌, ◌-◌, ◌^◌, ◌≤◌, ◌<◌, zero-le}
use Rattle.std.specs.Prelude.{◌≡◌, Bool, not, ◌&&◌, ◌||◌, List, [], ◌∷◌, ◌⊎◌, leb, ltb, length, get_or}
use Rattle.std.proofs.Math.Path.{refl, ap, subst⁻¹}
use Rattle.std.proofs.Common.{sym, ◌∙◌, inl, inr, not-suc-le-zero, le_refl}
use Rattle.std.proofs.Math.Bool.{true, false, cond}
use Rattle.std.proofs.Math.Logic.{⊎_elim}
use native.Mathlib.Omega.{arith}
use Rattle.std.proofs.Math.Dec.{eqb}
use borrow.Author.Tests.{lt-ltb, le-ltb, eq-eqb, ltb-true, leb-true, eqb-true, not-true}
use Rattle.frames.specs.Layout.{layout}
use Rattle.frames.specs.Program.{Field, Node, Method, method_at, node_at}
use Rattle.frames.specs.Frames.{Frame, Frames, frames_of, two, methods_in, fields_in, nodes_in, field_frame, method_frame, first_method, first_node, all_frames}
use Rattle.frames.specs.Ranges.{in_range, field_in_range, grades_listed, grade_in_range, node_in_range, name_in_range, listed_or_zero, children_listed, names_listed, uses_field, uses_method}
use Rattle.frames.specs.Links.{linked, node_linked_at, node_linked, children_of, naming, named_by, fresh, guard_uses, name_or_none, names_linked, access_linked, call_linked, call_name_linked, fork_linked, nodes_before, node_count}
use Rattle.frames.specs.Laws.Links.{names-read, names-write, names-synchronised, names-call, names-fork}
use Rattle.frames.specs.Laws.Tables.{nodes-length, nodes-before-more}
use Rattle.frames.specs.Laws.Program.{field_is, method-is, node-is, fields-length, methods-length, name-is, name-past}
use Rattle.frames.specs.Laws.Owners.{owner-is, number_is, before-grows}
use Rattle.frames.specs.Tables.{field_of, node_of, method_of, grade_of, first_frame, program_of}
use Rattle.frames.specs.Laws.Steps.{due-field, due-node}
use Rattle.frames.specs.Laws.Sound as Sound
use Rattle.frames.specs.Laws.Going.{which}
use Rattle.frames.specs.FirstFault.{Faultless}
use Rattle.frames.specs.WellFormed.{children_in, named_in, Once, Name, FieldFits, MethodFits, NodeFits, WellFormed}
use Rattle.counting.specs.Counting.{total, tabulate, every, member}
use Rattle.counting.specs.Laws.Tests.{and_left, and_right, lt-or-le}
use Rattle.counting.specs.Laws.Lists.{length-tabulate, get_or-tabulate, get_or-past-tabulate}
use Rattle.frames.specs.declared.Due.TheVariants as Due

-- what all of a range passes, each passes
every-at : (n : ℕ) (p : ℕ → Bool) → every n p ≡ true → (i : ℕ) → i < n → p i ≡ true
unfolding every
every-at zero p e i h = absurd (not-suc-le-zero h)
every-at (suc n) p e i h =
    ⊎_elim
    (λ (l : i < n). every-at n p (and_left (every n p) (p n) e) i l)
    (λ (g : n ≤ i). let q : i ≡ n = omega arith in ap p q ∙ and_right (every n p) (p n) e)
    (lt-or-le i n)

or_cases : (a b : Bool) → (a || b) ≡ true → (a ≡ true) ⊎ (b ≡ true)
or_cases true b e = inl refl
or_cases false b e = inr e

or_right : (a b : Bool) → (a || b) ≡ true → a ≡ false → b ≡ true
or_right true b e h = cc
or_right false b e h = e

-- ---- a method's grades

grade-small : (r : Frame) (h : ℕ) → grade_in_range r h ≡ true → r (layout.grades_at + h) ≤ layout.most_grade
unfolding grade_in_range
grade-small r h e = go (ltb h (grades_listed r)) e
  where
    go : (b : Bool) → cond b (leb (r (layout.grades_at + h)) layout.most_grade) (eqb (r (layout.grades_at + h)) 0) ≡ true → r (layout.grades_at + h) ≤ layout.most_grade
    go true p = leb-true (r (layout.grades_at + h)) layout.most_grade p
    go false p = omega (arith, eqb-true (r (layout.grades_at + h)) 0 p)

grade-none : (r : Frame) (h : ℕ) → grade_in_range r h ≡ true → eqb (r layout.declared_at) 1 ≡ false → r (layout.grades_at + h) ≡ 0
unfolding grade_in_range grades_listed
grade-none r h e d = eqb-true (r (layout.grades_at + h)) 0 (go e)
  where
    go : cond (ltb h (cond (eqb (r layout.declared_at) 1) (2 ^ r layout.k_at) 0)) (leb (r (layout.grades_at + h)) layout.most_grade) (eqb (r (layout.grades_at + h)) 0) ≡ true → eqb (r (layout.grades_at + h)) 0 ≡ true
    go p = rw (d, le-ltb h 0 zero-le) at p

table-small : (r : Frame) → every layout.grades (grade_in_range r) ≡ true → (n h : ℕ) → get_or (tabulate n (grade_of r)) h 0 ≤ layout.most_grade
unfolding grade_of
table-small r e n h =
    ⊎_elim
    (λ (l : h < n). rw (get_or-tabulate n (grade_of r) h 0 l)
    (⊎_elim
    (λ (k : h < layout.grades). rw (lt-ltb h layout.grades k) (grade-small r h (every-at layout.grades (grade_in_range r) e h k)))
    (λ (g : layout.grades ≤ h). rw (le-ltb h layout.grades g) zero-le)
    (lt-or-le h layout.grades)))
    (λ (g : n ≤ h). rw (get_or-past-tabulate n (grade_of r) h 0 g) zero-le)
    (lt-or-le h n)

table_none : (r : Frame) → every layout.grades (grade_in_range r) ≡ true → eqb (r layout.declared_at) 1 ≡ false → (n h : ℕ) → get_or (tabulate n (grade_of r)) h 0 ≡ 0
unfolding grade_of
table_none r e d n h =
    ⊎_elim
    (λ (l : h < n). rw (get_or-tabulate n (grade_of r) h 0 l)
    (⊎_elim
    (λ (k : h < layout.grades). rw (lt-ltb h layout.grades k) (grade-none r h (every-at layout.grades (grade_in_range r) e h k) d))
    (λ (g : layout.grades ≤ h). rw (le-ltb h layout.grades g))
    (lt-or-le h layout.grades)))
    (λ (g : n ≤ h). get_or-past-tabulate n (grade_of r) h 0 g)
    (lt-or-le h n)

method-well : (f : Frames) (m : ℕ) → Sound.MethodFits (eqb (first_method f + m) (first_method f)) (method_frame f m) → MethodFits m (method_of f m)
method-well f m h =
    record {
      names = few (eqb (first_method f + m) (first_method f)) h.names;
      main = λ e. let q : first_method f + m ≡ first_method f = omega arith in none (eqb (first_method f + m) (first_method f)) (eq-eqb _ _ q) h.names;
      some_nodes = rw (length-tabulate (node_count f m) (λ n. node_of (f (first_frame f m + n)))) h.count_low;
      few_nodes = rw (length-tabulate (node_count f m) (λ n. node_of (f (first_frame f m + n)))) h.count_high;
      entries = length-tabulate _ _;
      grades = λ g. table-small (method_frame f m) h.graded (2 ^ method_frame f m layout.k_at) g;
      undeclared = λ d g. table_none (method_frame f m) h.graded d (2 ^ method_frame f m layout.k_at) g;
    }
  where
    few : (b : Bool) → method_frame f m layout.k_at ≤ cond b 0 layout.most_names → method_frame f m layout.k_at ≤ layout.most_names
    few true p = omega arith
    few false p = p

    none : (b : Bool) → b ≡ true → method_frame f m layout.k_at ≤ cond b 0 layout.most_names → method_frame f m layout.k_at ≡ 0
    none true e p = omega arith
    none false e p = cc

field-well : (r : Frame) → field_in_range r ≡ true → FieldFits (field_of r)
unfolding field_in_range
field-well r e =
    record {
      width = leb-true (r layout.width_at) layout.most_width (and_left (leb (r layout.width_at) layout.most_width) (leb (r layout.guard_at) layout.most_guard) e);
      guard = leb-true (r layout.guard_at) layout.most_guard (and_right (leb (r layout.width_at) layout.most_width) (leb (r layout.guard_at) layout.most_guard) e);
    }

-- ---- a node's own ranges

record NodeIn (r : Frame) : Type 0 where
  op : r layout.op_at ≤ 9
  no_x : children_listed (r layout.op_at) ≤ 0 → two r layout.XAt ≡ 0
  no_y : children_listed (r layout.op_at) ≤ 1 → two r layout.YAt ≡ 0
  no_z : children_listed (r layout.op_at) ≤ 2 → two r layout.ZAt ≡ 0
  no_u : uses_field (r layout.op_at) ≡ false → uses_method (r layout.op_at) ≡ false → r layout.UAt ≡ 0
  no_name : (j : ℕ) → j < layout.names → names_listed (r layout.op_at) ≤ j → r (layout.names_at + j) ≡ 0

zero_of : (a : ℕ) (n x : ℕ) → listed_or_zero (ltb a n) x ≡ true → n ≤ a → x ≡ 0
zero_of a n x e h = eqb-true x 0 (or_right (ltb a n) (eqb x 0) e (le-ltb a n h))

node_in : (r : Frame) → node_in_range r ≡ true → NodeIn r
unfolding node_in_range name_in_range
node_in r e =
    let n = children_listed (r layout.op_at) in
    let a = leb (r layout.op_at) 9 in
    let x = listed_or_zero (ltb 0 n) (two r layout.XAt) in
    let y = listed_or_zero (ltb 1 n) (two r layout.YAt) in
    let z = listed_or_zero (ltb 2 n) (two r layout.ZAt) in
    let u = listed_or_zero (uses_field (r layout.op_at) || uses_method (r layout.op_at)) (r layout.UAt) in
    let t = every layout.names (name_in_range r) in
    let e₁ = and_right a (x && (y && (z && (u && t)))) e in
    let e₂ = and_right x (y && (z && (u && t))) e₁ in
    let e₃ = and_right y (z && (u && t)) e₂ in
    let e₄ = and_right z (u && t) e₃ in
    record {
      op = leb-true (r layout.op_at) 9 (and_left a (x && (y && (z && (u && t)))) e);
      no_x = zero_of 0 n (two r layout.XAt) (and_left x (y && (z && (u && t))) e₁);
      no_y = zero_of 1 n (two r layout.YAt) (and_left y (z && (u && t)) e₂);
      no_z = zero_of 2 n (two r layout.ZAt) (and_left z (u && t) e₃);
      no_u = λ p q. eqb-true (r layout.UAt) 0 (or_right (uses_field (r layout.op_at) || uses_method (r layout.op_at)) (eqb (r layout.UAt) 0) (and_left u t e₄) (neither (uses_field (r layout.op_at)) (uses_method (r layout.op_at)) p q));
      no_name = λ j h g. zero_of j (names_listed (r layout.op_at)) (r (layout.names_at + j)) (every-at layout.names (name_in_range r) (and_right u t e₄) j h) g;
    }
  where
    neither : (p q : Bool) → p ≡ false → q ≡ false → (p || q) ≡ false
    neither p q a b = rw (a, b)

-- ---- a node's names

name_of : (k t : ℕ) → name_or_none k t ≡ true → Name k t
name_of k t e = ⊎_elim (λ (p : ltb t k ≡ true). inl (ltb-true t k p)) (λ (q : eqb t 255 ≡ true). inr (eqb-true t 255 q)) (or_cases (ltb t k) (eqb t 255) e)

record NamesIn (f : Frames) (k : ℕ) (r : Frame) : Type 0 where
  field : uses_field (r layout.op_at) ≡ true → r layout.UAt < fields_in f
  method : uses_method (r layout.op_at) ≡ true → r layout.UAt < methods_in f
  guarded : uses_field (r layout.op_at) ≡ true → guard_uses (field_frame f (r layout.UAt) layout.guard_at) ≡ true → Name k (r layout.names_at)
  unguarded : uses_field (r layout.op_at) ≡ true → guard_uses (field_frame f (r layout.UAt) layout.guard_at) ≡ false → r layout.names_at ≡ 0
  synchronised : r layout.op_at ≡ 6 → r layout.names_at < k
  call : r layout.op_at ≡ 8 → (j : ℕ) → j < layout.names → j < method_frame f (r layout.UAt) layout.k_at → Name k (r (layout.names_at + j))
  spare : r layout.op_at ≡ 8 → (j : ℕ) → j < layout.names → method_frame f (r layout.UAt) layout.k_at ≤ j → r (layout.names_at + j) ≡ 0
  fork : r layout.op_at ≡ 9 → 1 ≤ method_frame f (r layout.UAt) layout.k_at

module _ (f : Frames) (k : ℕ) (r : Frame) (e : names_linked f k r ≡ true) where
  access-in : uses_field (r layout.op_at) ≡ true → access_linked f k r ≡ true
  access-in u = ⊎_elim
      (λ (p : eqb (r layout.op_at) 1 ≡ true). sym (names-read f k r (eqb-true (r layout.op_at) 1 p)) ∙ e)
      (λ (q : eqb (r layout.op_at) 2 ≡ true). sym (names-write f k r (eqb-true (r layout.op_at) 2 q)) ∙ e)
      (or_cases (eqb (r layout.op_at) 1) (eqb (r layout.op_at) 2) u)

  names_in : NamesIn f k r
  unfolding access_linked call_linked call_name_linked fork_linked
  names_in =
      let g = guard_uses (field_frame f (r layout.UAt) layout.guard_at) in
      let rest = cond g (name_or_none k (r layout.names_at)) (eqb (r layout.names_at) 0) in
      let calls = every layout.names (call_name_linked (method_frame f (r layout.UAt) layout.k_at) k r) in
      record {
        field = λ u. ltb-true (r layout.UAt) (fields_in f) (and_left (ltb (r layout.UAt) (fields_in f)) rest (access-in u));
        method = λ u. ⊎_elim
            (λ (p : eqb (r layout.op_at) 8 ≡ true).
            ltb-true (r layout.UAt) (methods_in f) (and_left (ltb (r layout.UAt) (methods_in f)) calls (sym (names-call f k r (eqb-true (r layout.op_at) 8 p)) ∙ e)))
            (λ (q : eqb (r layout.op_at) 9 ≡ true).
            ltb-true (r layout.UAt) (methods_in f) (and_left (ltb (r layout.UAt) (methods_in f)) (ltb 0 (method_frame f (r layout.UAt) layout.k_at)) (sym (names-fork f k r (eqb-true (r layout.op_at) 9 q)) ∙ e)))
            (or_cases (eqb (r layout.op_at) 8) (eqb (r layout.op_at) 9) u);
        guarded = λ u h. name_of k (r layout.names_at) (used g (name_or_none k (r layout.names_at)) (eqb (r layout.names_at) 0) h (and_right (ltb (r layout.UAt) (fields_in f)) rest (access-in u)));
        unguarded = λ u h. eqb-true (r layout.names_at) 0 (unused g (name_or_none k (r layout.names_at)) (eqb (r layout.names_at) 0) h (and_right (ltb (r layout.UAt) (fields_in f)) rest (access-in u)));
        synchronised = λ q. ltb-true (r layout.names_at) k (sym (names-synchronised f k r q) ∙ e);
        call = λ q j h l. name_of k (r (layout.names_at + j)) (used (ltb j (method_frame f (r layout.UAt) layout.k_at)) (name_or_none k (r (layout.names_at + j))) (eqb (r (layout.names_at + j)) 0) (lt-ltb j (method_frame f (r layout.UAt) layout.k_at) l)
            (every-at layout.names (call_name_linked (method_frame f (r layout.UAt) layout.k_at) k r) (and_right (ltb (r layout.UAt) (methods_in f)) calls (sym (names-call f k r q) ∙ e)) j h));
        spare = λ q j h l. eqb-true (r (layout.names_at + j)) 0 (unused (ltb j (method_frame f (r layout.UAt) layout.k_at)) (name_or_none k (r (layout.names_at + j))) (eqb (r (layout.names_at + j)) 0) (le-ltb j (method_frame f (r layout.UAt) layout.k_at) l)
            (every-at layout.names (call_name_linked (method_frame f (r layout.UAt) layout.k_at) k r) (and_right (ltb (r layout.UAt) (methods_in f)) calls (sym (names-call f k r q) ∙ e)) j h));
        fork = λ q. ltb-true 0 (method_frame f (r layout.UAt) layout.k_at) (and_right (ltb (r layout.UAt) (methods_in f)) (ltb 0 (method_frame f (r layout.UAt) layout.k_at)) (sym (names-fork f k r q) ∙ e));
      }
    where
      used : (g x y : Bool) → g ≡ true → cond g x y ≡ true → x ≡ true
      used true x y h p = p
      used false x y h p = cc

      unused : (g x y : Bool) → g ≡ false → cond g x y ≡ true → y ≡ true
      unused true x y h p = cc
      unused false x y h p = p

-- ---- children

-- those that are named are below their node, and named once
fresh-below : (n : ℕ) (xs cs : List ℕ) → fresh n xs cs ≡ true → (c : ℕ) → member c cs ≡ true → c < n
unfolding fresh member
fresh-below n xs [] e c h = cc-lt h
  where
    cc-lt : false ≡ true → c < n
    cc-lt p = let z : ◌≡◌ {A = ℕ} 0 1 = cc in omega arith
fresh-below n xs (x ∷ cs) e c h =
    let a = and_left (ltb x n) (not (member x xs) && fresh n (x ∷ xs) cs) e in
    let b = and_right (not (member x xs)) (fresh n (x ∷ xs) cs) (and_right (ltb x n) (not (member x xs) && fresh n (x ∷ xs) cs) e) in
    ⊎_elim
    (λ (p : eqb c x ≡ true). omega (arith, eqb-true c x p, ltb-true x n a))
    (λ (q : member c cs ≡ true). fresh-below n (x ∷ xs) cs b c q)
    (or_cases (eqb c x) (member c cs) h)

fresh-once : (n : ℕ) (xs cs : List ℕ) → fresh n xs cs ≡ true → Once xs → Once (naming xs cs)
unfolding fresh naming
fresh-once n xs [] e o = o
fresh-once n xs (x ∷ cs) e o =
    let q = and_right (ltb x n) (not (member x xs) && fresh n (x ∷ xs) cs) e in
    fresh-once n (x ∷ xs) cs (and_right (not (member x xs)) (fresh n (x ∷ xs) cs) q)
    (not-true (member x xs) (and_left (not (member x xs)) (fresh n (x ∷ xs) cs) q), o)

-- a node's children, of the frame and of the node
children-same : (r : Frame) → children_of r ≡ children_in (node_of r)
unfolding children_of children_in
children-same r = refl

-- a body that is made of frames names what the frames name
named-same : (f : Frames) (a n : ℕ) (body : ℕ → Node) → ((i : ℕ) → i < n → body i ≡ node_of (f (first_node f + (a + i)))) → named_in body n ≡ named_by f a n
unfolding named_in named_by
named-same f a zero body h = refl
named-same f a (suc n) body h =
    ap (λ (xs : List ℕ). naming xs (children_in (body n))) (named-same f a n body (λ i l. h i (omega arith)))
    ∙ ap (naming (named_by f a n)) (ap children_in (h n (omega arith)) ∙ sym (children-same (f (first_node f + (a + n)))))

pub total-same : (f : Frames) (n : ℕ) (g : ℕ → ℕ) → ((m : ℕ) → m < n → g m ≡ node_count f m) → total n g ≡ nodes_before f n
unfolding nodes_before
total-same f zero g h = refl
total-same f (suc n) g h =
    let a = total-same f n g (λ m l. h m (omega arith)) in
    let b = h n (omega arith) in
    omega (arith, a, b)

-- ---- a node of the program

module _ (f : Frames) where
  -- a node whose frame is in range and linked
  node-well : (k n : ℕ) (xs : List ℕ) (r : Frame) → NodeIn r → NamesIn f k r → fresh n xs (children_of r) ≡ true → NodeFits (program_of f) k n (node_of r)
  node-well k n xs r a b e =
      record {
        op = a.op;
        names = length-tabulate layout.names (λ j. r (layout.names_at + j));
        below = λ c h. fresh-below n xs (children_of r) e c (ap (member c) (children-same r) ∙ h);
        field = λ u. omega (arith, b.field u, fields-length f);
        method = λ u. omega (arith, b.method u, methods-length f);
        guarded = λ u h. rw (name-is f r 0 (omega arith)) (b.guarded u (sym (ap (λ (x : Field). guard_uses x.guard) (field_is f (r layout.UAt) (b.field u))) ∙ h));
        unguarded = λ u h. name-is f r 0 (omega arith) ∙ b.unguarded u (sym (ap (λ (x : Field). guard_uses x.guard) (field_is f (r layout.UAt) (b.field u))) ∙ h);
        synchronised = λ q. rw (name-is f r 0 (omega arith)) (b.synchronised q);
        call = λ q j h l. rw (name-is f r j h) (b.call q j h (omega (arith, ap (λ (x : Method). x.k) (method-is f (r layout.UAt) (b.method (uses-8 q))))));
        spare = λ q j l. ⊎_elim
            (λ (h : j < layout.names). name-is f r j h ∙ b.spare q j h (omega (arith, ap (λ (x : Method). x.k) (method-is f (r layout.UAt) (b.method (uses-8 q))))))
            (λ (g : layout.names ≤ j). name-past f r j g)
            (lt-or-le j layout.names);
        fork = λ q. omega (arith, b.fork q, ap (λ (x : Method). x.k) (method-is f (r layout.UAt) (b.method (uses-9 q))));
        no_x = a.no_x;
        no_y = a.no_y;
        no_z = a.no_z;
        no_u = a.no_u;
        no_name = λ j l. ⊎_elim
            (λ (h : j < layout.names). name-is f r j h ∙ a.no_name j h l)
            (λ (g : layout.names ≤ j). name-past f r j g)
            (lt-or-le j layout.names);
      }
    where
      uses-8 : r layout.op_at ≡ 8 → uses_method (r layout.op_at) ≡ true
      uses-8 q = rw q

      uses-9 : r layout.op_at ≡ 9 → uses_method (r layout.op_at) ≡ true
      uses-9 q = rw q

-- ---- lines without a fault

module _ (ls : List (List ℕ)) (ok : Faultless ls) where
  long : (0 < length ls) × (first_node (frames_of ls) ≤ length ls) × (all_frames (frames_of ls) ≤ length ls)
  long = which (frames_of ls) (length ls) Due.End ok.ends

  header : Sound.HeaderFits (frames_of ls)
  header = Sound.header-sound ls (length ls) ok.sound long.0

  summed : nodes_before (frames_of ls) (methods_in (frames_of ls)) ≡ nodes_in (frames_of ls)
  summed = Sound.total-sound ls (length ls) ok.sound long.0 long.1

  field-ok : (i : ℕ) → i < fields_in (frames_of ls) → FieldFits (field_of (field_frame (frames_of ls) i))
  unfolding in_range
  field-ok i h =
      field-well (field_frame (frames_of ls) i)
      (Sound.passes_at ls (length ls) ok.sound (1 + i) Due.Field (omega (arith, long.1))
      (due-field (frames_of ls) (1 + i) (λ e. omega arith) (omega arith))).ranged

  method-ok : (m : ℕ) → m < methods_in (frames_of ls) → MethodFits m (method_of (frames_of ls) m)
  method-ok m h = method-well (frames_of ls) m (Sound.method-sound ls (length ls) ok.sound m h (omega (arith, long.1)))

  -- node n of method m
  module _ (m n : ℕ) (hm : m < methods_in (frames_of ls)) (hn : n < node_count (frames_of ls) m) where
    early : first_node (frames_of ls) + (nodes_before (frames_of ls) m + n) < all_frames (frames_of ls)
    early =
        let b = before-grows (frames_of ls) (m + 1) (methods_in (frames_of ls)) (omega arith) in
        omega (arith, b, nodes-before-more (frames_of ls) m, summed)

    passes : Sound.Passes (frames_of ls) Due.Node (first_node (frames_of ls) + (nodes_before (frames_of ls) m + n)) (get_or ls (first_node (frames_of ls) + (nodes_before (frames_of ls) m + n)) [])
    passes =
        let j = first_node (frames_of ls) + (nodes_before (frames_of ls) m + n) in
        Sound.passes_at ls (length ls) ok.sound j Due.Node (omega (arith, early, long.2))
        (due-node (frames_of ls) j (λ e. omega arith) (omega arith) (omega arith) early)

    -- the node's test, with its own method and number
    both : node_linked (frames_of ls) (method_frame (frames_of ls) m layout.k_at) n (named_by (frames_of ls) (nodes_before (frames_of ls) m) n)
        (frames_of ls (first_node (frames_of ls) + (nodes_before (frames_of ls) m + n))) ≡ true
    unfolding linked node_linked_at
    both =
        let f = frames_of ls in
        let a = nodes_before f m + n in
        let q : (first_node f + a) - first_node f ≡ a = omega arith in
        let t : node_linked_at f a ≡ true = ap (node_linked_at f) (sym q) ∙ passes.is_linked in
        rw (number_is f m n a refl hn hm, owner-is f m n a refl hn hm) at t

    fresh_ok : fresh n (named_by (frames_of ls) (nodes_before (frames_of ls) m) n) (children_of (frames_of ls (first_node (frames_of ls) + (nodes_before (frames_of ls) m + n)))) ≡ true
    unfolding node_linked
    fresh_ok = and_left _ (names_linked (frames_of ls) (method_frame (frames_of ls) m layout.k_at) (frames_of ls (first_node (frames_of ls) + (nodes_before (frames_of ls) m + n)))) both

    node_ok : NodeFits (program_of (frames_of ls)) (method_frame (frames_of ls) m layout.k_at) n (node_of (frames_of ls (first_frame (frames_of ls) m + n)))
    unfolding in_range node_linked
    node_ok =
        let f = frames_of ls in
        let r = f (first_node f + (nodes_before f m + n)) in
        let w = node-well f (method_frame f m layout.k_at) n (named_by f (nodes_before f m) n) r (node_in r passes.ranged)
        (names_in f (method_frame f m layout.k_at) r (and_right (fresh n (named_by f (nodes_before f m) n) (children_of r)) _ both)) fresh_ok in
        let q : first_node f + (nodes_before f m + n) ≡ first_frame f m + n = omega arith in
        rw q at w

  once-ok : (m : ℕ) → m < methods_in (frames_of ls) → (n : ℕ) → n ≤ node_count (frames_of ls) m → Once (named_by (frames_of ls) (nodes_before (frames_of ls) m) n)
  unfolding named_by
  once-ok m hm zero h = tt
  once-ok m hm (suc n) h = fresh-once n (named_by (frames_of ls) (nodes_before (frames_of ls) m) n) _ (fresh_ok m n hm (omega arith)) (once-ok m hm n (omega arith))

  nodes-any : (m : ℕ) → m < methods_in (frames_of ls) → (M : Method) → M ≡ method_of (frames_of ls) m → (n : ℕ) → n < length M.nodes
      → NodeFits (program_of (frames_of ls)) M.k n (node_at M n)
  nodes-any m hm M e n l =
      let f = frames_of ls in
      subst⁻¹ (λ (X : Method). n < length X.nodes → NodeFits (program_of f) X.k n (node_at X n)) e
      (λ h.
      let c : n < node_count f m = omega (arith, nodes-length f m) in
      subst⁻¹ (NodeFits (program_of f) (method_frame f m layout.k_at) n) (node-is f m n c) (node_ok m n hm c))
      l

  once-any : (m : ℕ) → m < methods_in (frames_of ls) → (M : Method) → M ≡ method_of (frames_of ls) m → Once (named_in (node_at M) (length M.nodes))
  once-any m hm M e =
      let f = frames_of ls in
      subst⁻¹ (λ (X : Method). Once (named_in (node_at X) (length X.nodes))) e
      (subst⁻¹ (λ (n : ℕ). Once (named_in (node_at (method_of f m)) n)) (nodes-length f m)
      (subst⁻¹ Once
      (named-same f (nodes_before f m) (node_count f m) (node_at (method_of f m))
      (λ i l. node-is f m i l ∙ ap (λ (j : ℕ). node_of (f j)) (omega arith)))
      (once-ok m hm (node_count f m) (le_refl (node_count f m)))))

  nodes-total : total (methods_in (frames_of ls)) (λ m. length (method_at (program_of (frames_of ls)) m).nodes) ≡ nodes_in (frames_of ls)
  nodes-total =
      let f = frames_of ls in
      total-same f (methods_in f) (λ m. length (method_at (program_of f) m).nodes)
      (λ m l. ap (λ (X : Method). length X.nodes) (method-is f m l) ∙ nodes-length f m)
      ∙ summed

  pub well-formed : WellFormed (program_of (frames_of ls))
  well-formed =
      let f = frames_of ls in
      let hl = methods-length f in
      let fl = fields-length f in
      let below : (m : ℕ) → m < length (program_of f).methods → m < methods_in f = λ m h. omega (arith, hl) in
      record {
        some_methods = omega (arith, hl, header.methods_low);
        few_methods = omega (arith, hl, header.methods_high);
        few_fields = omega (arith, fl, header.fields_high);
        few_nodes =
            omega
            (arith, nodes-total, header.nodes_high, ap (λ (n : ℕ). total n (λ m. length (method_at (program_of f) m).nodes)) hl);
        fields = λ i h. rw (field_is f i (omega (arith, fl))) (field-ok i (omega (arith, fl)));
        methods = λ m h. rw (method-is f m (below m h)) (method-ok m (below m h));
        nodes = λ m n h l. nodes-any m (below m h) (method_at (program_of f) m) (method-is f m (below m h)) n l;
        once = λ m h. once-any m (below m h) (method_at (program_of f) m) (method-is f m (below m h));
      }
