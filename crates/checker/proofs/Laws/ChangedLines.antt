-- Frames that are the same but for those of nodes that stand aside stand for programs that are the same but for those nodes.
-- Assumes nothing.
use Rattle.std.specs.Prelude.{ℕ, zero, suc, ◌+◌, ◌^◌, ◌≤◌, ◌<◌, ◌∷◌, ◌≡◌, refl}
use Rattle.std.proofs.Math.Path.{sym, ap}
use Rattle.std.proofs.Common.{ap₂, ◌∙◌, subst, arith}
use Rattle.std.proofs.Math.Decide.{dec_lt}
use Rattle.std.proofs.Math.Dec.{eqb}
use Rattle.std.proofs.Math.ListN.{length, get_or, get_or-eq_default}
use Rattle.frames.specs.Layout.{layout}
use Rattle.counting.specs.Counting.{tabulate}
use Rattle.frames.specs.Program.{Method, plain_node, no_method, method_at, node_at}
use Rattle.frames.specs.Frames.{Frame, Frames, two, methods_in, fields_in, field_frame, method_frame, first_node}
use Rattle.frames.specs.Links.{node_count}
use Rattle.frames.specs.Tables.{field_of, node_of, grade_of, first_frame, method_of, program_of}
use Rattle.frames.specs.Laws.Program.{method-is, methods-length}
use Rattle.frames.specs.Laws.Agree.{agree-fields, agree-methods, agree-method, agree-before}
use Rattle.meaning.specs.Lowest.{method_count, is_declared}
use Rattle.meaning.specs.Unnamed.{Aside, ChangedAside}
use Rattle.counting.specs.Laws.Lists.{length-tabulate, get_or-tabulate, get_or-past-tabulate}

tabulate-same : {A : Type 0} (n : ℕ) (u v : ℕ → A) → ((i : ℕ) → i < n → u i ≡ v i) → tabulate n u ≡ tabulate n v
unfolding tabulate
tabulate-same zero u v h = refl
tabulate-same (suc n) u v h =
    ap₂ ◌∷◌ (h zero (omega arith)) (tabulate-same n (λ i. u (suc i)) (λ i. v (suc i)) (λ i l. h (suc i) (omega arith)))

module _ (f g : Frames)
    (head : (j : ℕ) → j < first_node f → g j ≡ f j)
    (nodes : (m n : ℕ) → m < methods_in f → n < node_count f m → (Aside (method_at (program_of f) m) n → ⊥) → g (first_frame f m + n) ≡ f (first_frame f m + n))
  where
    -- the frames before the nodes
    before : (j : ℕ) → j ≤ fields_in f + methods_in f → g j ≡ f j
    before j h = head j (omega arith)

    few : fields_in g ≡ fields_in f
    few = agree-fields f g (fields_in f + methods_in f) before

    many : methods_in g ≡ methods_in f
    many = agree-methods f g (fields_in f + methods_in f) before

    same-method : (m : ℕ) → m < methods_in f → method_frame g m ≡ method_frame f m
    same-method m h = agree-method f g (fields_in f + methods_in f) before m (omega arith)

    same_first : (m : ℕ) → m < methods_in f → first_frame g m ≡ first_frame f m
    same_first m h = omega (arith, few, many, agree-before f g (fields_in f + methods_in f) before m (omega arith))

    same_count : (m : ℕ) → m < methods_in f → node_count g m ≡ node_count f m
    same_count m h = ap (λ (r : Frame). two r layout.count_at) (same-method m h)

    -- what holds of each method's frames holds of all methods
    each : (P : ℕ → Method → Method → Type 0) → ((m : ℕ) → m < methods_in f → P m (method_of f m) (method_of g m)) → ((m : ℕ) (x : Method) → P m x x)
        → (m : ℕ) → P m (method_at (program_of f) m) (method_at (program_of g) m)
    unfolding method_at no_method
    each P here past m = go (dec_lt m (methods_in f))
      where
        none : (h : Frames) → methods_in h ≤ m → method_at (program_of h) m ≡ no_method
        none h l = get_or-eq_default (program_of h).methods no_method {n = m} (omega (arith, methods-length h))

        go : Dec (m < methods_in f) → P m (method_at (program_of f) m) (method_at (program_of g) m)
        go (yes l) =
            subst (λ (x : Method). P m x (method_at (program_of g) m)) (sym (method-is f m l))
            (subst (P m (method_of f m)) (sym (method-is g m (omega (arith, many)))) (here m l))
        go (no l) =
            subst (λ (x : Method). P m x (method_at (program_of g) m)) (sym (none f (omega arith)))
            (subst (P m no_method) (sym (none g (omega (arith, many)))) (past m no_method))

    same-node : (m : ℕ) → m < methods_in f → (n : ℕ) → (Aside (method_at (program_of f) m) n → ⊥) → node_at (method_of g m) n ≡ node_at (method_of f m) n
    unfolding node_at
    same-node m h n keeps = go (dec_lt n (node_count f m))
      where
        go : Dec (n < node_count f m) → get_or (method_of g m).nodes n plain_node ≡ get_or (method_of f m).nodes n plain_node
        go (yes l) =
            get_or-tabulate (node_count g m) (λ i. node_of (g (first_frame g m + i))) n plain_node (omega (arith, same_count m h))
            ∙ ap (λ (j : ℕ). node_of (g (j + n))) (same_first m h)
            ∙ ap node_of (nodes m n h l keeps)
            ∙ sym (get_or-tabulate (node_count f m) (λ i. node_of (f (first_frame f m + i))) n plain_node l)
        go (no l) =
            get_or-past-tabulate (node_count g m) (λ i. node_of (g (first_frame g m + i))) n plain_node (omega (arith, same_count m h))
            ∙ sym (get_or-past-tabulate (node_count f m) (λ i. node_of (f (first_frame f m + i))) n plain_node (omega arith))

    pub frames-changed : ChangedAside (program_of f) (program_of g)
    unfolding method_count is_declared
    frames-changed =
        record {
          fields = same-fields;
          count = methods-length g ∙ many ∙ sym (methods-length f);
          k = each (λ m x y. y.k ≡ x.k) (λ m h. ap (λ (r : Frame). r layout.k_at) (same-method m h)) (λ m x. refl);
          declared =
              each (λ m x y. y.declared ≡ x.declared)
              (λ m h. ap (λ (r : Frame). eqb (r layout.declared_at) 1) (same-method m h)) (λ m x. refl);
          table =
              each (λ m x y. y.table ≡ x.table)
              (λ m h. ap (λ (r : Frame). tabulate (2 ^ r layout.k_at) (grade_of r)) (same-method m h)) (λ m x. refl);
          node_count =
              each (λ m x y. length y.nodes ≡ length x.nodes)
              (λ m h. length-tabulate (node_count g m) (λ i. node_of (g (first_frame g m + i)))
              ∙ same_count m h
              ∙ sym (length-tabulate (node_count f m) (λ i. node_of (f (first_frame f m + i))))) (λ m x. refl);
          nodes =
              each (λ m x y. (n : ℕ) → (Aside (method_at (program_of f) m) n → ⊥) → node_at y n ≡ node_at x n)
              same-node (λ m x n keeps. refl);
        }
      where
        same-fields : (program_of g).fields ≡ (program_of f).fields
        same-fields =
            unfold program_of in
            (ap (λ (n : ℕ). tabulate n (λ i. field_of (field_frame g i))) few
            ∙ tabulate-same (fields_in f) (λ i. field_of (field_frame g i)) (λ i. field_of (field_frame f i))
            (λ i l. ap field_of (head (1 + i) (omega arith))))
