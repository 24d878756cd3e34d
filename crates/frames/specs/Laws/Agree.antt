-- A test of frame i looks at no later frame: frames that agree up to i pass the same tests.
-- Assumes nothing.
use Prim.Native.Nat.{ℕ, zero, suc, ◌+◌, ◌≤◌, ◌<◌, zero-le}
use Rattle.std.specs.Prelude.{◌≡◌, ◌&&◌, ◌||◌}
use Rattle.std.proofs.Math.Path.{refl, ap, sym}
use Rattle.std.proofs.Common.{◌∙◌, arith, le_refl}
use Rattle.std.proofs.Math.Bool.{cond}
use Rattle.std.proofs.Math.Logic.{⊎_elim}
use Rattle.std.proofs.Math.Decide.{ℕ_discrete}
use Rattle.std.proofs.Math.Dec.{ltb, eqb}
use Rattle.frames.specs.Layout.{layout}
use Rattle.frames.specs.Frames.{Frame, Frames, two, due, methods_in, fields_in, nodes_in, field_frame, method_frame, first_method, first_node}
use Rattle.frames.specs.Ranges.{in_range, header_in_range, field_in_range, method_in_range, node_in_range}
use Rattle.frames.specs.Links.{nodes_before, guard_uses, access_linked, call_name_linked, call_linked, fork_linked, names_linked, method_linked}
use Rattle.frames.specs.Laws.Links.{access-outside, call-outside, call-inside, fork-outside, fork-inside, method-last, method-earlier}
use Rattle.frames.specs.declared.Due.{Due}
use Rattle.frames.specs.declared.Due.TheVariants.{Header, Field, Method, Node, End}
use Rattle.counting.specs.Counting.{every}
use Rattle.counting.specs.Laws.Tests.{lt-or-le}

-- what is due follows from the header alone
pub agree-due : (f g : Frames) (i : ℕ) → g 0 ≡ f 0 → due g i ≡ due f i
unfolding due
agree-due f g i e = ap (λ (r : Frame). due (λ j. r) i) e

module _ (f g : Frames) (i : ℕ) (same : (j : ℕ) → j ≤ i → g j ≡ f j) where
  pub agree-fields : fields_in g ≡ fields_in f
  agree-fields = ap (λ (r : Frame). r layout.fields_at) (same 0 zero-le)

  pub agree-methods : methods_in g ≡ methods_in f
  agree-methods = ap (λ (r : Frame). r layout.methods_at) (same 0 zero-le)

  pub agree-nodes : nodes_in g ≡ nodes_in f
  agree-nodes = ap (λ (r : Frame). two r layout.nodes_at) (same 0 zero-le)

  pub agree-range : (d : Due) → in_range g d i ≡ in_range f d i
  unfolding in_range
  agree-range Header = ap header_in_range (same i (le_refl i))
  agree-range Field = ap field_in_range (same i (le_refl i))
  agree-range Method =
      ap (λ (n : ℕ). method_in_range (eqb i (1 + n)) (g i)) agree-fields
      ∙ ap (method_in_range (eqb i (first_method f))) (same i (le_refl i))
  agree-range Node = ap node_in_range (same i (le_refl i))
  agree-range End = refl

  pub agree-method : (m : ℕ) → first_method f + m ≤ i → method_frame g m ≡ method_frame f m
  agree-method m h = ap (λ (n : ℕ). g (1 + n + m)) agree-fields ∙ same (first_method f + m) h

  pub agree-before : (m : ℕ) → first_method f + m ≤ suc i → nodes_before g m ≡ nodes_before f m
  unfolding nodes_before
  agree-before zero h = refl
  agree-before (suc m) h =
      let r = agree-before m (omega arith) in
      let e = ap (λ (r : Frame). two r layout.count_at) (agree-method m (omega arith)) in
      omega (arith, r, e)

  pub agree-method-linked : (m : ℕ) → first_method f + m ≡ i → method_linked g m ≡ method_linked f m
  agree-method-linked m h = go (ℕ_discrete (m + 1) (methods_in f))
    where
      go : Dec (m + 1 ≡ methods_in f) → method_linked g m ≡ method_linked f m
      go (yes e) =
          method-last g m (e ∙ sym agree-methods)
          ∙ (ap (λ (n : ℕ). eqb (nodes_before g n) (nodes_in g)) agree-methods
          ∙ (ap (λ (n : ℕ). eqb n (nodes_in g)) (agree-before (methods_in f) (omega arith))
          ∙ (ap (eqb (nodes_before f (methods_in f))) agree-nodes ∙ sym (method-last f m e))))
      go (no d) = method-earlier g m (λ e. d (e ∙ agree-methods)) ∙ sym (method-earlier f m d)

  -- a node's test looks at fields and methods alone
  module _ (nodes : first_node f ≤ i) (k : ℕ) (r : Frame) where
    agree-access : access_linked g k r ≡ access_linked f k r
    unfolding access_linked
    agree-access =
        ⊎_elim
        (λ (l : r layout.UAt < fields_in f).
        ap (λ (n : ℕ). ltb (r layout.UAt) n && cond (guard_uses (field_frame g (r layout.UAt) layout.guard_at)) (ltb (r layout.names_at) k || eqb (r layout.names_at) layout.no_name) (eqb (r layout.names_at) 0)) agree-fields
        ∙ ap (λ (q : Frame). ltb (r layout.UAt) (fields_in f) && cond (guard_uses (q layout.guard_at)) (ltb (r layout.names_at) k || eqb (r layout.names_at) layout.no_name) (eqb (r layout.names_at) 0)) (same (1 + r layout.UAt) (omega arith)))
        (λ (o : fields_in f ≤ r layout.UAt). access-outside g k r (omega (arith, agree-fields)) ∙ sym (access-outside f k r o))
        (lt-or-le (r layout.UAt) (fields_in f))

    agree-call : call_linked g k r ≡ call_linked f k r
    agree-call =
        ⊎_elim
        (λ (l : r layout.UAt < methods_in f).
        call-inside g k r (omega (arith, agree-methods))
        ∙ (ap (λ (q : Frame). every layout.names (call_name_linked (q layout.k_at) k r)) (agree-method (r layout.UAt) (omega arith))
        ∙ sym (call-inside f k r l)))
        (λ (o : methods_in f ≤ r layout.UAt). call-outside g k r (omega (arith, agree-methods)) ∙ sym (call-outside f k r o))
        (lt-or-le (r layout.UAt) (methods_in f))

    agree-fork : fork_linked g r ≡ fork_linked f r
    agree-fork =
        ⊎_elim
        (λ (l : r layout.UAt < methods_in f).
        fork-inside g k r (omega (arith, agree-methods))
        ∙ (ap (λ (q : Frame). ltb 0 (q layout.k_at)) (agree-method (r layout.UAt) (omega arith)) ∙ sym (fork-inside f k r l)))
        (λ (o : methods_in f ≤ r layout.UAt). fork-outside g k r (omega (arith, agree-methods)) ∙ sym (fork-outside f k r o))
        (lt-or-le (r layout.UAt) (methods_in f))

    pub agree-names : names_linked g k r ≡ names_linked f k r
    unfolding names_linked
    agree-names = rw (agree-access, agree-call, agree-fork)
