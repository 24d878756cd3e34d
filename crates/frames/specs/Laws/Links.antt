-- Laws of the tests for refusal 6, and of the marks.
-- Assumes nothing.
use Rattle.std.specs.Prelude.{ℕ, zero, suc, ◌+◌, ◌-◌, ◌≤◌, ◌<◌, ◌≡◌, Bool, true, false, cond, ◌&&◌, List, [], ◌∷◌, ◌++◌, ltb, eqb, get_or, set, take, Option}
use Rattle.std.proofs.Math.Path.{refl, sym}
use Rattle.std.proofs.Common.{ap, ◌∙◌, arith, add-one}
use Rattle.std.proofs.Math.Seq.{take-nil}
use Rattle.std.specs.Bool.{then_some}
use borrow.Author.Tests.{lt-ltb, le-ltb, eq-eqb, ne_eqb}
use Rattle.frames.specs.Layout.{layout}
use Rattle.frames.specs.Frames.{Frame, Frames, two, methods_in, fields_in, nodes_in, method_frame, field_frame, first_method}
use Rattle.frames.specs.Ops.{op_named, number_of}
use Rattle.frames.specs.Laws.Ops.{named_number, no_op_past}
use Rattle.frames.specs.declared.ops.Op.{Op}
use Rattle.frames.specs.declared.ops.Op.TheVariants.{PlainValue, Read, Write, Sequence, Choice, Loop, Synchronised, Assertion, Call, Fork, NoOp}
use Rattle.frames.specs.Ranges.{children_listed}
use Rattle.frames.specs.Links.{children_of, access_linked, call_name_linked, call_linked, fork_linked, names_linked, method_linked, nodes_before, guard_uses, name_or_none}
use Rattle.frames.specs.Code.Marks.{unmarked, fresh_in, marked, list_of, Named, linked_by, marked_by, Linked}
use Rattle.frames.specs.declared.Due.{Due}
use Rattle.frames.specs.declared.Due.TheVariants.{Header, Field, Method, Node, End}
use Rattle.counting.specs.Counting.{every}

abbrev pub listed : Bool → ℕ → List ℕ
listed b c = cond b (c ∷ []) []

-- one child: not listed; not below its node; named before; named now
module _ (n : ℕ) (N : List ℕ) (c : ℕ) (b : Bool) where
  pub named_none : b ≡ false → Named true n N N (listed b c)
  unfolding fresh_in marked
  named_none e = rw e (record { is = refl; marks = λ p. refl })

  pub named-above : (N' : List ℕ) → b ≡ true → n ≤ c → Named false n N N' (listed b c)
  unfolding fresh_in
  named-above N' e h = rw e (record { is = simp (le-ltb c n h); marks = λ p. cc })

  pub named_again : (N' : List ℕ) → b ≡ true → c < n → get_or N c 0 ≡ 1 → Named false n N N' (listed b c)
  unfolding fresh_in
  named_again N' e h g = rw e (record { is = simp (lt-ltb c n h, eq-eqb (get_or N c 0) 1 g); marks = λ p. cc })

  pub named-now : b ≡ true → c < n → (get_or N c 0 ≡ 1 → ⊥) → Named true n N (set N c 1) (listed b c)
  unfolding fresh_in marked
  named-now e h g = rw e (record { is = simp (lt-ltb c n h, ne_eqb (get_or N c 0) 1 g); marks = λ p. refl })

-- some children, then others
fresh-append : (n : ℕ) (N xs ys : List ℕ) → fresh_in n N (xs ++ ys) ≡ (fresh_in n N xs && fresh_in n (marked N xs) ys)
unfolding fresh_in marked
fresh-append n N [] ys = refl
fresh-append n N (x ∷ xs) ys = rw (fresh-append n (set N x 1) xs ys) (assoc (unmarked n N x) (fresh_in n (set N x 1) xs) (fresh_in n (marked (set N x 1) xs) ys))
  where
    assoc : (a b d : Bool) → (a && (b && d)) ≡ ((a && b) && d)
    assoc true b d = refl
    assoc false b d = refl

marked_append : (N xs ys : List ℕ) → marked N (xs ++ ys) ≡ marked (marked N xs) ys
unfolding marked
marked_append N [] ys = refl
marked_append N (x ∷ xs) ys = marked_append (set N x 1) xs ys

pub named-then : (n : ℕ) (N N₁ N₂ xs ys : List ℕ) (r s : Bool) → Named r n N N₁ xs → r ≡ true → Named s n N₁ N₂ ys → Named s n N N₂ (xs ++ ys)
named-then n N N₁ N₂ xs ys r s a e b =
    let m = a.marks e in
    record {
      is = b.is ∙ (ap (λ (l : List ℕ). fresh_in n l ys) m ∙ sym (fresh-append n N xs ys ∙ rw (sym a.is ∙ e)));
      marks = λ p. b.marks p ∙ (ap (λ (l : List ℕ). marked l ys) m ∙ sym (marked_append N xs ys));
    }

pub named-fails : (n : ℕ) (N N₁ N₂ xs ys : List ℕ) (r : Bool) → Named r n N N₁ xs → r ≡ false → Named false n N N₂ (xs ++ ys)
named-fails n N N₁ N₂ xs ys r a e =
    record { is = sym (fresh-append n N xs ys ∙ rw (sym a.is ∙ e)); marks = λ p. cc }

-- the children of a node, X, Y and Z apart
pub children-apart : (r : Frame) → children_of r
    ≡ (list_of (then_some (ltb 0 (children_listed (r layout.op_at))) (two r layout.XAt)) ++ list_of (then_some (ltb 1 (children_listed (r layout.op_at))) (two r layout.YAt))) ++ list_of (then_some (ltb 2 (children_listed (r layout.op_at))) (two r layout.ZAt))
unfolding children_of
children-apart r = go (children_listed (r layout.op_at))
  where
    go : (n : ℕ) → take n (two r layout.XAt ∷ two r layout.YAt ∷ two r layout.ZAt ∷ []) ≡ (list_of (then_some (ltb 0 n) (two r layout.XAt)) ++ list_of (then_some (ltb 1 n) (two r layout.YAt))) ++ list_of (then_some (ltb 2 n) (two r layout.ZAt))
    go zero = refl
    go (suc zero) = refl
    go (suc (suc zero)) = refl
    go (suc (suc (suc n))) = simp (lt-ltb 0 (suc (suc (suc n))) (omega arith), lt-ltb 1 (suc (suc (suc n))) (omega arith), lt-ltb 2 (suc (suc (suc n))) (omega arith), take-nil {A = ℕ} n)

pub children-listed-apart : (r : Frame) → children_of r
    ≡ listed (ltb 0 (children_listed (r layout.op_at))) (two r layout.XAt) ++ (listed (ltb 1 (children_listed (r layout.op_at))) (two r layout.YAt) ++ listed (ltb 2 (children_listed (r layout.op_at))) (two r layout.ZAt))
unfolding children_of
children-listed-apart r = go (children_listed (r layout.op_at))
  where
    go : (n : ℕ) → take n (two r layout.XAt ∷ two r layout.YAt ∷ two r layout.ZAt ∷ []) ≡ listed (ltb 0 n) (two r layout.XAt) ++ (listed (ltb 1 n) (two r layout.YAt) ++ listed (ltb 2 n) (two r layout.ZAt))
    go zero = refl
    go (suc zero) = refl
    go (suc (suc zero)) = refl
    go (suc (suc (suc n))) = simp (lt-ltb 0 (suc (suc (suc n))) (omega arith), lt-ltb 1 (suc (suc (suc n))) (omega arith), lt-ltb 2 (suc (suc (suc n))) (omega arith), take-nil {A = ℕ} n)

-- an access, a call and a fork, by the tests that the code makes
module _ (f : Frames) (k : ℕ) (r : Frame) where
  pub access-outside : fields_in f ≤ r layout.UAt → access_linked f k r ≡ false
  unfolding access_linked
  access-outside h = rw (le-ltb (r layout.UAt) (fields_in f) h)

  pub access-used : r layout.UAt < fields_in f → guard_uses (field_frame f (r layout.UAt) layout.guard_at) ≡ true → access_linked f k r ≡ name_or_none k (r layout.names_at)
  unfolding access_linked
  access-used h g = rw (lt-ltb (r layout.UAt) (fields_in f) h, g)

  pub access-unused : r layout.UAt < fields_in f → guard_uses (field_frame f (r layout.UAt) layout.guard_at) ≡ false → access_linked f k r ≡ eqb (r layout.names_at) 0
  unfolding access_linked
  access-unused h g = rw (lt-ltb (r layout.UAt) (fields_in f) h, g)

  pub call-outside : methods_in f ≤ r layout.UAt → call_linked f k r ≡ false
  unfolding call_linked
  call-outside h = rw (le-ltb (r layout.UAt) (methods_in f) h)

  pub call-inside : r layout.UAt < methods_in f → call_linked f k r ≡ every layout.names (call_name_linked (method_frame f (r layout.UAt) layout.k_at) k r)
  unfolding call_linked
  call-inside h = rw (lt-ltb (r layout.UAt) (methods_in f) h)

  pub call-name-needed : (callee j : ℕ) → j < callee → call_name_linked callee k r j ≡ name_or_none k (r (layout.names_at + j))
  unfolding call_name_linked
  call-name-needed callee j h = rw (lt-ltb j callee h)

  pub call-name-none : (callee j : ℕ) → callee ≤ j → call_name_linked callee k r j ≡ eqb (r (layout.names_at + j)) 0
  unfolding call_name_linked
  call-name-none callee j h = rw (le-ltb j callee h)

  pub fork-outside : methods_in f ≤ r layout.UAt → fork_linked f r ≡ false
  unfolding fork_linked
  fork-outside h = rw (le-ltb (r layout.UAt) (methods_in f) h)

  pub fork-inside : r layout.UAt < methods_in f → fork_linked f r ≡ ltb 0 (method_frame f (r layout.UAt) layout.k_at)
  unfolding fork_linked
  fork-inside h = rw (lt-ltb (r layout.UAt) (methods_in f) h)

  -- the names, by op's number
  pub names-read : r layout.op_at ≡ 1 → names_linked f k r ≡ access_linked f k r
  unfolding names_linked
  names-read e = rw e

  pub names-write : r layout.op_at ≡ 2 → names_linked f k r ≡ access_linked f k r
  unfolding names_linked
  names-write e = rw e

  pub names-synchronised : r layout.op_at ≡ 6 → names_linked f k r ≡ ltb (r layout.names_at) k
  unfolding names_linked
  names-synchronised e = rw e

  pub names-call : r layout.op_at ≡ 8 → names_linked f k r ≡ call_linked f k r
  unfolding names_linked
  names-call e = rw e

  pub names-fork : r layout.op_at ≡ 9 → names_linked f k r ≡ fork_linked f r
  unfolding names_linked
  names-fork e = rw e

  pub names-other : (r layout.op_at ≡ 1 → ⊥) → (r layout.op_at ≡ 2 → ⊥) → (r layout.op_at ≡ 6 → ⊥) → (r layout.op_at ≡ 8 → ⊥) → (r layout.op_at ≡ 9 → ⊥) → names_linked f k r ≡ true
  unfolding names_linked
  names-other a b d e g = rw (ne_eqb (r layout.op_at) 1 a, ne_eqb (r layout.op_at) 2 b, ne_eqb (r layout.op_at) 6 d, ne_eqb (r layout.op_at) 8 e, ne_eqb (r layout.op_at) 9 g)

  -- and by its name
  abbrev pub names_by : Op → Bool
  names_by PlainValue = true
  names_by Read = access_linked f k r
  names_by Write = access_linked f k r
  names_by Sequence = true
  names_by Choice = true
  names_by Loop = true
  names_by Synchronised = ltb (r layout.names_at) k
  names_by Assertion = true
  names_by Call = call_linked f k r
  names_by Fork = fork_linked f r
  names_by (NoOp n) = true

  pub names_named : names_linked f k r ≡ names_by (op_named (r layout.op_at))
  unfolding names_linked
  names_named = go (op_named (r layout.op_at)) refl
    where
      at : (o : Op) → op_named (r layout.op_at) ≡ o → r layout.op_at ≡ number_of o
      at o e = sym (named_number (r layout.op_at)) ∙ ap number_of e

      go : (o : Op) → op_named (r layout.op_at) ≡ o → names_linked f k r ≡ names_by o
      go PlainValue e = rw (at PlainValue e)
      go Read e = rw (at Read e)
      go Write e = rw (at Write e)
      go Sequence e = rw (at Sequence e)
      go Choice e = rw (at Choice e)
      go Loop e = rw (at Loop e)
      go Synchronised e = rw (at Synchronised e)
      go Assertion e = rw (at Assertion e)
      go Call e = rw (at Call e)
      go Fork e = rw (at Fork e)
      go (NoOp n) e = let g : 10 ≤ r layout.op_at = no_op_past _ n e in
          rw (ne_eqb (r layout.op_at) 1 (omega arith), ne_eqb (r layout.op_at) 2 (omega arith), ne_eqb (r layout.op_at) 6 (omega arith), ne_eqb (r layout.op_at) 8 (omega arith), ne_eqb (r layout.op_at) 9 (omega arith))

-- the last method line, and the others
pub method-last : (f : Frames) (m : ℕ) → m + 1 ≡ methods_in f → method_linked f m ≡ eqb (nodes_before f (methods_in f)) (nodes_in f)
unfolding method_linked
method-last f m e = rw (eq-eqb (suc m) (methods_in f) (sym (add-one m) ∙ e))

pub method-earlier : (f : Frames) (m : ℕ) → (m + 1 ≡ methods_in f → ⊥) → method_linked f m ≡ true
unfolding method_linked
method-earlier f m e = rw (ne_eqb (suc m) (methods_in f) (λ g. e (add-one m ∙ g)))

-- X, Y and Z one after the other, as the code names them: l is the count of listed children, x, y, z what was read
module _ (r : Frame) (l x y z : ℕ) (p q s : Option ℕ) (el : l ≡ children_listed (r layout.op_at)) where
  pub children-read : x ≡ two r layout.XAt → y ≡ two r layout.YAt → z ≡ two r layout.ZAt → p ≡ then_some (ltb 0 l) x → q ≡ then_some (ltb 1 l) y → s ≡ then_some (ltb 2 l) z
      → children_of r ≡ (list_of p ++ list_of q) ++ list_of s
  children-read ex ey ez ep eq es = rw (children-apart r, ← el, ← ex, ← ey, ← ez, ← ep, ← eq, ← es)

module _ (n : ℕ) (N N₁ N₂ N₃ : List ℕ) (r : Frame) (l x y z : ℕ) (a b d : Bool) (el : l ≡ children_listed (r layout.op_at)) where
  pub names-X-fails : x ≡ two r layout.XAt → Named a n N N₁ (listed (ltb 0 l) x) → a ≡ false → Named false n N N₁ (children_of r)
  names-X-fails ex h e = rw (children-listed-apart r, ← el, ← ex) (named-fails n N N₁ N₁ _ _ a h e)

  pub names-Y-fails : x ≡ two r layout.XAt → y ≡ two r layout.YAt → Named a n N N₁ (listed (ltb 0 l) x) → a ≡ true → Named b n N₁ N₂ (listed (ltb 1 l) y) → b ≡ false
      → Named false n N N₂ (children_of r)
  names-Y-fails ex ey h e g f =
      rw (children-listed-apart r, ← el, ← ex, ← ey) (named-then n N N₁ N₂ _ _ a false h e (named-fails n N₁ N₂ N₂ _ _ b g f))

  pub names-all : x ≡ two r layout.XAt → y ≡ two r layout.YAt → z ≡ two r layout.ZAt → Named a n N N₁ (listed (ltb 0 l) x) → a ≡ true
      → Named b n N₁ N₂ (listed (ltb 1 l) y) → b ≡ true → Named d n N₂ N₃ (listed (ltb 2 l) z) → Named d n N N₃ (children_of r)
  names-all ex ey ez h e g f k =
      rw (children-listed-apart r, ← el, ← ex, ← ey, ← ez) (named-then n N N₁ N₃ _ _ a d h e (named-then n N₁ N₂ N₃ _ _ b d g f k))

-- the test of a frame, by what is due
module _ (f : Frames) (N N₁ : List ℕ) (i m n : ℕ) (a b : Bool) where
  pub node-fails : Named a n N N₁ (children_of (f i)) → a ≡ false → Linked false f N N₁ Node i m n
  unfolding linked_by
  node-fails h e = record { is = sym (rw (sym h.is ∙ e)); marks = λ p. cc }

  pub node-then : Named a n N N₁ (children_of (f i)) → a ≡ true → b ≡ names_linked f (method_frame f m layout.k_at) (f i) → Linked b f N N₁ Node i m n
  unfolding linked_by marked_by
  node-then h e g = record { is = g ∙ sym (rw (sym h.is ∙ e)); marks = λ p. h.marks e }

  pub linked-node : (d : Due) → d ≡ Node → Linked b f N N₁ Node i m n → Linked b f N N₁ d i m n
  linked-node d e h = rw e h

  pub linked-method : (d : Due) → d ≡ Method → b ≡ method_linked f (i - first_method f) → Linked b f N N d i m n
  unfolding linked_by marked_by
  linked-method d e h = rw e (record { is = h; marks = λ p. refl })

  pub linked-header : (d : Due) → d ≡ Header → Linked true f N N d i m n
  unfolding linked_by marked_by
  linked-header d e = rw e (record { is = refl; marks = λ p. refl })

  pub linked-field : (d : Due) → d ≡ Field → Linked true f N N d i m n
  unfolding linked_by marked_by
  linked-field d e = rw e (record { is = refl; marks = λ p. refl })

  pub linked-end : (d : Due) → d ≡ End → Linked true f N N d i m n
  unfolding linked_by marked_by
  linked-end d e = rw e (record { is = refl; marks = λ p. refl })
