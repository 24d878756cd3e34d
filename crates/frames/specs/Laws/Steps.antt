-- Laws of the reader's private steps.
-- Assumes nothing.
use Rattle.std.specs.Prelude.{ℕ, ◌+◌, ◌*◌, ◌≤◌, ◌<◌, ◌≡◌, refl, Bool, cond, eqb, get_or, Option, Some, None}
use Rattle.std.proofs.Math.Path.{ap, sym}
use Rattle.std.proofs.Common.{◌∙◌, arith}
use Rattle.std.proofs.Math.Bool.{true, false}
use mathlib.Core.List.{List}
use Rattle.std.proofs.Math.Dec.{ltb}
use Rattle.std.proofs.Math.Seq.{paste}
use borrow.Author.Tests.{lt-ltb, le-ltb, eq-eqb, ne_eqb, eqb-true}
use Rattle.frames.specs.Layout.{layout}
use Rattle.lines.specs.Lines.{bytes, frame_length, well_formed}
use Rattle.frames.specs.Frames.{Frames, due, placed, kind_of, length_of, first_method, first_node, all_frames}
use Rattle.frames.specs.Ranges.{in_range}
use Rattle.frames.specs.Links.{node_count}
use Rattle.frames.specs.Code.Marks.{linked_by, marked_by, Linked}
use Rattle.frames.specs.Tables.{cell}
use Rattle.frames.specs.Reading.{lowest_fault}
use Rattle.frames.specs.Code.Steps.{stored, fault_by, line_fault, Taken, next_node}
use Rattle.frames.specs.declared.Due.{Due}
use Rattle.frames.specs.declared.Due.TheVariants.{Header, Field, Method, Node, End}
use Rattle.frames.specs.declared.Fault.{Fault}
use Rattle.frames.specs.declared.Fault.TheVariants.{Malformed, Misplaced, OutOfRange, Unlinked}
use Rattle.frames.specs.declared.Stand.{Stand}
use Rattle.counting.specs.Laws.Tests.{and_left}

-- what is due, by number
module _ (f : Frames) (i : ℕ) where
  pub due-header : i ≡ 0 → due f i ≡ Header
  unfolding due
  due-header e = rw (eq-eqb i 0 e)

  pub due-field : (i ≡ 0 → ⊥) → i < first_method f → due f i ≡ Field
  unfolding due
  due-field a h = rw (ne_eqb i 0 a, lt-ltb i (first_method f) h)

  pub due-method : (i ≡ 0 → ⊥) → first_method f ≤ i → i < first_node f → due f i ≡ Method
  unfolding due
  due-method a g h = rw (ne_eqb i 0 a, le-ltb i (first_method f) g, lt-ltb i (first_node f) h)

  pub due-node : (i ≡ 0 → ⊥) → first_method f ≤ i → first_node f ≤ i → i < all_frames f → due f i ≡ Node
  unfolding due
  due-node a g n h = rw (ne_eqb i 0 a, le-ltb i (first_method f) g, le-ltb i (first_node f) n, lt-ltb i (all_frames f) h)

  pub due-end : (i ≡ 0 → ⊥) → first_method f ≤ i → first_node f ≤ i → all_frames f ≤ i → due f i ≡ End
  unfolding due
  due-end a g n h = rw (ne_eqb i 0 a, le-ltb i (first_method f) g, le-ltb i (first_node f) n, le-ltb i (all_frames f) h)

-- the kind and the length of a line
pub placed-length : (d : Due) (l : List ℕ) (n : ℕ) → n ≡ frame_length l → (n ≡ length_of d → ⊥) → placed d l ≡ false
unfolding placed
placed-length d l n e h = rw (ne_eqb (frame_length l) (length_of d) (λ g. h (e ∙ g)))

pub placed-kind : (d : Due) (l : List ℕ) (n : ℕ) → n ≡ frame_length l → n ≡ length_of d → placed d l ≡ eqb (get_or (bytes l) 0 0) (kind_of d)
unfolding placed
placed-kind d l n e h = rw (eq-eqb (frame_length l) (length_of d) (sym e ∙ h))

sound-linked : (b : Bool) → ◌≡◌ {A = Option Fault} (cond b None (Some Unlinked)) None → b ≡ true
sound-linked true e = refl
sound-linked false e = cc

-- refusals 3 to 6: the four tests, the last two over the tables with the line in them where it is of the kind and length due
module _ (l : List ℕ) (d : Due) (t t' N N₁ : List ℕ) (i m n : ℕ) where
  pub taken : (len : ℕ) (p a b : Bool) (r : Option Fault) → len ≡ frame_length l → p ≡ placed d l
      → t' ≡ paste t (i * layout.stride) (bytes l) (cond p len 0) → a ≡ in_range (cell t') d i → Linked b (cell t') N N₁ d i m n
      → r ≡ lowest_fault (ltb 0 len) p a b → Taken r l d t t' N N₁ i m n
  unfolding line_fault fault_by well_formed
  taken len p a b r is = go (ltb 0 len) p a b (ap (ltb 0) (sym is))
    where
      go : (w p a b : Bool) → ltb 0 (frame_length l) ≡ w → p ≡ placed d l
          → t' ≡ paste t (i * layout.stride) (bytes l) (cond p len 0) → a ≡ in_range (cell t') d i → Linked b (cell t') N N₁ d i m n
          → r ≡ lowest_fault w p a b → Taken r l d t t' N N₁ i m n
      go false p a b ew ep et ea eb er = record { is = er ∙ sym (rw ew); tables = λ q. cc; marks = λ q. cc }
      go true false a b ew ep et ea eb er = record { is = er ∙ sym (rw (ew, sym ep)); tables = λ q. cc; marks = λ q. cc }
      go true true false b ew ep et ea eb er =
          let s = et ∙ ap (paste t (i * layout.stride) (bytes l)) is in
          record { is = er ∙ sym (rw (ew, sym ep, sym (ea ∙ ap (λ (u : List ℕ). in_range (cell u) d i) s))); tables = λ q. cc; marks = λ q. cc }
      go true true true b ew ep et ea eb er =
          let s = et ∙ ap (paste t (i * layout.stride) (bytes l)) is in
          record {
            is =
                er
                ∙ sym (rw (ew, sym ep, sym (ea ∙ ap (λ (u : List ℕ). in_range (cell u) d i) s), sym (eb.is ∙ ap (λ (u : List ℕ). linked_by (cell u) N d i m n) s)));
            tables = λ q. s;
            marks = λ q. eb.marks (sound-linked b (sym er ∙ q)) ∙ ap (λ (u : List ℕ). marked_by (cell u) N d i) s;
          }

-- refusals 3 to 6, in this order; a line of the kind and length due stands in the tables before the last two are looked for
module _ (l : List ℕ) (d : Due) (t N : List ℕ) (i m n : ℕ) where
  pub taken-malformed : frame_length l ≡ 0 → Taken (Some Malformed) l d t t N N i m n
  unfolding line_fault well_formed
  taken-malformed e = record { is = sym (rw e); tables = λ q. cc; marks = λ q. cc }

  module _ (some : frame_length l ≡ 0 → ⊥) where
    formed : ltb 0 (frame_length l) ≡ true
    formed = lt-ltb 0 (frame_length l) (omega arith)

    pub taken-misplaced : placed d l ≡ false → Taken (Some Misplaced) l d t t N N i m n
    unfolding line_fault well_formed
    taken-misplaced e = record { is = sym (rw (formed, e)); tables = λ q. cc; marks = λ q. cc }

    module _ (due-here : placed d l ≡ true) (t' : List ℕ) (s : t' ≡ stored t i l) where
      pub taken-out-of-range : in_range (cell t') d i ≡ false → Taken (Some OutOfRange) l d t t' N N i m n
      unfolding line_fault fault_by well_formed
      taken-out-of-range e =
          record { is = sym (rw (formed, due-here, sym (ap (λ (u : List ℕ). in_range (cell u) d i) s) ∙ e)); tables = λ q. cc; marks = λ q. cc }

      module _ (ranged : in_range (cell t') d i ≡ true) (b : Bool) (N₁ : List ℕ) (links : Linked b (cell t') N N₁ d i m n) where
        is-ranged : in_range (cell (stored t i l)) d i ≡ true
        is-ranged = sym (ap (λ (u : List ℕ). in_range (cell u) d i) s) ∙ ranged

        is-linked : linked_by (cell (stored t i l)) N d i m n ≡ b
        is-linked = sym (links.is ∙ ap (λ (u : List ℕ). linked_by (cell u) N d i m n) s)

        pub taken-unlinked : b ≡ false → Taken (Some Unlinked) l d t t' N N₁ i m n
        unfolding line_fault fault_by well_formed
        taken-unlinked e = record { is = sym (rw (formed, due-here, is-ranged, is-linked ∙ e)); tables = λ q. cc; marks = λ q. cc }

        pub taken-sound : b ≡ true → Taken None l d t t' N N₁ i m n
        unfolding line_fault fault_by well_formed
        taken-sound e =
            record {
              is = sym (rw (formed, due-here, is-ranged, is-linked ∙ e));
              tables = λ q. s;
              marks = λ q. links.marks e ∙ ap (λ (u : List ℕ). marked_by (cell u) N d i) s;
            }

-- the next node
pub next-over : (f : Frames) (s : Stand) → s.number + 1 ≡ node_count f s.method → ◌≡◌ {A = Stand} (record { method = s.method + 1; number = 0 }) (next_node f s)
next-over f s e = rw (eq-eqb (s.number + 1) (node_count f s.method) e)

pub next-on : (f : Frames) (s : Stand) → (s.number + 1 ≡ node_count f s.method → ⊥) → ◌≡◌ {A = Stand} (record { method = s.method; number = s.number + 1 }) (next_node f s)
next-on f s e = rw (ne_eqb (s.number + 1) (node_count f s.method) e)

-- a line that is of the length due fits the tables' stride
length_most : (d : Due) → length_of d ≤ layout.stride
length_most Header = omega arith
length_most Field = omega arith
length_most Method = omega arith
length_most Node = omega arith
length_most End = omega arith

pub placed-long : (d : Due) (l : List ℕ) → placed d l ≡ true → frame_length l ≡ length_of d
unfolding placed
placed-long d l e = eqb-true (frame_length l) (length_of d) (and_left (eqb (frame_length l) (length_of d)) (eqb (get_or (bytes l) 0 0) (kind_of d)) e)

pub placed-short : (d : Due) (l : List ℕ) → placed d l ≡ true → frame_length l ≤ layout.stride
placed-short d l e = omega (arith, placed-long d l e, length_most d)

-- the bytes of a line that are kept fit
pub kept-fits : (d : Due) (l : List ℕ) (p : Bool) (len r : ℕ) → len ≡ frame_length l → p ≡ placed d l → r ≡ cond p len 0 → (r ≤ frame_length l) × (r ≤ layout.stride)
kept-fits d l true len r is e h = (omega arith, omega (arith, placed-short d l (sym e)))
kept-fits d l false len r is e h = (omega arith, omega arith)

-- what a line comes to, test by test
pub ruleset four_tests = (taken-malformed, taken-misplaced, taken-out-of-range, taken-unlinked, taken-sound, placed-short)
