-- One text: how reading starts, goes on and ends.
-- Assumes nothing.
use Rattle.std.specs.Prelude.{ℕ, zero, suc, ◌+◌, ◌-◌, ◌*◌, ◌/◌, ◌%◌, ◌≤◌, ◌<◌, ◌≡◌, refl, Bool, true, false, cond, ◌&&◌, eqb, ltb, take, Option, Some, None}
use Rattle.std.proofs.Common.{zero-le, ◌∙◌, le_refl, not-suc-le-zero, add-one, drop_of_length-le, le-ltb}
use Rattle.std.proofs.Math.Path.{ap, sym}
use mathlib.Core.List.{List, []}
use native.Mathlib.Omega.{arith}
use Rattle.std.proofs.Math.ListN.{length, get_or, drop, length-drop}
use Rattle.std.proofs.Math.Seq.{ext_get_or}
use Rattle.lines.specs.Laws.Lines.{line_at}
use Rattle.frames.specs.Layout.{layout, tables_length}
use Rattle.lines.specs.Lines.{lines, line_length, frame_length, well_formed}
use Rattle.frames.specs.Frames.{frames_of, due, placed}
use Rattle.frames.specs.Links.{nodes_before}
use Rattle.frames.specs.Laws.Sound.{sound-passes, header-sound, sound_more}
use Rattle.frames.specs.Laws.Steps.{placed-short}
use Rattle.frames.specs.Laws.Tables.{cell_in}
use Rattle.frames.specs.Tables.{cell, table_of}
use Rattle.frames.specs.Reading.{fault_of, fault_at, read_one, read_from, Stop, on_due, on_fault, ended, refusal_of}
use Rattle.lines.specs.Laws.Places.{past-line-at, past-line-line}
use Rattle.frames.specs.Code.Marks.{marked_by}
use Rattle.frames.specs.Code.Steps.{stored, next_stand, first_frames, Going, Taken, OneWhole, OneRefused}
use Rattle.frames.specs.Laws.Going.{going_on, standing-next, none_named, going-is, going-open, going-low, going-fault, line-holds, line_same}
use Rattle.frames.specs.declared.Due.{Due}
use Rattle.frames.specs.declared.Due.TheVariants.{Header, Field, Method, Node, End}
use Rattle.frames.specs.declared.Fault.{Fault}
use Rattle.frames.specs.declared.Fault.TheVariants.{Misplaced}
use Rattle.frames.specs.declared.Stand.{Stand}
use Rattle.lines.specs.declared.Place.{Place}
use Rattle.counting.specs.Counting.{zeros, tabulate}
use Rattle.frames.specs.Laws.Stored.{stored-length}
use Rattle.counting.specs.Laws.Lists.{length-zeros, get_or-zeros, length-tabulate, get_or-tabulate}
use Rattle.lines.specs.Places.{past_line}
use Rattle.frames.specs.declared.Refusal.{Refusal}

-- reading on, by what is due and the fault
on-due : (d : Due) (i : ℕ) (r : Stop) → (d ≡ End → ⊥) → on_due d i r ≡ r
on-due Header i r h = refl
on-due Field i r h = refl
on-due Method i r h = refl
on-due Node i r h = refl
on-due End i r h = absurd (h refl)

ended-early : (d : Due) → (d ≡ End → ⊥) → ended d ≡ Some Misplaced
ended-early Header h = refl
ended-early Field h = refl
ended-early Method h = refl
ended-early Node h = refl
ended-early End h = absurd (h refl)

from_end : (ls : List (List ℕ)) (i n : ℕ) → due (frames_of ls) i ≡ End → read_from ls i n ≡ record { fault = None; before = i }
unfolding read_from
from_end ls i zero e = ap (λ (d : Due). record { fault = ended d; before = i }) e
from_end ls i (suc n) e = ap (λ (d : Due). on_due d i (on_fault (fault_at ls i) i (read_from ls (suc i) n))) e

module _ {text : List ℕ} {ls : List (List ℕ)} {t N : List ℕ} {at line i : ℕ} {s : Stand} (go : Going text ls t N at line i s) where
  -- the end is due
  pub one-whole : due (frames_of ls) i ≡ End → read_one ls ≡ record { fault = None; before = i }
  one-whole e = go.same (length ls - i) (omega (arith, go.inside)) ∙ from_end ls i (length ls - i) e

  -- the text is at its end, and a frame is due
  pub one-short : (due (frames_of ls) i ≡ End → ⊥) → length text ≤ at → read_one ls ≡ record { fault = Some Misplaced; before = i }
  unfolding read_from lines
  one-short h o =
      let e : drop i ls ≡ [] = sym go.rest ∙ ap lines (drop_of_length-le text o) in
      go.same 0 (omega (arith, go.inside, length-drop i ls, ap length e))
      ∙ ap (λ (x : Option Fault). record { fault = x; before = i }) (ended-early (due (frames_of ls) i) h)

  -- the line has a fault
  pub one-stops : (due (frames_of ls) i ≡ End → ⊥) → at < length text → (x : Fault) → fault_at ls i ≡ Some x
      → read_one ls ≡ record { fault = Some x; before = i }
  unfolding read_from
  one-stops h l x e =
      let n = length ls - (i + 1) in
      let r = read_from ls (suc i) n in
      let w = line_at text ls at i l go.rest in
      go.same (suc n) (omega (arith, w.inside))
      ∙ (on-due (due (frames_of ls) i) i (on_fault (fault_at ls i) i r) h
      ∙ ap (λ (y : Option Fault). on_fault y i r) e)

  -- the line is sound: what the reader carries holds again
  pub one-goes-on : (l : List ℕ) → l ≡ get_or ls i [] → (d : Due) → due (frames_of ls) i ≡ d → (d ≡ End → ⊥) → fault_at ls i ≡ None
      → (at' line' : ℕ) → lines (drop at' text) ≡ drop (i + 1) ls → i + 1 ≤ length ls → line' ≡ line + 1
      → (t' : List ℕ) → t' ≡ stored t i l → (s' : Stand) → s' ≡ next_stand (cell t') d s → (N' : List ℕ) → N' ≡ going_on (cell t') N d i s'
      → Going text ls t' N' at' line' (i + 1) s'
  unfolding fault_at read_from
  one-goes-on l its d is more sound at' line' rest inside counted t' et s' es N' en =
      let f = frames_of ls in
      let p = sound-passes f d i (get_or ls i []) (ap (λ (x : Due). fault_of f x i (get_or ls i [])) (sym is) ∙ sound) in
      let w = ap well_formed its ∙ p.formed in
      let q = ap (placed d) its ∙ p.is_placed in
      let low = going-low go (λ e. more (sym is ∙ e)) in
      let st = standing-next go (cell t') (λ j h. ap (λ (u : List ℕ). cell u j) et ∙ line_same go l its d is more w q j h) d is more s' es in
      record {
        wide = ap length et ∙ (stored-length t l (i * layout.stride) (frame_length l) (frame_length l) (le_refl (frame_length l)) (omega (arith, go.wide, placed-short d l q)) (le_refl (frame_length l)) ∙ go.wide);
        holds = λ j b. ap (λ (u : List ℕ). cell u j b) et ∙ (line-holds go l its d is more w q j b ∙ ap (λ (k : ℕ). first_frames k f j b) (sym (add-one i)));
        rest = rest;
        inside = inside;
        counted = omega (arith, counted, go.counted);
        clean = λ j h. sound_more ls i go.clean sound j (omega arith);
        same = λ n h.
            go.same (suc n) (omega arith)
            ∙ (on-due (due f i) i (on_fault (fault_at ls i) i (read_from ls (suc i) n)) (λ e. more (sym is ∙ e))
            ∙ (ap (λ (y : Option Fault). on_fault y i (read_from ls (suc i) n)) sound ∙ ap (λ (k : ℕ). read_from ls k n) (sym (add-one i))));
        stands = st.stands;
        within = st.within;
        owned = st.owned;
        named = en ∙ st.named;
      }

  -- the tables hold the frames read so far, and nothing else
  pub one_table_lem : t ≡ table_of (first_frames i (frames_of ls))
  unfolding table_of
  one_table_lem =
      ext_get_or 0 t (tabulate tables_length (λ p. first_frames i (frames_of ls) (p / layout.stride) (p % layout.stride)))
      (go.wide ∙ sym (length-tabulate tables_length (λ p. first_frames i (frames_of ls) (p / layout.stride) (p % layout.stride))))
      (λ p h.
      let l : p < tables_length = omega (arith, go.wide) in
      let a : p / layout.stride < layout.most_frames = omega arith in
      let b : p % layout.stride < layout.stride = omega arith in
      let e : p ≡ p / layout.stride * layout.stride + p % layout.stride = omega arith in
      ap (λ (k : ℕ). get_or t k 0) e
      ∙ (sym (cell_in t (p / layout.stride) (p % layout.stride) a b)
      ∙ (go.holds (p / layout.stride) (p % layout.stride) ∙ sym (get_or-tabulate tables_length (λ p. first_frames i (frames_of ls) (p / layout.stride) (p % layout.stride)) p 0 l))))

-- tables with nothing in them
cell-zeros : (n j b : ℕ) → cell (zeros n) j b ≡ 0
unfolding cell
cell-zeros n j b = go (ltb j layout.most_frames && ltb b layout.stride)
  where
    go : (x : Bool) → cond x (get_or (zeros n) (j * layout.stride + b) 0) 0 ≡ 0
    go true = get_or-zeros n (j * layout.stride + b)
    go false = refl

pub one-starts : (text : List ℕ) (start : ℕ) (t N : List ℕ) → t ≡ zeros tables_length → N ≡ zeros layout.most_nodes
    → Going text (lines (drop start text)) t N start 1 0 (record { method = 0; number = 0 })
unfolding first_frames read_one nodes_before
one-starts text start t N et en =
    let ls = lines (drop start text) in
    record {
      wide = ap length et ∙ length-zeros tables_length;
      holds = λ j b. ap (λ (u : List ℕ). cell u j b) et ∙ (cell-zeros tables_length j b ∙ sym (rw (le-ltb j 0 zero-le)));
      rest = refl;
      inside = zero-le;
      counted = refl;
      clean = λ j h. absurd (not-suc-le-zero h);
      same = λ n h. let e : n ≡ length ls = omega arith in ap (read_from ls 0) (sym e);
      stands = omega arith;
      within = zero-le;
      owned = zero-le;
      named = en ∙ none_named (frames_of ls) 0;
    }

-- what one text comes to
pub one-refused : {ls : List (List ℕ)} (x : Fault) (i : ℕ) (r : Refusal) → read_one ls ≡ record { fault = Some x; before = i } → r ≡ refusal_of x i → OneRefused ls r
one-refused x i r e o =
    record {
      fault = x;
      found = ap (λ (q : Stop). q.fault) e;
      refusal = o ∙ sym (ap (λ (q : Stop). refusal_of x q.before) e);
    }

pub one-read-whole : {text : List ℕ} {ls : List (List ℕ)} {t N : List ℕ} {at line i : ℕ} {s : Stand} → Going text ls t N at line i s
    → due (frames_of ls) i ≡ End
    → OneWhole text ls (record { tables = record { bytes = t }; after = record { at = at; line = line } })
one-read-whole {text} {ls} {t} {N} {at} {line} {i} {s} go e =
    let w = one-whole go e in
    record {
      sound = ap (λ (q : Stop). q.fault) w;
      table = one_table_lem go ∙ sym (ap (λ (q : Stop). table_of (first_frames q.before (frames_of ls))) w);
      rest = go.rest ∙ sym (ap (λ (q : Stop). drop q.before ls) w);
      line = go.counted ∙ sym (ap (λ (q : Stop). q.before + 1) w);
    }

-- the place after the line that is read
pub record NextAt (text : List ℕ) (p next : Place) : Type 0 where
  pub is : next.at ≡ p.at + line_length (drop p.at text)
  pub low : p.at + 1 ≤ next.at
  pub from : p.at ≤ next.at
  pub high : next.at ≤ length text
  pub line : next.line ≡ p.line + 1

pub next-at : {text : List ℕ} {ls : List (List ℕ)} {t N : List ℕ} {i : ℕ} {s : Stand} (p next : Place) → Going text ls t N p.at p.line i s
    → (due (frames_of ls) i ≡ End → ⊥) → p.at < length text → next ≡ past_line text p → NextAt text p next
next-at {text} {ls} {t} {N} {i} {s} p next go h l e =
    let w = line_at text ls p.at i l go.rest in
    let a : next.at ≡ p.at + line_length (drop p.at text) = ap (λ (q : Place). q.at) e ∙ past-line-at text p l in
    record {
      is = a;
      low = omega (arith, w.least);
      from = omega (arith, w.least);
      high = omega (arith, w.most);
      line = ap (λ (q : Place). q.line) e ∙ past-line-line text p l (omega (arith, go.counted, going-low go h));
    }

-- the part of the text that is lent as the line
pub lent-line : (text : List ℕ) (ls : List (List ℕ)) (p next : Place) (i : ℕ) → p.at < length text → lines (drop p.at text) ≡ drop i ls
    → NextAt text p next → take (next.at - p.at) (drop p.at text) ≡ get_or ls i []
lent-line text ls p next i l e n =
    let k : next.at - p.at ≡ line_length (drop p.at text) = omega (arith, n.is) in
    ap (λ (m : ℕ). take m (drop p.at text)) k ∙ (line_at text ls p.at i l e).its

pub next-rest : (text : List ℕ) (ls : List (List ℕ)) (p next : Place) (i : ℕ) → p.at < length text → lines (drop p.at text) ≡ drop i ls
    → NextAt text p next → lines (drop next.at text) ≡ drop (i + 1) ls
next-rest text ls p next i l e n = ap (λ (m : ℕ). lines (drop m text)) n.is ∙ (line_at text ls p.at i l e).rest

-- a sound line makes the header's numbers known
pub going-method : {text : List ℕ} {ls : List (List ℕ)} {t N : List ℕ} {at line i : ℕ} {s : Stand} → Going text ls t N at line i s
    → fault_at ls i ≡ None → s.method ≤ layout.most_methods
going-method {text} {ls} {t} {N} {at} {line} {i} {s} go sound =
    omega (arith, go.owned, (header-sound ls (suc i) (sound_more ls i go.clean sound) (omega arith)).methods_high)

-- one turn of the reader: a frame is due, and a line is left
module _ {text : List ℕ} {ls : List (List ℕ)} {t N : List ℕ} {s : Stand} {d : Due} (p : Place) (go : Going text ls t N p.at p.line (p.line - 1) s)
    (found : d ≡ due (cell t) (p.line - 1)) (more : d ≡ End → ⊥) where
  pub turn-open : due (frames_of ls) (p.line - 1) ≡ End → ⊥
  turn-open = going-open go d found more

  module _ {next : Place} (l : p.at < length text) (e : next ≡ past_line text p) where
    pub turn-next : NextAt text p next
    turn-next = next-at p next go turn-open l e

    turn-line : take (next.at - p.at) (drop p.at text) ≡ get_or ls (p.line - 1) []
    turn-line = lent-line text ls p next (p.line - 1) l go.rest turn-next

    module _ {r : Option Fault} {t' N₁ : List ℕ} (took : Taken r (take (next.at - p.at) (drop p.at text)) d t t' N N₁ (p.line - 1) s.method s.number) where
      -- what the line comes to is its fault
      pub turn-fault : r ≡ fault_at ls (p.line - 1)
      turn-fault = took.is ∙ going-fault go _ turn-line d (going-is go d found) more

      -- without one, what the reader carries holds again
      pub turn-goes-on : r ≡ None → (s' : Stand) → s' ≡ next_stand (cell t') d s → (N' : List ℕ) → N' ≡ cond (eqb s'.number 0) (zeros layout.most_nodes) N₁
          → Going text ls t' N' next.at next.line (next.line - 1) s'
      turn-goes-on ok s' es N' en =
          let i = p.line - 1 in
          let w = line_at text ls p.at i l go.rest in
          let tb = took.tables ok in
          let counted : next.line - 1 ≡ i + 1 = omega (arith, go.counted, turn-next.line) in
          let marks = took.marks ok ∙ ap (λ (u : List ℕ). marked_by (cell u) N d i) (sym tb) in
          rw counted (one-goes-on go _ turn-line d (going-is go d found) more (sym turn-fault ∙ ok) _ _ (next-rest text ls p next i l go.rest turn-next) w.inside turn-next.line
          _ tb s' es N' (en ∙ ap (λ (x : List ℕ). cond (eqb s'.number 0) (zeros layout.most_nodes) x) marks))
