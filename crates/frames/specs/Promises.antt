-- What reading a text promises, in full: it reads exactly the texts without a fault, its tables stand for their program, which is well
-- formed, and a refusal names the first line with a fault and the lowest number there.
-- Assumes nothing.
use Rattle.std.specs.Prelude.{ℕ, ◌+◌, ◌-◌, ◌*◌, ◌/◌, ◌%◌, ◌≤◌, ◌<◌, ◌≡◌, refl, List, [], ◌⊎◌, length, get_or, Option, Some, None, Result, Ok, Err}
use Rattle.std.proofs.Common.{ap, sym, ◌∙◌, inl, inr, ⊎_elim, arith, ltb-true}
use Rattle.std.proofs.Math.Path.{fun_ext, subst⁻¹}
use Rattle.std.proofs.Math.ListN.{get_or-eq_default}
use Rattle.frames.specs.Layout.{layout, tables_length}
use Rattle.lines.specs.Lines.{lines, bytes, frame_length, well_formed}
use Rattle.lines.specs.Laws.Lines.{frame-length-some, frame-length-good}
use Rattle.frames.specs.Frames.{Frames, frames_of, due}
use Rattle.frames.specs.Tables.{cell, table_of, program_of}
use Rattle.frames.specs.Laws.Tables.{cell_in, cell-past-frame, cell-past-byte}
use Rattle.frames.specs.Reading.{fault_at, read_all, refusal_of, checked, checked_lines, read_text}
use Rattle.frames.specs.FirstFault.{Lowest, First, Faultless}
use Rattle.frames.specs.Laws.Sound.{passes_at, header-sound, not-over}
use Rattle.frames.specs.Laws.Steps.{placed-short}
use Rattle.frames.specs.Laws.WholeText.{fault-refusal, text-lines, read-long}
use Rattle.frames.specs.Laws.Going.{which}
use Rattle.frames.specs.WellFormed.{WellFormed}
use Rattle.frames.specs.Laws.WellFormed.{well-formed}
use Rattle.frames.specs.declared.Tables.{Tables}
use Rattle.frames.specs.declared.Due.TheVariants.{End}
use Rattle.frames.specs.declared.Refusal.{Refusal}
use Rattle.frames.specs.declared.Fault.{Fault}
use Rattle.frames.specs.declared.Fault.TheVariants.{Malformed, Misplaced, OutOfRange, Unlinked}
use Rattle.counting.specs.Laws.Tests.{lt-or-le}
use Rattle.counting.specs.Laws.Lists.{get_or-tabulate}
use Rattle.frames.specs.Laws.FirstFault.{lowest, Stops, stops, exactly, exactly-read}

-- ---- the fault and the lines before it, from what reading comes to

abbrev fault_in : Refusal → Option Fault
fault_in Refusal.Overlong = None
fault_in (Refusal.Malformed l) = Some Malformed
fault_in (Refusal.Misplaced l) = Some Misplaced
fault_in (Refusal.OutOfRange l) = Some OutOfRange
fault_in (Refusal.Unlinked l) = Some Unlinked

abbrev before_in : Refusal → ℕ
before_in Refusal.Overlong = 0
before_in (Refusal.Malformed l) = l - 1
before_in (Refusal.Misplaced l) = l - 1
before_in (Refusal.OutOfRange l) = l - 1
before_in (Refusal.Unlinked l) = l - 1

fault-in : (x : Fault) (i : ℕ) → fault_in (refusal_of x i) ≡ Some x
fault-in Malformed i = refl
fault-in Misplaced i = refl
fault-in OutOfRange i = refl
fault-in Unlinked i = refl

before-in : (x : Fault) (i : ℕ) → before_in (refusal_of x i) ≡ i
before-in Malformed i = omega arith
before-in Misplaced i = omega arith
before-in OutOfRange i = omega arith
before-in Unlinked i = omega arith

-- two refusals of lines that are the same are of one fault and one line
same-refusal : (x y : Fault) (i j : ℕ) → refusal_of x i ≡ refusal_of y j → (x ≡ y) × (i ≡ j)
same-refusal x y i j e =
    let z : Some x ≡ Some y = sym (fault-in x i) ∙ (ap fault_in e ∙ fault-in y j) in
    (cc, sym (before-in x i) ∙ (ap before_in e ∙ before-in y j))

-- ---- a text that is too long

pub long-exactly : (t : List ℕ) → layout.most_text < length t → read_text t ≡ Err Refusal.Overlong
long-exactly = read-long

-- what a text comes to that is not
pub short-outcome : (t : List ℕ) → length t ≤ layout.most_text → read_text t ≡ checked (lines t) (read_all (lines t)).fault (read_all (lines t)).before
unfolding checked_lines
short-outcome = text-lines

-- nothing that lines come to is the refusal of a long text
not-long : (t : List ℕ) (o : Result Tables Refusal) → read_text t ≡ o → (Err Refusal.Overlong ≡ o → ⊥) → length t ≤ layout.most_text
not-long t o e h =
    ⊎_elim
    (λ (l : layout.most_text < length t). absurd (h (sym (read-long t l) ∙ e)))
    (λ (g : length t ≤ layout.most_text). g)
    (lt-or-le layout.most_text (length t))

-- ---- refusals 3 to 6

pub refused : (t : List ℕ) (x : Fault) (i : ℕ) → read_text t ≡ Err (refusal_of x i) → (length t ≤ layout.most_text) × First (lines t) x i
refused t x i e =
    let s = not-long t (Err (refusal_of x i)) e (λ q. let z : Refusal.Overlong ≡ refusal_of x i = cc in
    let y : None ≡ Some x = ap fault_in z ∙ fault-in x i in
    let n : ◌≡◌ {A = ℕ} 0 1 = cc in
    omega arith) in
    (s, first (read_all (lines t)).fault (read_all (lines t)).before (sym (short-outcome t s) ∙ e) (stops (lines t)))
  where
    first : (y : Option Fault) (j : ℕ) → checked (lines t) y j ≡ Err (refusal_of x i) → Stops (lines t) y j → First (lines t) x i
    first None j q v = absurd (let z : ◌≡◌ {A = ℕ} 0 1 = cc in omega arith)
    first (Some y) j q v =
        let p : refusal_of y j ≡ refusal_of x i = cc in
        let r = same-refusal y x j i p in
        rw (r.0, r.1) at v

pub refused-exactly : (t : List ℕ) (x : Fault) (i : ℕ) → length t ≤ layout.most_text → First (lines t) x i → read_text t ≡ Err (refusal_of x i)
refused-exactly t x i s a =
    let e = exactly (lines t) x i a in
    text-lines t s ∙ fault-refusal (lines t) x i (λ k. record { fault = e.0 k; before = e.1 k })

-- no lower number applies in the named line
pub first-lowest : (ls : List (List ℕ)) (x : Option Fault) (i : ℕ) → fault_at ls i ≡ x → Lowest (frames_of ls) (due (frames_of ls) i) i (get_or ls i []) x
unfolding fault_at
first-lowest ls x i e = rw e at (lowest (frames_of ls) (due (frames_of ls) i) i (get_or ls i []))

-- ---- a text that reads

whole-stops : (ls : List (List ℕ)) (x : Option Fault) (i : ℕ) (T : Tables) → checked ls x i ≡ Ok T → Stops ls x i → Faultless ls
whole-stops ls None i T e v = v
whole-stops ls (Some x) i T e v = absurd (let z : ◌≡◌ {A = ℕ} 0 1 = cc in omega arith)

pub read-faultless : (t : List ℕ) (T : Tables) → read_text t ≡ Ok T → (length t ≤ layout.most_text) × Faultless (lines t)
read-faultless t T e =
    let s = not-long t (Ok T) e (λ q. let z : ◌≡◌ {A = ℕ} 0 1 = cc in omega arith) in
    (s, whole-stops (lines t) (read_all (lines t)).fault (read_all (lines t)).before T (sym (short-outcome t s) ∙ e) (stops (lines t)))

pub read-exactly : (t : List ℕ) → length t ≤ layout.most_text → Faultless (lines t)
    → read_text t ≡ Ok (record { bytes = table_of (frames_of (lines t)) })
unfolding checked_lines
read-exactly t s b =
    text-lines t s ∙ ap (λ (x : Option Fault). checked (lines t) x (read_all (lines t)).before) (exactly-read (lines t) b)

-- the tables hold the frames of the text, each of them and nothing else
table-frames : (ls : List (List ℕ)) → Faultless ls → cell (table_of (frames_of ls)) ≡ frames_of ls
unfolding table_of frames_of bytes well_formed
table-frames ls ok = fun_ext (λ j. fun_ext (λ b. at j b (lt-or-le j (length ls)) (lt-or-le b layout.stride)))
  where
    g : Frames
    g = frames_of ls

    pos : 0 < length ls
    pos = (which g (length ls) End ok.ends).0

    few : length ls ≤ layout.most_frames
    few =
        let h = header-sound ls (length ls) ok.sound pos in
        omega (arith, not-over ls (length ls) ok.sound pos, h.methods_high, h.fields_high, h.nodes_high)

    none : (j b : ℕ) → length ls ≤ j → g j b ≡ 0
    none j b h = rw (get_or-eq_default ls [] {n = j} h)

    past : (j b : ℕ) → j < length ls → layout.stride ≤ b → g j b ≡ 0
    past j b h l =
        let p = passes_at ls (length ls) ok.sound j (due g j) h refl in
        let w = frame-length-good (get_or ls j []) (frame-length-some (get_or ls j []) 0 (ltb-true 0 (frame_length (get_or ls j [])) p.formed)) in
        get_or-eq_default (bytes (get_or ls j [])) 0 (omega (arith, w, placed-short (due g j) (get_or ls j []) p.is_placed))

    held : (j b : ℕ) → j < layout.most_frames → b < layout.stride → cell (table_of g) j b ≡ g j b
    held j b h l =
        let p = j * layout.stride + b in
        let c : p / layout.stride ≡ j = omega arith in
        let d : p % layout.stride ≡ b = omega arith in
        cell_in (table_of g) j b h l
        ∙ (get_or-tabulate tables_length (λ p. g (p / layout.stride) (p % layout.stride)) p 0 (omega arith) ∙ (ap (λ (k : ℕ). g k (p % layout.stride)) c ∙ ap (g j) d))

    at : (j b : ℕ) → (j < length ls) ⊎ (length ls ≤ j) → (b < layout.stride) ⊎ (layout.stride ≤ b) → cell (table_of g) j b ≡ g j b
    at j b (inl h) (inl l) = held j b (omega (arith, few)) l
    at j b (inl h) (inr l) = cell-past-byte (table_of g) j b l ∙ sym (past j b h l)
    at j b (inr h) (inr l) = cell-past-byte (table_of g) j b l ∙ sym (none j b h)
    at j b (inr h) (inl l) =
        ⊎_elim
        (λ (k : j < layout.most_frames). held j b k l)
        (λ (k : layout.most_frames ≤ j). cell-past-frame (table_of g) j b k ∙ sym (none j b h))
        (lt-or-le j layout.most_frames)

-- the tables of a text that reads stand for its program
pub tables-stand : (t : List ℕ) (T : Tables) → read_text t ≡ Ok T → cell T.bytes ≡ frames_of (lines t)
tables-stand t T e =
    let f = read-faultless t T e in
    let z : T ≡ record { bytes = table_of (frames_of (lines t)) } = ok-same (sym e ∙ read-exactly t f.0 f.1) in
    ap (λ (u : Tables). cell u.bytes) z ∙ table-frames (lines t) f.1
  where
    ok-same : {x y : Tables} → ◌≡◌ {A = Result Tables Refusal} (Ok x) (Ok y) → x ≡ y
    ok-same p = cc

-- and that program is well formed
pub read-well-formed : (t : List ℕ) (T : Tables) → read_text t ≡ Ok T → WellFormed (program_of (cell T.bytes))
read-well-formed t T e = subst⁻¹ (λ (f : Frames). WellFormed (program_of f)) (tables-stand t T e) (well-formed (lines t) (read-faultless t T e).1)
