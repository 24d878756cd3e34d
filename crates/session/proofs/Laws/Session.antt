-- Laws of the session's lines, for tables that stand for a well-formed program.
-- Assumes nothing.
use Prim.Native.Nat.{ℕ, zero, suc, ◌+◌, ◌*◌, ◌^◌, ◌≤◌, ◌<◌, min}
use Rattle.std.specs.Prelude.{◌≡◌, refl, List, [], ◌∷◌, ◌++◌, length, take, drop, replicate, Result, Ok, Err}
use Rattle.std.proofs.Common.{ap, sym, ◌∙◌, arith, length-append, add-one, pow_mono}
use Rattle.std.proofs.Math.ListN.{length-drop}
use Rattle.std.proofs.Math.Seq.{length-take-le}
use Rattle.frames.specs.Layout.{layout, answer_length}
use Rattle.frames.specs.Program.{Program, Method, method_at}
use Rattle.frames.specs.Tables.{cell, method_of, program_of}
use Rattle.frames.specs.WellFormed.{WellFormed}
use Rattle.frames.specs.Reading.{read_text}
use Rattle.frames.specs.Promises.{tables-stand, read-well-formed}
use Rattle.frames.specs.declared.Tables.{Tables}
use Rattle.frames.specs.declared.Refusal.{Refusal as TextRefusal}
use Rattle.meaning.specs.Lowest.{method_count}
use Rattle.meaning.specs.Constraints.{Answer, accepted, refused, answer}
use Rattle.checker.specs.Grading.{Verdict, program_read, accepted_with, by_answer, by_reading, verdict_of, answer_of}
use Rattle.frames.specs.Laws.Program.{method-is, methods-length}
use Rattle.session.specs.Writing.{line_of, high, low}
use Rattle.session.proofs.Laws.Writing.{length-line}
use Rattle.session.specs.Session.{longest_method, answer_frame, grades_of, method_frame, method_lines, session_by, session_of}

pub method-at : (t : List ℕ) (m : ℕ) → m < length (program_of (cell t)).methods → method_of (cell t) m ≡ method_at (program_of (cell t)) m
method-at t m l = sym (method-is (cell t) m (omega (arith, methods-length (cell t))))

module _ (t answer : List ℕ) (m : ℕ) (w : WellFormed (program_of (cell t))) (l : m < length (program_of (cell t)).methods) (long : length answer ≡ answer_length) where
  pub names : (method_of (cell t) m).k ≡ (method_at (program_of (cell t)) m).k
  names = ap (λ (M : Method). M.k) (method-at t m l)

  pub few-entries : 2 ^ (method_at (program_of (cell t)) m).k ≤ layout.grades
  few-entries = pow_mono (w.methods m l).names

  pub grades-length : length (grades_of answer m (method_at (program_of (cell t)) m).k) ≡ 2 ^ (method_at (program_of (cell t)) m).k
  unfolding grades_of
  grades-length = length-take-le _ (drop (layout.grades * m) answer) (omega (arith, few-entries, length-drop (layout.grades * m) answer, w.few_methods))

  pub frame-short : length (method_frame answer m (method_at (program_of (cell t)) m).k) ≤ 19
  unfolding method_frame
  frame-short = omega (arith, few-entries, grades-length)

  -- the frame from the bytes that the code puts together
  pub frame-parts : (k n m₁ k₁ : ℕ) → k ≡ (method_of (cell t) m).k → n ≡ min (2 ^ k) layout.grades → m₁ ≡ low m → k₁ ≡ low k
      → (0x11 ∷ m₁ ∷ k₁ ∷ []) ++ take n (drop (layout.grades * m) answer) ≡ method_frame answer m (method_at (program_of (cell t)) m).k
  unfolding method_frame grades_of
  frame-parts k n m₁ k₁ ek en em e₁ =
      let e : k ≡ (method_at (program_of (cell t)) m).k = ek ∙ names in
      let count : n ≡ 2 ^ (method_at (program_of (cell t)) m).k = en ∙ (ap (λ (j : ℕ). min (2 ^ j) layout.grades) e ∙ omega (arith, few-entries)) in
      let number : m₁ ≡ m = omega (arith, w.few_methods) in
      let own : k₁ ≡ (method_at (program_of (cell t)) m).k = omega (arith, (w.methods m l).names) in
      rw (count, number, own)

pub lines-short : (t answer : List ℕ) → WellFormed (program_of (cell t)) → length answer ≡ answer_length → (n : ℕ) → n ≤ length (program_of (cell t)).methods
    → length (method_lines (program_of (cell t)) answer n) ≤ longest_method * n
unfolding method_lines
lines-short t answer w long zero h = omega arith
lines-short t answer w long (suc n) h =
    let p = program_of (cell t) in
    let frame = method_frame answer n (method_at p n).k in
    omega (arith, lines-short t answer w long n (omega arith), length-append (method_lines p answer n) (line_of frame), length-line frame, frame-short t answer n w (omega arith) long)

pub lines_more : (p : Program) (answer : List ℕ) (m : ℕ)
    → method_lines p answer (m + 1) ≡ method_lines p answer m ++ line_of (method_frame answer m (method_at p m).k)
unfolding method_lines
lines_more p answer m = rw (add-one m)

-- the answer's frame from the bytes that the code puts together
pub answer-bytes : (methods rounds m₁ h₁ l₁ : ℕ) → methods < 256 → m₁ ≡ low methods → h₁ ≡ high rounds → l₁ ≡ low rounds
    → (0x10 ∷ m₁ ∷ h₁ ∷ l₁ ∷ []) ≡ answer_frame methods rounds
unfolding answer_frame
answer-bytes methods rounds m₁ h₁ l₁ small e₁ e₂ e₃ = let e : m₁ ≡ methods = omega arith in rw (e, e₂, e₃)

pub answer-length : (methods rounds : ℕ) → length (line_of (answer_frame methods rounds)) ≡ 9
unfolding answer_frame
answer-length methods rounds = length-line (answer_frame methods rounds)

-- ---- a text that is accepted

methods_in : Verdict → ℕ
methods_in (Ok a) = a.methods
methods_in (Err refusal) = 0

accepted-methods : (a : Answer) (n m rounds : ℕ) → by_answer a n ≡ accepted_with m rounds → m ≡ n
unfolding methods_in
accepted-methods (accepted r tables) n m rounds e = ap methods_in (sym e)
accepted-methods (refused method kind node set) n m rounds e = let z : ◌≡◌ {A = ℕ} 0 1 = cc in absurd (let f : ⊥ = omega arith in f)

accepted-reads : (o : Result Tables TextRefusal) (p : Program) (m rounds : ℕ) → by_reading o p ≡ accepted_with m rounds → ((T : Tables) × (o ≡ Ok T)) × (m ≡ method_count p)
accepted-reads (Ok T) p m rounds e = ((T, refl), accepted-methods (answer p) (method_count p) m rounds e)
accepted-reads (Err refusal) p m rounds e = absurd (let z : ◌≡◌ {A = ℕ} 0 1 = cc in omega arith)

pub accepted-whole : (text : List ℕ) (m rounds : ℕ) → verdict_of text answer_length ≡ accepted_with m rounds
    → ((T : Tables) × (read_text text ≡ Ok T)) × (m ≡ method_count (program_read text))
unfolding verdict_of
accepted-whole text m rounds e = accepted-reads (read_text text) (program_read text) m rounds e

-- the tables of such a text stand for its program, which is well formed
pub record Stands (text : List ℕ) (m : ℕ) (T : Tables) : Type 0 where
  pub formed : WellFormed (program_of (cell T.bytes))
  pub count : m ≡ length (program_of (cell T.bytes)).methods
  pub same : program_of (cell T.bytes) ≡ program_read text

pub stands : (text : List ℕ) (m rounds : ℕ) (T : Tables) → read_text text ≡ Ok T → verdict_of text answer_length ≡ accepted_with m rounds → Stands text m T
unfolding method_count
stands text m rounds T e v =
    let w = accepted-whole text m rounds v in
    let same : program_of (cell T.bytes) ≡ program_read text = ap program_of (tables-stand text T e) in
    record { formed = read-well-formed text T e; count = w.1 ∙ ap (λ (p : Program). length p.methods) (sym same); same = same }

-- by the verdict that was found
pub by-verdict : (text answer page : List ℕ) (verdict v : Verdict)
    → verdict ≡ verdict_of text answer_length → verdict ≡ v → answer ≡ answer_of text (replicate answer_length 0)
    → page ≡ session_by v (program_read text) answer → page ≡ session_of text
unfolding session_of
by-verdict text answer page verdict v found is same given =
    given
    ∙ (ap (λ (x : Verdict). session_by x (program_read text) answer) (sym is ∙ found)
    ∙ ap (session_by (verdict_of text answer_length) (program_read text)) same)
