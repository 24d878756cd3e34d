-- What is known of a text that reads.
-- Assumes nothing.
use Rattle.std.specs.Prelude.{ℕ, ◌≤◌, Bool, true, false, cond, List, [], ◌≡◌, T, leb, length, Ok, Err, Some, None, Result}
use Rattle.std.proofs.Common.{ap, sym, subst, ◌∙◌, refl, arith, leb→le}
use Rattle.frames.specs.Frames.{methods_in}
use Rattle.frames.specs.Tables.{cell}
use Rattle.meaning.specs.Lowest.{is_entry}
use Rattle.solver.specs.Room.{has_room}
use Rattle.solver.specs.declared.constraints.Broken as solver
use Rattle.checker.proofs.Laws.Room.{well-formed-room}
use Rattle.checker.proofs.Laws.Solved.{is-solved, accepted-verdict, broken-verdict}
use Rattle.solver.specs.Solved.{solution}
use Rattle.checker.specs.declared.Refusal.TheVariants as verdict
use Rattle.frames.specs.Layout.{answer_length}
use Rattle.frames.specs.Program.{Program}
use Rattle.frames.specs.Promises.{read-well-formed}
use Rattle.frames.specs.Reading.{read_text}
use Rattle.frames.specs.declared.Refusal as frames
use Rattle.frames.specs.declared.Tables.{Tables}
use Rattle.meaning.specs.Lowest.{method_count, rounds}
use Rattle.meaning.specs.Constraints.{answer}
use Rattle.solver.specs.Flat.{program_in}
use Rattle.solver.specs.Laws.Room.{room_fits}
use Rattle.solver.specs.Rises.{risen, risen_by, risen_in}
use Rattle.solver.specs.declared.rises.Risen.{Risen}
use Rattle.checker.proofs.Laws.Grading.{right-verdict, read-room, read-program}
use Rattle.checker.specs.Code.Steps.{solved_verdict}
use Rattle.checker.specs.Grading.{Verdict, accepted_with, program_read, by_answer, by_reading, verdict_of}
use Rattle.explainer.specs.declared.asked.Refusal.TheVariants.{Text, Broken, NoEntry, TooShort}
use Rattle.explainer.specs.declared.known.Known.{Known}
use Rattle.explainer.specs.Explain.{steps_of, reason_by, reason_by_verdict, reason_of}
use Rattle.explainer.specs.Broken.{about_method, chain_about, broken_by, broken_steps}
use Rattle.explainer.specs.Code.Known.{IsKnown}
use Rattle.explainer.specs.Code.Lower.{Read, Ready}

-- what two Some have is the same
some-same : {A : Type 0} {x y : A} → Some x ≡ Some y → x ≡ y
some-same e = cc

-- ---- what the solver finds

module _ (t : List ℕ) (read : Read t) where
  roomy : has_room t ≡ true
  roomy = well-formed-room t read.well_formed

  -- there is room for what reads
  pub some-room : risen_in t ≡ Some (risen t)
  unfolding risen_in
  some-room = ap (λ (b : Bool). risen_by b t) roomy

  module _ (r : Risen) (is : Some r ≡ risen_in t) where
    risen-whole : r ≡ risen t
    risen-whole = some-same (is ∙ some-room)

    pub solver-ready : Ready t r.rises
    solver-ready = record { read = read; rises = ap (λ (x : Risen). x.rises) risen-whole }

    pub solver-rounds : r.rounds ≡ rounds (program_in t)
    solver-rounds = ap (λ (x : Risen). x.rounds) risen-whole

    pub met-verdict : r.broken ≡ None → accepted_with (methods_in (cell t)) r.rounds ≡ solved_verdict t
    met-verdict e =
        ap (accepted_with (methods_in (cell t))) (ap (λ (x : Risen). x.rounds) risen-whole)
        ∙ accepted-verdict t roomy (solution t) (sym (is-solved t roomy)) (ap (λ (x : Risen). x.broken) (sym risen-whole) ∙ e) (methods_in (cell t)) refl

    pub broken-is : (b : solver.Broken) → r.broken ≡ Some b → Err (verdict.Broken b) ≡ solved_verdict t
    broken-is b e = broken-verdict t roomy (solution t) (sym (is-solved t roomy)) b (ap (λ (x : Risen). x.broken) (sym risen-whole) ∙ e)

    pub met-reason : r.broken ≡ None → (m H room : ℕ) → reason_by (program_in t) m H room ≡ reason_by_verdict (solved_verdict t) (program_in t) m H room
    met-reason e m H room = ap (λ (v : Verdict). reason_by_verdict v (program_in t) m H room) (met-verdict e)

    pub broken-reason : (b : solver.Broken) → r.broken ≡ Some b → (m H room : ℕ)
        → Err (Broken b) ≡ reason_by_verdict (solved_verdict t) (program_in t) m H room
    broken-reason b e m H room = ap (λ (v : Verdict). reason_by_verdict v (program_in t) m H room) (broken-is b e)

    pub met-steps : r.broken ≡ None → broken_by (solved_verdict t) (program_in t) ≡ []
    met-steps e = ap (λ (v : Verdict). broken_by v (program_in t)) (sym (met-verdict e))

    pub broken-steps : (b : solver.Broken) → r.broken ≡ Some b
        → chain_about (program_in t) (about_method (program_in t) b.method b.kind b.node) b.kind b.set ≡ broken_by (solved_verdict t) (program_in t)
    broken-steps b e = ap (λ (v : Verdict). broken_by v (program_in t)) (broken-is b e)

module _ (k : Known) (known : IsKnown k) where
  pub ready-known : Ready k.tables.bytes k.risen.rises
  ready-known = solver-ready k.tables.bytes known.read k.risen known.solved

  pub rounds-known : k.risen.rounds ≡ rounds (program_in k.tables.bytes)
  rounds-known = solver-rounds k.tables.bytes known.read k.risen known.solved

-- ---- of a text

-- what does not read comes to the same whatever the program, and breaks nothing
pub by-program : (o : Result Tables frames.Refusal) (p q : Program) (m H room : ℕ) → ((read : Tables) → o ≡ Ok read → p ≡ q)
    → reason_by_verdict (by_reading o p) p m H room ≡ reason_by_verdict (by_reading o q) q m H room
by-program (Ok read) p q m H room e = ap (λ (x : Program). reason_by_verdict (by_reading (Ok read) x) x m H room) (e read refl)
by-program (Err why) p q m H room e = refl

pub unread-broken : (o : Result Tables frames.Refusal) (p : Program) → ((read : Tables) → o ≡ Ok read → ⊥) → broken_by (by_reading o p) p ≡ []
unread-broken (Ok read) p h = absurd (h read refl)
unread-broken (Err why) p h = refl

module _ (text : List ℕ) (read : Tables) (e : read_text text ≡ Ok read) where
  pub read-tables : Read read.bytes
  read-tables = record { well_formed = read-well-formed text read e; fits = room_fits read.bytes (read-room text read e) }

  pub reason-read : (m H room : ℕ) → reason_by_verdict (solved_verdict read.bytes) (program_in read.bytes) m H room ≡ reason_of text m H room
  unfolding reason_of solved_verdict
  reason-read m H room =
      ap (λ (p : Program). reason_by_verdict (by_answer (answer p) (method_count p)) p m H room) (read-program text read e)
      ∙ ap (λ (v : Verdict). reason_by_verdict v (program_read text) m H room) (sym (right-verdict text answer_length (Ok read) refl e))

  pub broken-read : broken_by (solved_verdict read.bytes) (program_in read.bytes) ≡ broken_steps text
  unfolding broken_steps solved_verdict
  broken-read =
      ap (λ (p : Program). broken_by (by_answer (answer p) (method_count p)) p) (read-program text read e)
      ∙ ap (λ (v : Verdict). broken_by v (program_read text)) (sym (right-verdict text answer_length (Ok read) refl e))

module _ (text : List ℕ) (why : frames.Refusal) (e : read_text text ≡ Err why) where
  pub reason-refused : (m H room : ℕ) → Err (Text why) ≡ reason_of text m H room
  unfolding reason_of
  reason-refused m H room =
      ap (λ (v : Verdict). reason_by_verdict v (program_read text) m H room) (sym (right-verdict text answer_length (Err why) refl e))

  pub broken-refused : [] ≡ broken_steps text
  unfolding broken_steps
  broken-refused =
      ap (λ (v : Verdict). broken_by v (program_read text)) (sym (right-verdict text answer_length (Err why) refl e))

-- ---- a reason that is explained has that many steps, for which there is room

pub record Whole (p : Program) (m H room count : ℕ) : Type 0 where
  pub all : count ≡ length (steps_of p m H)
  pub fits : count ≤ room

whole_by : (p : Program) (m H room count : ℕ) (there fits : Bool) → leb (length (steps_of p m H)) room ≡ fits
    → cond there (cond fits (Ok (length (steps_of p m H))) (Err (TooShort (length (steps_of p m H))))) (Err NoEntry) ≡ Ok count → Whole p m H room count
whole_by p m H room count true true l e =
    let same : length (steps_of p m H) ≡ count = cc in
    record { all = sym same; fits = subst (λ (n : ℕ). n ≤ room) same (leb→le (length (steps_of p m H)) room (subst T (sym l) tt)) }
whole_by p m H room count true false l e = let clash : ◌≡◌ {A = ℕ} 0 1 = cc in absurd (omega arith)
whole_by p m H room count false fits l e = let clash : ◌≡◌ {A = ℕ} 0 1 = cc in absurd (omega arith)

whole-verdict : (v : Verdict) (p : Program) (m H room count : ℕ) → reason_by_verdict v p m H room ≡ Ok count → Whole p m H room count
unfolding reason_by
whole-verdict (Ok accepted) p m H room count e = whole_by p m H room count (is_entry p m H) (leb (length (steps_of p m H)) room) refl e
whole-verdict (Err verdict.WrongLength) p m H room count e = let clash : ◌≡◌ {A = ℕ} 0 1 = cc in absurd (omega arith)
whole-verdict (Err (verdict.Text why)) p m H room count e = let clash : ◌≡◌ {A = ℕ} 0 1 = cc in absurd (omega arith)
whole-verdict (Err (verdict.Broken broken)) p m H room count e = let clash : ◌≡◌ {A = ℕ} 0 1 = cc in absurd (omega arith)

pub whole-reason : (text : List ℕ) (m H room count : ℕ) → reason_of text m H room ≡ Ok count → Whole (program_read text) m H room count
unfolding reason_of
whole-reason text m H room count e = whole-verdict (verdict_of text answer_length) (program_read text) m H room count e
