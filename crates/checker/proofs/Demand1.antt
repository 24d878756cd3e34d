-- `specs/Demand1` states what is proved here.
-- Assumes nothing.
use Rattle.std.specs.Prelude.{ℕ, ◌≤◌, ◌<◌, List, ◌≡◌, refl, length, Option, Some, None, Result, Ok, Err}
use Rattle.std.proofs.Common.{sym, ap, ◌∙◌, subst, arith}
use Rattle.std.proofs.Math.Decide.{dec_lt, ℕ_discrete}
use Rattle.frames.specs.Layout.{layout, answer_length}
use Rattle.lines.specs.Lines.{lines}
use Rattle.frames.specs.Reading.{read_text, read_all, refusal_of, checked}
use Rattle.frames.specs.Promises.{long-exactly, short-outcome, refused, refused-exactly, read-faultless, read-exactly}
use Rattle.frames.specs.declared.Tables.{Tables}
use Rattle.frames.specs.declared.Fault.{Fault}
use Rattle.frames.specs.declared.Refusal.{Refusal as TextRefusal}
use Rattle.frames.specs.declared.Refusal.TheVariants.{Overlong, Malformed, Misplaced, OutOfRange, Unlinked}
use Rattle.meaning.specs.Lowest.{method_count}
use Rattle.meaning.specs.Constraints.{Answer, accepted, refused as broken, answer, entry_of}
use Rattle.solver.specs.Laws.Flat.{flat-length}
use Rattle.checker.specs.Grading.{Verdict, program_read, accepted_with, by_answer, by_reading, verdict_of, bytes_by_answer, bytes_by_reading, answer_of, numbers_of}
use Rattle.checker.proofs.Laws.Grading.{wrong_verdict, wrong_bytes, right-verdict, right-bytes}
use Rattle.checker.specs.declared.Refusal.TheVariants.{WrongLength, Text, Broken}
use Rattle.checker.specs.Demand1.{Gradable, Faulty, Case, Demand1}

module _ (text : List ℕ) where
  -- the text is accepted, or refused by 7
  by_answer_lem : (n : ℕ) (x : Answer) → Gradable text n → answer (program_read text) ≡ x → Case text n (by_answer x (method_count (program_read text)))
  by_answer_lem n (accepted r tables) s e = (s, (tables, e), refl)
  by_answer_lem n (broken m k nd H) s e = (s, e)

  by-fault : (n : ℕ) → n ≡ answer_length → length text ≤ layout.most_text → (x : Option Fault) (i : ℕ) → read_text text ≡ checked (lines text) x i
      → Case text n (by_reading (checked (lines text) x i) (program_read text))
  by-fault n h l None i e =
      by_answer_lem n (answer (program_read text)) (record { answer = h; short = l; lines = (read-faultless text _ e).1 }) refl
  by-fault n h l (Some Fault.Malformed) i e = record { answer = h; short = l; before = i; follows = refl; first = (refused text Fault.Malformed i e).1 }
  by-fault n h l (Some Fault.Misplaced) i e = record { answer = h; short = l; before = i; follows = refl; first = (refused text Fault.Misplaced i e).1 }
  by-fault n h l (Some Fault.OutOfRange) i e = record { answer = h; short = l; before = i; follows = refl; first = (refused text Fault.OutOfRange i e).1 }
  by-fault n h l (Some Fault.Unlinked) i e = record { answer = h; short = l; before = i; follows = refl; first = (refused text Fault.Unlinked i e).1 }

  is-given : (n : ℕ) → Case text n (verdict_of text n)
  is-given n = go (ℕ_discrete n answer_length)
    where
      read : n ≡ answer_length → Dec (layout.most_text < length text) → Case text n (verdict_of text n)
      read h (yes l) = subst (Case text n) (sym (right-verdict text n _ h (long-exactly text l))) (h, l)
      read h (no l) =
          let short : length text ≤ layout.most_text = omega arith in
          let e = short-outcome text short in
          subst (Case text n) (sym (right-verdict text n _ h e)) (by-fault n h short (read_all (lines text)).fault (read_all (lines text)).before e)

      go : Dec (n ≡ answer_length) → Case text n (verdict_of text n)
      go (yes h) = read h (dec_lt layout.most_text (length text))
      go (no h) = subst (Case text n) (sym (wrong_verdict text n h)) h

  first-fault : (n : ℕ) (x : Fault) (line : ℕ) → (f : Faulty text n x line) → Err (Text (refusal_of x f.before)) ≡ verdict_of text n
  first-fault n x line f = sym (right-verdict text n _ f.answer (refused-exactly text x f.before f.short f.first))

  whole : (n : ℕ) → Gradable text n → by_answer (answer (program_read text)) (method_count (program_read text)) ≡ verdict_of text n
  whole n s = sym (right-verdict text n _ s.answer (read-exactly text s.short s.lines))

  at-line : (r : ℕ → TextRefusal) {l k : ℕ} → l ≡ k → ◌≡◌ {A = Verdict} (Err (Text (r l))) (Err (Text (r k)))
  at-line r e = ap (λ (i : ℕ). Err (Text (r i))) e

  is-only : (n : ℕ) (v : Verdict) → Case text n v → v ≡ verdict_of text n
  is-only n (Ok a) c =
      ap (λ (i : ℕ). accepted_with i a.rounds) c.2 ∙ ap (λ (x : Answer). by_answer x (method_count (program_read text))) (sym c.1.1) ∙ whole n c.0
  is-only n (Err WrongLength) c = sym (wrong_verdict text n c)
  is-only n (Err (Text Overlong)) c = sym (right-verdict text n _ c.0 (long-exactly text c.1))
  is-only n (Err (Text (Malformed l))) c = at-line Malformed c.follows ∙ first-fault n Fault.Malformed l c
  is-only n (Err (Text (Misplaced l))) c = at-line Misplaced c.follows ∙ first-fault n Fault.Misplaced l c
  is-only n (Err (Text (OutOfRange l))) c = at-line OutOfRange c.follows ∙ first-fault n Fault.OutOfRange l c
  is-only n (Err (Text (Unlinked l))) c = at-line Unlinked c.follows ∙ first-fault n Fault.Unlinked l c
  is-only n (Err (Broken b)) c = ap (λ (x : Answer). by_answer x (method_count (program_read text))) (sym c.1) ∙ whole n c.0

  -- the answer, by what was read
  bytes-kept : (old : List ℕ) → length old ≡ answer_length → (o : Result Tables TextRefusal) (x : Answer) → answer (program_read text) ≡ x
      → length (bytes_by_reading o (program_read text) old) ≡ length old
  bytes-kept old h (Ok T) (accepted r t) e =
      ap (λ (y : Answer). length (bytes_by_answer y old)) e ∙ flat-length (entry_of t) ∙ sym h
  bytes-kept old h (Ok T) (broken m k n H) e = ap (λ (y : Answer). length (bytes_by_answer y old)) e
  bytes-kept old h (Err f) x e = refl

  bytes-untouched : (old : List ℕ) (o : Result Tables TextRefusal) (x : Answer) → answer (program_read text) ≡ x
      → ((numbers_of (by_reading o (program_read text))).number ≡ 0 → ⊥) → bytes_by_reading o (program_read text) old ≡ old
  bytes-untouched old (Ok T) (accepted r t) e h =
      absurd (h (ap (λ (y : Answer). (numbers_of (by_answer y (method_count (program_read text)))).number) e))
  bytes-untouched old (Ok T) (broken m k n H) e h = ap (λ (y : Answer). bytes_by_answer y old) e
  bytes-untouched old (Err f) x e h = refl

  keeps-length : (old : List ℕ) → length (answer_of text old) ≡ length old
  keeps-length old = go (ℕ_discrete (length old) answer_length)
    where
      go : Dec (length old ≡ answer_length) → length (answer_of text old) ≡ length old
      go (yes h) =
          ap length (right-bytes text old (read_text text) h refl) ∙ bytes-kept old h (read_text text) (answer (program_read text)) refl
      go (no h) = ap length (wrong_bytes text old h)

  is-untouched : (old : List ℕ) → ((numbers_of (verdict_of text (length old))).number ≡ 0 → ⊥) → answer_of text old ≡ old
  is-untouched old refusal = go (ℕ_discrete (length old) answer_length)
    where
      go : Dec (length old ≡ answer_length) → answer_of text old ≡ old
      go (yes h) =
          right-bytes text old (read_text text) h refl
          ∙ bytes-untouched old (read_text text) (answer (program_read text)) refl
          (λ z. refusal (ap (λ (v : Verdict). (numbers_of v).number) (right-verdict text (length old) (read_text text) h refl) ∙ z))
      go (no h) = wrong_bytes text old h

pub demand-1 : (text old : List ℕ) → Demand1 text old
demand-1 text old =
    record {
      given = is-given text (length old);
      only = is-only text (length old);
      keeps = keeps-length text old;
      untouched = is-untouched text old;
    }
