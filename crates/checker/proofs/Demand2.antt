-- `specs/Demand2` states what is proved here.
-- Assumes nothing.
use Rattle.std.specs.Prelude.{ℕ, ◌+◌, ◌*◌, List, ◌↔◌, ◌≡◌, refl, length, get_or}
use Rattle.std.proofs.Common.{sym, ap, ◌∙◌, subst, arith}
use Rattle.frames.specs.Layout.{layout, answer_length}
use Rattle.frames.specs.Promises.{read-exactly}
use Rattle.meaning.specs.Meaning.{Assignment}
use Rattle.meaning.specs.Lowest.{method_count}
use Rattle.meaning.specs.Constraints.{Satisfies, Answer, accepted, refused, answer, entry_of}
use Rattle.meaning.specs.Demand2.{IsRounds, Named, Permitted}
use Rattle.meaning.proofs.Demand2.{demand-2}
use Rattle.solver.specs.Laws.Flat.{flat-entry}
use Rattle.checker.specs.Grading.{Verdict, program_read, numbers_of, accepted_with, broken_at, by_answer, verdict_of, bytes_by_answer, answer_of}
use Rattle.checker.proofs.Laws.Grading.{right-verdict, right-bytes}
use Rattle.checker.specs.Demand1.{Gradable}
use Rattle.checker.specs.Demand2.{AcceptedAnswer, BrokenBy, Demand2}

module _ (text : List ℕ) where
  pub says : (n : ℕ) → Gradable text n → verdict_of text n ≡ by_answer (answer (program_read text)) (method_count (program_read text))
  says n s = right-verdict text n _ s.answer (read-exactly text s.short s.lines)

  pub bytes : (old : List ℕ) → Gradable text (length old) → answer_of text old ≡ bytes_by_answer (answer (program_read text)) old
  bytes old s = right-bytes text old _ s.answer (read-exactly text s.short s.lines)

  is-accepted : (old : List ℕ) → Gradable text (length old) → (m r : ℕ) → verdict_of text (length old) ≡ accepted_with m r → AcceptedAnswer text old m r
  is-accepted old s m r e = go (answer (program_read text)) refl
    where
      go : (x : Answer) → answer (program_read text) ≡ x → AcceptedAnswer text old m r
      go (accepted r' tables) q =
          let found : accepted_with (method_count (program_read text)) r' ≡ accepted_with m r
          = ap (λ (y : Answer). by_answer y (method_count (program_read text))) (sym q) ∙ sym (says (length old) s) ∙ e in
          let rounds : r' ≡ r = ap (λ (v : Verdict). (numbers_of v).rounds) found in
          let all = subst (Permitted (program_read text)) q (demand-2 (program_read text)).permitted in
          record {
            counted = sym (ap (λ (v : Verdict). (numbers_of v).methods) found);
            reached = subst (IsRounds (program_read text)) rounds all.rounds;
            grades = entry_of tables;
            lowest = all.lowest;
            entries = λ i h l k.
                ap (λ (b : List ℕ). get_or b (layout.grades * i + h) 0) (bytes old s ∙ ap (λ (y : Answer). bytes_by_answer y old) q) ∙ flat-entry (entry_of tables) i h l k;
          }
      go (refused a b c d) q =
          let found : broken_at a b c d ≡ accepted_with m r
          = ap (λ (y : Answer). by_answer y (method_count (program_read text))) (sym q) ∙ sym (says (length old) s) ∙ e in
          let z : ◌≡◌ {A = ℕ} 0 1 = cc in absurd (omega arith)

  answer-refused : (n : ℕ) → Gradable text n → (m k nd H : ℕ) → verdict_of text n ≡ broken_at m k nd H → answer (program_read text) ≡ refused m k nd H
  answer-refused n s m k nd H e = go (answer (program_read text)) refl
    where
      go : (x : Answer) → answer (program_read text) ≡ x → answer (program_read text) ≡ refused m k nd H
      go (accepted r tables) q =
          let found : accepted_with (method_count (program_read text)) r ≡ broken_at m k nd H
          = ap (λ (y : Answer). by_answer y (method_count (program_read text))) (sym q) ∙ sym (says n s) ∙ e in
          let z : ◌≡◌ {A = ℕ} 0 1 = cc in absurd (omega arith)
      go (refused a b c d) q =
          let found : broken_at a b c d ≡ broken_at m k nd H
          = ap (λ (y : Answer). by_answer y (method_count (program_read text))) (sym q) ∙ sym (says n s) ∙ e in
          q ∙ ap (λ (v : Verdict). refused (numbers_of v).method (numbers_of v).kind (numbers_of v).node (numbers_of v).set) found

  is-refused : (n : ℕ) → Gradable text n → BrokenBy text ↔ ((a : Assignment) → Satisfies (program_read text) a → ⊥)
  is-refused n s = (none, some)
    where
      right : Gradable text answer_length
      right = record { answer = refl; short = s.short; lines = s.lines }

      none : BrokenBy text → (a : Assignment) → Satisfies (program_read text) a → ⊥
      none b =
          (demand-2 (program_read text)).refused-exactly.0
          (record { method = b.method; kind = b.kind; node = b.node; set = b.set; says = answer-refused answer_length right b.method b.kind b.node b.set b.says })

      some : ((a : Assignment) → Satisfies (program_read text) a → ⊥) → BrokenBy text
      some h =
          let r = (demand-2 (program_read text)).refused-exactly.1 h in
          record {
            method = r.method;
            kind = r.kind;
            node = r.node;
            set = r.set;
            says = says answer_length right ∙ ap (λ (y : Answer). by_answer y (method_count (program_read text))) r.says;
          }

  is-named : (n : ℕ) → Gradable text n → (m k nd H : ℕ) → verdict_of text n ≡ broken_at m k nd H → Named (program_read text) m k nd H
  is-named n s m k nd H e = subst (Permitted (program_read text)) (answer-refused n s m k nd H e) (demand-2 (program_read text)).permitted

-- of every sound text and every answer of the right length
pub demand-2-of-the-call : (text old : List ℕ) → Gradable text (length old) → Demand2 text old
demand-2-of-the-call text old s =
    record { accepted = is-accepted text old s; refused = is-refused text (length old) s; named = is-named text (length old) s }
