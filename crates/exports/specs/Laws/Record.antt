-- The records' definitions, case by case: a record of another length, and one of eleven bytes or of thirteen.
-- Assumes nothing.
use Rattle.std.specs.Prelude.{ℕ, Bool, List, ◌≡◌, length}
use Rattle.std.proofs.Math.Bool.{cond}
use Rattle.std.proofs.Math.Path.{sym, ap}
use Rattle.std.proofs.Common.{eq-eqb, ne_eqb}
use Rattle.checker.specs.Grading.{numbers_of, verdict_of, answer_of}
use Rattle.explainer.specs.Explain as explain
use Rattle.explainer.specs.declared.walk.Step.{Step}
use Rattle.exports.specs.Record.{record_length, record_of, returned, answered, recorded, reason_length, reason_record_of, reason_returned, reason_steps, reason_recorded}

pub wrong-returned : (text : List ℕ) (answer page : ℕ) → (page ≡ record_length → ⊥) → returned text answer page ≡ 255
unfolding returned
wrong-returned text answer page h = ap (λ (b : Bool). cond b (numbers_of (verdict_of text answer)).number 255) (ne_eqb page record_length h)

pub wrong-answered : (text old : List ℕ) (page : ℕ) → (page ≡ record_length → ⊥) → answered text old page ≡ old
unfolding answered
wrong-answered text old page h = ap (λ (b : Bool). cond b (answer_of text old) old) (ne_eqb page record_length h)

pub wrong-recorded : (text : List ℕ) (answer : ℕ) (old : List ℕ) → (length old ≡ record_length → ⊥) → recorded text answer old ≡ old
unfolding recorded
wrong-recorded text answer old h = ap (λ (b : Bool). cond b (record_of (numbers_of (verdict_of text answer))) old) (ne_eqb (length old) record_length h)

pub right-returned : (text : List ℕ) (answer page : ℕ) → page ≡ record_length → returned text answer page ≡ (numbers_of (verdict_of text answer)).number
unfolding returned
right-returned text answer page h = ap (λ (b : Bool). cond b (numbers_of (verdict_of text answer)).number 255) (eq-eqb page record_length h)

pub right-answered : (text old : List ℕ) (page : ℕ) → page ≡ record_length → answered text old page ≡ answer_of text old
unfolding answered
right-answered text old page h = ap (λ (b : Bool). cond b (answer_of text old) old) (eq-eqb page record_length h)

pub right-recorded : (text : List ℕ) (answer : ℕ) (old : List ℕ) → length old ≡ record_length
    → recorded text answer old ≡ record_of (numbers_of (verdict_of text answer))
unfolding recorded
right-recorded text answer old h = ap (λ (b : Bool). cond b (record_of (numbers_of (verdict_of text answer))) old) (eq-eqb (length old) record_length h)

-- ---- an explanation

module _ (text : List ℕ) (m H : ℕ) (steps : List Step) (old : List ℕ) where
  -- what is returned, and the list and the record as they are left
  abbrev pub Explained : ℕ → List Step → List ℕ → Type 0
  Explained k list page =
      (k ≡ reason_returned text m H (length steps) (length old))
      × (list ≡ reason_steps text m H steps (length old)) × (page ≡ reason_recorded text m H (length steps) old)

  pub wrong-explained : (length old ≡ reason_length → ⊥) → Explained 255 steps old
  unfolding reason_returned reason_steps reason_recorded
  wrong-explained h =
      let no = sym (ne_eqb (length old) reason_length h) in (
        ap (λ (b : Bool). cond b (explain.numbers_of (explain.reason_of text m H (length steps))).number 255) no,
        ap (λ (b : Bool). cond b (explain.list_of text m H steps) steps) no,
        ap (λ (b : Bool). cond b (reason_record_of (explain.numbers_of (explain.reason_of text m H (length steps)))) old) no,
      )

  pub right-explained : length old ≡ reason_length
      → Explained (explain.numbers_of (explain.reason_of text m H (length steps))).number (explain.list_of text m H steps) (reason_record_of (explain.numbers_of (explain.reason_of text m H (length steps))))
  unfolding reason_returned reason_steps reason_recorded
  right-explained h =
      let so = sym (eq-eqb (length old) reason_length h) in (
        ap (λ (b : Bool). cond b (explain.numbers_of (explain.reason_of text m H (length steps))).number 255) so,
        ap (λ (b : Bool). cond b (explain.list_of text m H steps) steps) so,
        ap (λ (b : Bool). cond b (reason_record_of (explain.numbers_of (explain.reason_of text m H (length steps)))) old) so,
      )
