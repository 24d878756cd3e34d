-- `exports::ikhzorvan_explain` meets its contract: the record's length, then the reason's numbers put in it.
-- Assumes nothing.
use Rattle.std.proofs.Common.{arith, ap, ◌∙◌, ◌≡◌, List, ◌++◌, [], ◌∷◌, ℕ, ◌/◌, ◌%◌}
use Rattle.std.proofs.Math.Path.{ap₂}
use Rattle.explainer.specs.Explain.{Reason, numbers_of}
use Rattle.exports.specs.Record.{record_of, reason_record_of}
use Rattle.exports.specs.Laws.Record.{wrong-explained, right-explained}
use Rattle.exports.proofs.ikhzorvan_explain.Goals as goal

-- a count's two bytes, the high one first
two_bytes : (n k high low : ℕ) → k ≡ n → high ≡ k / 256 % 256 → low ≡ k % 256 → ◌≡◌ {A = List ℕ} (high ∷ low ∷ []) (n / 256 % 256 ∷ n % 256 ∷ [])
two_bytes n k high low e h l = ap₂ (λ (x y : ℕ). x ∷ y ∷ []) (h ∙ ap (λ (m : ℕ). m / 256 % 256) e) (l ∙ ap (λ (m : ℕ). m % 256) e)

pub returns-then-page-ne13 : goal.returns-then-page-ne13
returns-then-page-ne13 c =
    let a = c.args in
    let wrong = wrong-explained a.text.now a.method a.set a.steps.now a.page.now c.if-page-ne13.true in
    record { value = wrong.0; steps_after = wrong.1; page_after = wrong.2 }

pub returns : goal.returns
returns c =
    let a = c.args in
    let told = c.explain-reason.ensures in
    let right = right-explained a.text.now a.method a.set a.steps.now a.page.now c.if-page-ne13.false in
    let front = c.copy_from_slice.ensures.after ∙ c.record.ensures ∙ ap record_of c.numbers_of-numbers.ensures in
    let behind = c.copy_from_slice-2.ensures.after ∙ two_bytes _ _ _ _ c.count-count.ensures (grind arith) (grind arith) in
    record {
      value = ap (λ n. n.number) c.numbers_of-numbers.ensures ∙ ap (λ (r : Reason). (numbers_of r).number) told.value ∙ right.0;
      steps_after = told.steps_after ∙ right.1;
      page_after = ap₂ (λ (x y : List ℕ). x ++ y) front behind ∙ ap (λ (r : Reason). reason_record_of (numbers_of r)) told.value ∙ right.2;
    }
