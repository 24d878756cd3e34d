-- `exports::ikhzorvan_grade` meets its contract: the record's length, then the call's verdict put in it.
-- Assumes nothing.
use mathlib.Core.Path.{sym, ap, ◌∙◌}
use lib.ListN.{length}
use Rattle.checker.specs.Grading.{numbers_of}
use Rattle.exports.specs.Record.{record_of}
use Rattle.exports.specs.Laws.Record.{wrong-returned, wrong-answered, wrong-recorded, right-returned, right-answered, right-recorded}
use Rattle.exports.proofs.ikhzorvan_grade.Goals as goal

pub returns-then-page-ne11 : goal.returns-then-page-ne11
returns-then-page-ne11 c = let a = c.args in
    let text = a.text.now in
    let wrong = c.if-page-ne11.true in record { value = sym (wrong-returned text (length a.answer.now) (length a.page.now) wrong); answer_after = sym (wrong-answered text a.answer.now (length a.page.now) wrong); page_after = sym (wrong-recorded text (length a.answer.now) a.page.now wrong) }

pub returns : goal.returns
returns c = let a = c.args in
    let text = a.text.now in
    let n = length a.answer.now in
    let grade = c.grade.ensures in
    let told = c.numbers_of-numbers.ensures ∙ ap numbers_of grade.value in
    let right = c.if-page-ne11.false in
    record {
      value = ap (λ n. n.number) told ∙ sym (right-returned text n (length a.page.now) right);
      answer_after = grade.answer_after ∙ sym (right-answered text a.answer.now (length a.page.now) right);
      page_after = c.copy_from_slice.ensures.after ∙ c.record.ensures ∙ ap record_of told ∙ sym (right-recorded text n a.page.now right);
    }
