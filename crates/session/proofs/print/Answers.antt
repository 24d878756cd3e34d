-- `print` meets its contract: an accepted text's lines, or the line of a refusal.
-- Assumes nothing.
use Rattle.std.proofs.Common.{◌∙◌, ap, ◌++◌, List, ℕ}
use Rattle.checker.specs.Grading.{numbers_of}
use Rattle.session.specs.Session.{refusal_frame}
use Rattle.session.specs.Writing.{line_of}
use Rattle.session.proofs.Laws.Session.{by-verdict}
use Rattle.session.proofs.print.Goals as goal

pub returns-in-Ok : goal.returns-in-Ok
returns-in-Ok c = let grade = c.grade-verdict in
    by-verdict c.args.text.now _ _ grade.result _ grade.ensures.value c.in-Ok.is grade.ensures.answer_after c.put_accepted.ensures

pub returns-in-Err : goal.returns-in-Err
returns-in-Err c = let grade = c.grade-verdict in
    let told = c.numbers_of.result in
    by-verdict c.args.text.now grade.new.answer _ grade.result _ grade.ensures.value c.in-Err.is grade.ensures.answer_after
    (c.put_line.ensures
    ∙ (ap (λ (l : List ℕ). c.new-page.result ++ line_of l) c.refusal_frame.ensures
    ∙ (ap (λ (l : List ℕ). l ++ line_of (refusal_frame told)) c.new-page.ensures
    ∙ ap (λ n. line_of (refusal_frame n)) (c.numbers_of.ensures ∙ ap numbers_of c.in-Err.is))))
