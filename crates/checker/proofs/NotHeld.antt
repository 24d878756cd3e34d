-- `specs/NotHeld` states what is proved here.
-- Assumes nothing.
use Rattle.std.specs.Prelude.{ℕ, List, ◌≡◌, length, get_or}
use Rattle.std.proofs.Common.{sym, ap, ◌∙◌, subst, arith}
use Rattle.lines.specs.Lines.{lines}
use Rattle.frames.specs.Laws.WellFormed.{well-formed}
use Rattle.meaning.specs.Meaning.{Assignment}
use Rattle.meaning.specs.Lowest.{NoWorse, method_count, rounds, lowest}
use Rattle.meaning.specs.Constraints.{Answer, accepted, tables_of, entry_of}
use Rattle.meaning.proofs.Laws.Answers.{when-accepted, tables-lowest}
use Rattle.meaning.specs.NotHeld.{as_not_held, RulesCompared}
use Rattle.meaning.proofs.Laws.NotHeld.{rules-compared}
use Rattle.meaning.proofs.Laws.NeverHeld.{never-held}
use Rattle.checker.specs.Grading.{program_read, by_answer, bytes_by_answer}
use Rattle.checker.specs.Demand1.{Gradable}
use Rattle.checker.proofs.Demand2.{says, bytes}
use Rattle.checker.proofs.Demand3.{Found, found, flat-lower}
use Rattle.checker.specs.NotHeld.{unheld, answer01, NoLargerBy01, RulesOfTheCall}

no-larger : (text old : List ℕ) → RulesCompared (program_read text) unheld → Found text old → NoLargerBy01 text old
no-larger text old c f =
    let p = program_read text in
    let q = as_not_held unheld p in
    let says01 : answer01 text ≡ accepted (rounds q) (tables_of q (lowest q)) = c.accepts f.rounds f.tables f.is in
    let found : entry_of f.tables ≡ lowest p = ap entry_of (when-accepted p f.rounds f.tables f.is).tables ∙ tables-lowest p in
    let lower : NoWorse (entry_of (tables_of q (lowest q))) (entry_of f.tables)
    = subst (λ (a : Assignment). NoWorse a (entry_of f.tables)) (sym (tables-lowest q)) (subst (NoWorse (lowest q)) (sym found) c.nowhere_below) in
    record {
      rounds = rounds q;
      accepts = ap (λ (y : Answer). by_answer y (method_count p)) says01;
      no_larger = λ i.
          omega (
            arith,
            flat-lower (entry_of (tables_of q (lowest q))) (entry_of f.tables) lower i,
            ap (λ (y : Answer). get_or (bytes_by_answer y old) i 0) says01,
            ap (λ (b : List ℕ). get_or b i 0) f.holds,
          );
    }

pub rules-of-the-call : (text old : List ℕ) → Gradable text (length old) → RulesOfTheCall text old
rules-of-the-call text old s =
    let p = program_read text in
    let compared : RulesCompared p unheld
    = rules-compared unheld p (never-held p (well-formed (lines text) s.lines) unheld (omega arith) (λ e. omega arith)) in
    record {
      compared = compared;
      accepted = λ a. no-larger text old compared (found text old a);
      verdict = λ h. says text (length old) s ∙ ap (λ (y : Answer). by_answer y (method_count p)) (sym (compared.same_answer h));
      bytes = λ h. bytes text old s ∙ ap (λ (y : Answer). bytes_by_answer y old) (sym (compared.same_answer h));
    }
