-- `specs/Unnamed` states what is proved here.
-- Assumes nothing.
use Rattle.std.specs.Prelude.{ℕ, ◌⊎◌, length}
use mathlib.Core.List.{List}
use Rattle.std.proofs.Common.{inl, inr, sym, ap₂, ◌∙◌}
use Rattle.std.proofs.Math.Path.{◌≡◌, ap}
use Rattle.std.proofs.Math.ListN.{get_or}
use Rattle.lines.specs.Lines.{lines, bytes as bytes_of}
use Rattle.frames.specs.Frames.{Frame, frames_of}
use Rattle.frames.specs.Laws.WellFormed.{well-formed}
use Rattle.meaning.specs.Lowest.{method_count}
use Rattle.meaning.specs.Constraints.{Answer, accepted, answer}
use Rattle.meaning.specs.Unnamed.{ChangedAside, ForkRefused as BrokenFork}
use Rattle.meaning.proofs.Laws.Unnamed.{unnamed-no-effect}
use Rattle.checker.specs.Grading.{program_read, by_answer, bytes_by_answer}
use Rattle.checker.proofs.Laws.ChangedLines.{frames-changed}
use Rattle.checker.specs.Demand1.{Gradable}
use Rattle.checker.proofs.Demand2.{says, bytes}
use Rattle.checker.proofs.Demand3.{Found, found}
use Rattle.checker.specs.Unnamed.{OtherLinesAside, SameOutcome, ForkRefused, NoEffect}

module _ (text old text' old' : List ℕ) (s : Gradable text (length old)) (s' : Gradable text' (length old')) where
  -- of texts whose programs differ in such nodes alone
  pub unnamed-of-the-call : ChangedAside (program_read text) (program_read text') → NoEffect text old text' old'
  unnamed-of-the-call c =
      let none = unnamed-no-effect (program_read text) (program_read text') (well-formed (lines text) s.lines) c in
      record {
        lowest = none.lowest;
        rounds = none.rounds;
        accepted = λ p. let f = found text old p in go f (none.answer f.rounds f.tables f.is);
      }
    where
      go : (f : Found text old)
          → (answer (program_read text') ≡ accepted f.rounds f.tables) ⊎ BrokenFork (program_read text) (program_read text')
          → SameOutcome text old text' old' ⊎ ForkRefused text text' old'
      go f (inl e) =
          let same : answer (program_read text') ≡ answer (program_read text) = e ∙ sym f.is in
          inl (record {
            verdict = says text' (length old') s' ∙ ap₂ by_answer same c.count ∙ sym (says text (length old) s);
            bytes = bytes text' old' s' ∙ ap (λ (y : Answer). bytes_by_answer y old') e ∙ sym f.holds;
          })
      go f (inr r) =
          inr (record {
            method = r.method;
            node = r.node;
            set = r.set;
            says = says text' (length old') s' ∙ ap (λ (y : Answer). by_answer y (method_count (program_read text'))) r.says;
            changed = r.changed;
          })

  -- of texts with other lines of such nodes, in any way that still reads
  pub unnamed-lines-of-the-call : OtherLinesAside text text' → NoEffect text old text' old'
  unfolding frames_of
  unnamed-lines-of-the-call c =
      unnamed-of-the-call
      (frames-changed (frames_of (lines text)) (frames_of (lines text')) (λ j l. frame (c.head j l)) (λ m n l k keeps. frame (c.nodes m n l k keeps)))
    where
      frame : {l l' : List ℕ} → l' ≡ l → ◌≡◌ {A = Frame} (λ b. get_or (bytes_of l') b 0) (λ b. get_or (bytes_of l) b 0)
      frame e = ap (λ (l : List ℕ). λ (b : ℕ). get_or (bytes_of l) b 0) e
