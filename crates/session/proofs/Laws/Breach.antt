-- Laws of a breach's line: what the code reads off, puts together and prints.
-- Assumes nothing.
use Rattle.std.specs.Prelude.{ℕ, ◌<◌, Bool, ◌&&◌, List, [], ◌∷◌, ◌≡◌, eqb, get_or, Some, None, Ok}
use Rattle.std.proofs.Math.Bool.{cond}
use Rattle.std.proofs.Common.{ap, sym, ◌∙◌, arith, lt-ltb, ne_eqb}
use Rattle.std.proofs.Math.Path.{ap₂}
use Rattle.frames.specs.Program.{Program}
use Rattle.frames.specs.Frames.{methods_in}
use Rattle.frames.specs.Tables.{cell, method_of}
use Rattle.frames.specs.Reading.{read_text}
use Rattle.frames.specs.declared.Tables.{Tables}
use Rattle.meaning.specs.Meaning.{root_table}
use Rattle.meaning.specs.Lowest.{method_count, entry_count, is_entry, declared_table, lowest}
use Rattle.solver.specs.Root.{lowest_root}
use Rattle.solver.specs.Laws.Views.{method-count}
use Rattle.solver.specs.Laws.Findings.{declared-entry}
use Rattle.checker.specs.Grading.{Verdict, program_read, verdict_of}
use Rattle.checker.proofs.Laws.Grading.{read-program}
use Rattle.checker.proofs.Laws.Root.{root_by}
use Rattle.checker.specs.RootRead.{root_read}
use Rattle.frames.specs.Layout.{answer_length}
use Rattle.session.specs.Breach.{breach_frame, breach_by, breach_of}
use Rattle.session.specs.BreachFacts.{Breach}
use Rattle.session.specs.Writing.{line_of, low}

module _ (text : List ℕ) (m H : ℕ) (b : Breach text m H) where
  abbrev program : Program
  program = program_read text

  -- the declared grade, as read off the tables
  pub declared-read : (T : Tables) (r : ℕ) → read_text text ≡ Ok T → r ≡ get_or (method_of (cell T.bytes) m).table H 0 → r ≡ declared_table program m H
  declared-read T r reads e =
      let within : m < methods_in (cell T.bytes) = omega (arith, b.breaks.entry.method, method-count T.bytes, ap method_count (read-program text T reads)) in
      declared-entry T.bytes m H r within e ∙ ap (λ (p : Program). declared_table p m H) (read-program text T reads)

  -- the root's grade is given
  pub root-given : root_read text m H ≡ Some (root_table program (lowest program) m H)
  unfolding lowest_root is_entry
  root-given =
      root_by text m H (Ok b.tables) b.reads
      ∙ ap₂ (λ (x y : Bool). cond (x && y) (Some (root_table program (lowest program) m H)) None)
      (lt-ltb m (method_count program) b.breaks.entry.method) (lt-ltb H (entry_count program m) b.breaks.entry.set)

  -- the frame from the bytes that the code puts together
  pub breach-bytes : (m₁ H₁ d g : ℕ) → m₁ ≡ low m → H₁ ≡ low H → d ≡ declared_table program m H → Some g ≡ root_read text m H
      → (0x1E ∷ m₁ ∷ H₁ ∷ d ∷ g ∷ []) ≡ breach_frame program m H
  unfolding breach_frame
  breach-bytes m₁ H₁ d g em e_h ed is =
      let method : m₁ ≡ m = omega (arith, b.method) in
      let set : H₁ ≡ H = omega (arith, b.set) in
      let known = root-given in
      let grade : g ≡ root_table program (lowest program) m H = cc in
      rw (method, set, ed, grade)

-- by the verdict that was found
pub by-verdict : (text page : List ℕ) (verdict v : Verdict) → verdict ≡ verdict_of text answer_length → verdict ≡ v
    → page ≡ breach_by v (program_read text) → page ≡ breach_of text
unfolding breach_of
by-verdict text page verdict v found is given = given ∙ ap (λ (x : Verdict). breach_by x (program_read text)) (sym is ∙ found)

-- nothing is printed of a refusal by 7 of another kind
pub other-kind : (p : Program) (m k H : ℕ) → (k ≡ 1 → ⊥) → cond (eqb k 1) (line_of (breach_frame p m H)) [] ≡ []
other-kind p m k H h = ap (λ (x : Bool). cond x (line_of (breach_frame p m H)) []) (ne_eqb k 1 h)
