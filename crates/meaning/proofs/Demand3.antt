-- Demand 3 is met, as `specs/Demand3` states it.
-- Assumes nothing.
use Rattle.std.specs.Prelude.{ℕ, List, ◌≡◌}
use Rattle.std.proofs.Common.{sym, ap, ◌∙◌, subst}
use Rattle.frames.specs.Program.{Program}
use Rattle.meaning.specs.Meaning.{Assignment}
use Rattle.meaning.specs.Lowest.{NoWorse, rounds, lowest}
use Rattle.meaning.specs.Constraints.{accepted, tables_of, entry_of, answer}
use Rattle.meaning.proofs.Laws.Constraints.{lowest-is}
use Rattle.meaning.proofs.Laws.Answers.{tables-lowest, one-lowest, when-accepted, lowest-satisfies, satisfied-accepted}
use Rattle.meaning.specs.Changes.{StruckOut, WrittenBack, AntitoneAt, DeclaredAntitone}
use Rattle.meaning.proofs.Laws.Declarations.{alike-tables}
use Rattle.meaning.proofs.Laws.Changes.{lowest-antitone, struck-satisfies, written-satisfies, written-lowest}
use Rattle.meaning.specs.Demand3.{FallingGrades, StrikingOut, WritingBack, Demand3}

found-lowest : (p : Program) (r : ℕ) (t : List (List ℕ)) → answer p ≡ accepted r t → entry_of t ≡ lowest p
found-lowest p r t e = ap entry_of (when-accepted p r t e).tables ∙ tables-lowest p

held-sets-law : (p : Program) → DeclaredAntitone p → FallingGrades p
held-sets-law p h =
    record {
      accepted = λ r t e m. subst (λ (a : Assignment). AntitoneAt p a m) (sym (found-lowest p r t e)) (lowest-antitone p h m);
      lowest = λ a l m. subst (λ (b : Assignment). AntitoneAt p b m) (one-lowest p (lowest p) a (lowest-is p) l) (lowest-antitone p h m);
    }

striking-out-law : (p : Program) (r : ℕ) (t : List (List ℕ)) → answer p ≡ accepted r t → (q : Program) → StruckOut p q → StrikingOut q t
striking-out-law p r t e q s =
    let sat = struck-satisfies p q s (lowest p) (lowest-satisfies p (when-accepted p r t e).met) in
    record {
      rounds = rounds q;
      found = tables_of q (lowest q);
      says = satisfied-accepted q (lowest p) sat;
      no_higher =
          subst (λ (a : Assignment). NoWorse a (entry_of t)) (sym (tables-lowest q))
          (subst (NoWorse (lowest q)) (sym (found-lowest p r t e)) ((lowest-is q).least (lowest p) sat.meets));
    }

writing-back-law : (p : Program) (r : ℕ) (t : List (List ℕ)) → answer p ≡ accepted r t → (q : Program) → WrittenBack p (entry_of t) q → WritingBack q t
writing-back-law p r t e q s =
    let by = when-accepted p r t e in
    let back : WrittenBack p (lowest p) q = subst (λ (a : Assignment). WrittenBack p a q) (found-lowest p r t e) s in
    let sat = lowest-satisfies p by.met in
    let same : tables_of q (lowest q) ≡ t =
    ap (tables_of q) (written-lowest p q back sat) ∙ alike-tables p q s.alike (lowest p) ∙ sym by.tables in
    record {
      rounds = rounds q;
      says = satisfied-accepted q (lowest p) (written-satisfies p q back sat) ∙ ap (accepted (rounds q)) same;
    }

pub demand-3 : (p : Program) → Demand3 p
demand-3 p =
    record { held-sets = held-sets-law p; striking-out = striking-out-law p; writing-back = writing-back-law p }
