-- `specs/Demand3` states what is proved here.
-- Assumes nothing.
use Rattle.std.specs.Prelude.{ℕ, ◌+◌, ◌*◌, ◌/◌, ◌%◌, ◌≤◌, ◌<◌, List, ◌≡◌, refl, length, get_or}
use Rattle.std.proofs.Common.{sym, ap, ◌∙◌, arith}
use Rattle.std.proofs.Math.Decide.{dec_lt}
use Rattle.std.proofs.Math.ListN.{get_or-eq_default}
use Rattle.frames.specs.Layout.{layout, answer_length}
use Rattle.meaning.specs.Meaning.{Assignment}
use Rattle.meaning.specs.Lowest.{NoWorse, method_count}
use Rattle.meaning.specs.Constraints.{Answer, accepted, refused, answer, entry_of}
use Rattle.meaning.specs.Changes.{StruckOut, WrittenBack}
use Rattle.meaning.proofs.Demand3.{demand-3}
use Rattle.solver.specs.Flat.{flat}
use Rattle.solver.specs.Laws.Flat.{flat-length, flat-at, flat-entry}
use Rattle.checker.specs.Grading.{program_read, accepted_with, broken_at, by_answer, bytes_by_answer, answer_of}
use Rattle.checker.specs.Demand1.{Gradable}
use Rattle.checker.proofs.Demand2.{says, bytes}
use Rattle.checker.specs.Demand3.{Passes, FallingBytes, NoWorseBytes, SameBytes, Demand3}

-- an accepted text's answer
pub record Found (text old : List ℕ) : Type 0 where
  pub rounds : ℕ
  pub tables : List (List ℕ)
  pub is : answer (program_read text) ≡ accepted rounds tables
  pub holds : answer_of text old ≡ flat (entry_of tables)

pub found : (text old : List ℕ) → Passes text old → Found text old
found text old p = go (answer (program_read text)) refl
  where
    go : (x : Answer) → answer (program_read text) ≡ x → Found text old
    go (accepted r t) q = record { rounds = r; tables = t; is = q; holds = bytes text old p.sound ∙ ap (λ (y : Answer). bytes_by_answer y old) q }
    go (refused a b c d) q =
        let both : broken_at a b c d ≡ accepted_with p.methods p.rounds
        = ap (λ (y : Answer). by_answer y (method_count (program_read text))) (sym q) ∙ sym (says text (length old) p.sound) ∙ p.accepts in
        let z : ◌≡◌ {A = ℕ} 0 1 = cc in absurd (omega arith)

passes-by : (text old : List ℕ) → Gradable text (length old) → (r : ℕ) (t : List (List ℕ)) → answer (program_read text) ≡ accepted r t → Passes text old
passes-by text old s r t e =
    record {
      sound = s;
      methods = method_count (program_read text);
      rounds = r;
      accepts = says text (length old) s ∙ ap (λ (y : Answer). by_answer y (method_count (program_read text))) e;
    }

holds_by : (text old : List ℕ) → Gradable text (length old) → (r : ℕ) (t : List (List ℕ)) → answer (program_read text) ≡ accepted r t → answer_of text old ≡ flat (entry_of t)
holds_by text old s r t e = bytes text old s ∙ ap (λ (y : Answer). bytes_by_answer y old) e

pub flat-lower : (a b : Assignment) → NoWorse a b → (i : ℕ) → get_or (flat a) i 0 ≤ get_or (flat b) i 0
flat-lower a b h i = go (dec_lt i answer_length)
  where
    go : Dec (i < answer_length) → get_or (flat a) i 0 ≤ get_or (flat b) i 0
    go (yes l) = omega (arith, flat-at a i l, flat-at b i l, h (i / layout.grades) (i % layout.grades))
    go (no l) =
        omega (arith, get_or-eq_default (flat a) 0 {n = i} (omega (arith, flat-length a)), get_or-eq_default (flat b) 0 {n = i} (omega (arith, flat-length b)))

held-sets-law : (text old : List ℕ) → Passes text old → FallingBytes text old
held-sets-law text old p anti m H H' l h h' k k' w =
    let f = found text old p in
    let falls = (((demand-3 (program_read text)).held-sets anti).accepted f.rounds f.tables f.is m).falls H H' k k' w in
    omega (
      arith,
      falls,
      ap (λ (b : List ℕ). get_or b (layout.grades * m + H') 0) f.holds ∙ flat-entry (entry_of f.tables) m H' l h',
      ap (λ (b : List ℕ). get_or b (layout.grades * m + H) 0) f.holds ∙ flat-entry (entry_of f.tables) m H l h,
    )

striking-out-law : (text old : List ℕ) → Passes text old → (text' old' : List ℕ) → Gradable text' (length old') → StruckOut (program_read text) (program_read text')
    → NoWorseBytes text old text' old'
striking-out-law text old p text' old' s c =
    let f = found text old p in
    let q = (demand-3 (program_read text)).striking-out f.rounds f.tables f.is (program_read text') c in
    record {
      passes = passes-by text' old' s q.rounds q.found q.says;
      no_worse = λ i.
          omega (
            arith,
            flat-lower (entry_of q.found) (entry_of f.tables) q.no_higher i,
            ap (λ (b : List ℕ). get_or b i 0) (holds_by text' old' s q.rounds q.found q.says),
            ap (λ (b : List ℕ). get_or b i 0) f.holds,
          );
    }

writing-back-law : (text old : List ℕ) → Passes text old → (text' old' : List ℕ) (tables : List (List ℕ)) (r : ℕ) → answer (program_read text) ≡ accepted r tables
    → Gradable text' (length old') → WrittenBack (program_read text) (entry_of tables) (program_read text') → SameBytes text old text' old'
writing-back-law text old p text' old' tables r e s c =
    let q = (demand-3 (program_read text)).writing-back r tables e (program_read text') c in
    record {
      passes = passes-by text' old' s q.rounds tables q.says;
      same = holds_by text' old' s q.rounds tables q.says ∙ sym (holds_by text old p.sound r tables e);
    }

-- of every text that the call accepts
pub demand-3-of-the-call : (text old : List ℕ) → Passes text old → Demand3 text old
demand-3-of-the-call text old p =
    record { held-sets = held-sets-law text old p; striking-out = striking-out-law text old p; writing-back = writing-back-law text old p }
