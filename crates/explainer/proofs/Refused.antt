-- `specs/Refused` states what is proved here.
-- Assumes nothing.
use Rattle.std.specs.Prelude.{ℕ, ◌<◌, ◌^◌, Bool, true, false, not, ◌||◌, List, ◌∷◌, refl, T, eqb, leb, length, replicate}
use Rattle.std.proofs.Math.Path.{◌≡◌, ap}
use Rattle.std.proofs.Common.{sym, ◌∙◌, subst, arith}
use Rattle.std.proofs.Math.Dec.{nleb→lt}
use Rattle.std.proofs.lemmas.List.{length-replicate}
use Rattle.counting.specs.Counting.{All, up_to, only_if}
use Rattle.counting.specs.Laws.Counting.{all_append, all_right, all-together, all-up_to, all-only_if}
use Rattle.grades.specs.Grades.{cmpd}
use Rattle.grades.specs.HeldSets.{entries, held}
use Rattle.frames.specs.Layout.{answer_length}
use Rattle.frames.specs.Program.{Program, method_at, node_at}
use Rattle.frames.specs.Ranges.{uses_method}
use Rattle.frames.specs.WellFormed.{WellFormed}
use Rattle.frames.specs.Promises.{read-exactly, read-well-formed}
use Rattle.meaning.specs.Meaning.{op_of, root_table}
use Rattle.meaning.specs.Lowest.{method_count, entry_count, is_entry, is_declared, declared_table, lowest}
use Rattle.meaning.specs.Constraints.{Entry, Closed, declared_root, main_table, forked_table, method_of, kind_of, node_of, named_method, is_fork, fork_at, forks_of, closed_of, closed_of_all, closed, FirstBroken}
use Rattle.meaning.proofs.Laws.Answers.{when-refused}
use Rattle.meaning.proofs.Laws.Lowest.{is_entry-of}
use Rattle.checker.specs.Grading.{Verdict, program_read, verdict_of, broken_at}
use Rattle.checker.proofs.Laws.Grading.{read-program}
use Rattle.checker.specs.Demand1.{Case}
use Rattle.checker.proofs.Demand1.{demand-1}
use Rattle.explainer.specs.Broken.{broken_by, broken_steps}
use Rattle.solver.specs.Laws.Engine.{op-cases, op-past}
use Rattle.explainer.proofs.Laws.Picks.{passed}
use Rattle.explainer.proofs.Laws.Broken.{body-about, entry-about}
use Rattle.explainer.specs.Refused.{RefusedReason}

-- the method that a constraint is about is one of the program's
abbrev About : Program → Closed → Type 0
About p (declared_root m) = m < method_count p
About p main_table = Unit
About p (forked_table m n) = named_method p m n < method_count p

fork-uses : (op : ℕ) → T (is_fork (op_of op)) → uses_method op ≡ true
unfolding op_of
fork-uses =
    op-cases (λ n. T (is_fork (op_of n)) → uses_method n ≡ true)
    (λ h. absurd h) (λ h. absurd h) (λ h. absurd h) (λ h. absurd h) (λ h. absurd h) (λ h. absurd h) (λ h. absurd h) (λ h. absurd h) (λ _. refl) (λ _. refl)
    (λ n g h. absurd (subst T (ap is_fork (op-past n g)) h))

all-about : (p : Program) → WellFormed p → All (About p) (closed p)
unfolding closed closed_of_all closed_of forks_of fork_at named_method method_count
all-about p w =
    all-together (About p) (closed_of p) (up_to (method_count p))
    (all-up_to (λ m. All (About p) (closed_of p m)) (method_count p)
    (λ m l. all_append (About p) (only_if (is_declared p m) (declared_root m)) _
    (all-only_if (About p) (is_declared p m) (declared_root m) (λ t. l))
    (all_append (About p) (only_if (eqb m 0) main_table) _
    (all-only_if (About p) (eqb m 0) main_table (λ t. tt))
    (all-together (About p) (λ n. only_if (fork_at p m n) (forked_table m n)) (up_to (length (method_at p m).nodes))
    (all-up_to (λ n. All (About p) (only_if (fork_at p m n) (forked_table m n))) (length (method_at p m).nodes)
    (λ n h. all-only_if (About p) (fork_at p m n) (forked_table m n) (λ t. (w.nodes m n l h).method (fork-uses (node_at (method_at p m) n).op t))))))))

main-entry : (p : Program) → WellFormed p → (H : ℕ) → H < 1 → Entry p 0 H
unfolding method_count entry_count entries
main-entry p w H l =
    let none : (method_at p 0).k ≡ 0 = (w.methods 0 w.some_methods).main refl in
    let one : 2 ^ (method_at p 0).k ≡ 1 = ap (λ (k : ℕ). 2 ^ k) none in
    record { method = w.some_methods; set = omega arith }

module _ (text : List ℕ) (w : WellFormed (program_read text)) (H : ℕ) where
  about : (c : Closed) → FirstBroken (program_read text) (lowest (program_read text)) (closed (program_read text)) c H → About (program_read text) c
  about c f = (all_right (About (program_read text)) f.before (c ∷ f.behind) (subst (All (About (program_read text))) f.order (all-about (program_read text) w))).0

  there : (m : ℕ) → Entry (program_read text) m H → is_entry (program_read text) m H ≡ true
  there m e = passed (is_entry (program_read text) m H) (is_entry-of (program_read text) m H e.method e.set)

  not-held-or : (b : Bool) (n : ℕ) → T (not (not b || leb n cmpd)) → cmpd < n
  not-held-or true n t = nleb→lt n cmpd t
  not-held-or false n t = absurd t

  reason-of : (c : Closed) → FirstBroken (program_read text) (lowest (program_read text)) (closed (program_read text)) c H
      → verdict_of text answer_length ≡ broken_at (method_of c) (kind_of c) (node_of c) H → RefusedReason text (method_of c) (kind_of c) (node_of c) H
  unfolding broken_steps
  reason-of (declared_root m) f e =
      let p = program_read text in
      let entry : Entry p m H = record { method = about (declared_root m) f; set = f.set } in
      record {
        body = λ _. record {
          entry = entry;
          worse = nleb→lt (root_table p (lowest p) m H) (declared_table p m H) f.broken;
          reason = ap (λ (v : Verdict). broken_by v p) e ∙ body-about p m 1 H (there m entry) refl;
        };
        main = λ k. let z : ◌≡◌ {A = ℕ} 1 2 = k in absurd (omega arith);
        forked = λ k. let z : ◌≡◌ {A = ℕ} 1 3 = k in absurd (omega arith);
      }
  reason-of main_table f e =
      let p = program_read text in
      let entry : Entry p 0 H = main-entry p w H f.set in
      record {
        body = λ k. let z : ◌≡◌ {A = ℕ} 2 1 = k in absurd (omega arith);
        main = λ _. record {
          entry = entry;
          worse = nleb→lt (lowest p 0 H) cmpd f.broken;
          reason = ap (λ (v : Verdict). broken_by v p) e ∙ entry-about p 0 2 H (there 0 entry) (λ k. let z : ◌≡◌ {A = ℕ} 2 1 = k in absurd (omega arith));
        };
        forked = λ k. let z : ◌≡◌ {A = ℕ} 2 3 = k in absurd (omega arith);
      }
  reason-of (forked_table m n) f e =
      let p = program_read text in
      let entry : Entry p (named_method p m n) H = record { method = about (forked_table m n) f; set = f.set } in
      record {
        body = λ k. let z : ◌≡◌ {A = ℕ} 3 1 = k in absurd (omega arith);
        main = λ k. let z : ◌≡◌ {A = ℕ} 3 2 = k in absurd (omega arith);
        forked = λ _. record {
          entry = entry;
          worse = not-held-or (held H 0) (lowest p (named_method p m n) H) f.broken;
          reason = ap (λ (v : Verdict). broken_by v p) e ∙ entry-about p (named_method p m n) 3 H (there (named_method p m n) entry) (λ k. let z : ◌≡◌ {A = ℕ} 3 1 = k in absurd (omega arith));
        };
      }

-- of every text that is refused by 7
pub refused-reason : (text : List ℕ) (m kind node H : ℕ) → verdict_of text answer_length ≡ broken_at m kind node H → RefusedReason text m kind node H
refused-reason text m kind node H e =
    let given = subst (λ (i : ℕ). Case text i (verdict_of text i)) (length-replicate {A = ℕ} answer_length 0) (demand-1 text (replicate answer_length 0)).given in
    let broken : Case text answer_length (broken_at m kind node H) = subst (Case text answer_length) e given in
    let r = when-refused (program_read text) m kind node H broken.1 in
    let reads = read-exactly text broken.0.short broken.0.lines in
    let named : broken_at m kind node H ≡ broken_at (method_of r.constraint) (kind_of r.constraint) (node_of r.constraint) H = λ i. broken_at (sym r.method i) (sym r.kind i) (sym r.node i) H in
    subst (λ (x : ℕ). RefusedReason text m x node H) r.kind
    (subst (λ (x : ℕ). RefusedReason text x (kind_of r.constraint) node H) r.method
    (subst (λ (x : ℕ). RefusedReason text (method_of r.constraint) (kind_of r.constraint) x H) r.node
    (reason-of text (subst WellFormed (read-program text _ reads) (read-well-formed text _ reads)) H r.constraint r.first (e ∙ named))))
