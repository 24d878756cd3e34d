-- What a breach says is true: the body of a declared method is graded higher than declared, at one of its held sets.
-- Assumes nothing.
use Rattle.std.specs.Prelude.{ℕ, ◌≤◌, ◌<◌, List, ◌∷◌, ◌≡◌, T, eqb, length, replicate, Ok}
use Rattle.std.proofs.Common.{ap, subst, arith}
use Rattle.std.proofs.Math.Dec.{nleb→lt}
use Rattle.std.proofs.lemmas.List.{length-replicate}
use Rattle.grades.specs.Grades.{error}
use Rattle.frames.specs.Program.{Program, method_at}
use Rattle.frames.specs.Promises.{read-exactly}
use Rattle.frames.specs.Reading.{read_text}
use Rattle.frames.specs.declared.Tables.{Tables}
use Rattle.meaning.specs.Meaning.{root_table}
use Rattle.meaning.proofs.Laws.Meaning.{root-error}
use Rattle.counting.specs.Counting.{All, up_to, only_if}
use Rattle.counting.specs.Laws.Counting.{all_append, all_right, all-together, all-up_to, all-only_if}
use Rattle.meaning.specs.Lowest.{method_count, is_declared, declared_table, lowest}
use Rattle.meaning.specs.Constraints.{Entry, Closed, declared_root, main_table, forked_table, method_of, kind_of, fork_at, forks_of, closed_of, closed_of_all, closed, refused, answer, FirstBroken}
use Rattle.meaning.proofs.Laws.Answers.{when-refused}
use Rattle.checker.specs.Grading.{Verdict, program_read, verdict_of, broken_at, numbers_of}
use Rattle.checker.specs.Demand1.{Case}
use Rattle.checker.proofs.Demand1.{demand-1}
use Rattle.session.specs.Breach.{breach_frame, breach_by, breach_of}
use Rattle.session.specs.SessionFacts.{session-numbers}
use Rattle.session.specs.Writing.{line_of}
use Rattle.frames.specs.Layout.{answer_length}

-- ---- the statement

-- a declared method of a program breaks its declaration at one of its held sets
pub record Breaks (p : Program) (m H : ℕ) : Type 0 where
  pub entry : Entry p m H
  pub declared : T (is_declared p m)
  pub larger : declared_table p m H < root_table p (lowest p) m H

-- the text reads, its program has such a method, and each number has room in its byte
pub record Breach (text : List ℕ) (m H : ℕ) : Type 0 where
  pub tables : Tables
  pub reads : read_text text ≡ Ok tables
  pub breaks : Breaks (program_read text) m H
  pub method : m < 256
  pub set : H < 256
  pub grade : root_table (program_read text) (lowest (program_read text)) m H ≤ error

-- ---- the proof

-- a constraint of kind 1 is that of a declared method of the program
abbrev OfDeclared : Program → Closed → Type 0
OfDeclared p (declared_root m) = (m < method_count p) × T (is_declared p m)
OfDeclared p main_table = Unit
OfDeclared p (forked_table m n) = Unit

all-of-declared : (p : Program) → All (OfDeclared p) (closed p)
unfolding closed closed_of_all closed_of forks_of
all-of-declared p =
    all-together (OfDeclared p) (closed_of p) (up_to (method_count p))
    (all-up_to (λ m. All (OfDeclared p) (closed_of p m)) (method_count p)
    (λ m l. all_append (OfDeclared p) (only_if (is_declared p m) (declared_root m)) _
    (all-only_if (OfDeclared p) (is_declared p m) (declared_root m) (λ t. (l, t)))
    (all_append (OfDeclared p) (only_if (eqb m 0) main_table) _
    (all-only_if (OfDeclared p) (eqb m 0) main_table (λ t. tt))
    (all-together (OfDeclared p) (λ n. only_if (fork_at p m n) (forked_table m n)) (up_to (length (method_at p m).nodes))
    (all-up_to (λ n. All (OfDeclared p) (only_if (fork_at p m n) (forked_table m n))) (length (method_at p m).nodes)
    (λ n h. all-only_if (OfDeclared p) (fork_at p m n) (forked_table m n) (λ t. tt)))))))

-- of a program that is answered so
pub breaks : (p : Program) (m n H : ℕ) → answer p ≡ refused m 1 n H → Breaks p m H
breaks p m n H e = let r = when-refused p m 1 n H e in go r.constraint r.first r.kind r.method
  where
    go : (c : Closed) → FirstBroken p (lowest p) (closed p) c H → kind_of c ≡ 1 → method_of c ≡ m → Breaks p m H
    go (declared_root i) f k is =
        let own = (all_right (OfDeclared p) f.before (declared_root i ∷ f.behind) (subst (All (OfDeclared p)) f.order (all-of-declared p))).0 in
        subst (λ (j : ℕ). Breaks p j H) is
        (record {
          entry = record { method = own.0; set = f.set };
          declared = own.1;
          larger = nleb→lt (root_table p (lowest p) i H) (declared_table p i H) f.broken;
        })
    go main_table f k is = absurd (omega arith)
    go (forked_table i j) f k is = absurd (omega arith)

-- of every text that is refused by 7 with kind 1
pub breach-true : (text : List ℕ) (m n H : ℕ) → verdict_of text answer_length ≡ broken_at m 1 n H → Breach text m H
breach-true text m n H e =
    let given = subst (λ (i : ℕ). Case text i (verdict_of text i)) (length-replicate {A = ℕ} answer_length 0) (demand-1 text (replicate answer_length 0)).given in
    let broken : Case text answer_length (broken_at m 1 n H) = subst (Case text answer_length) e given in
    let small = subst (λ (v : Verdict). ((numbers_of v).method < 256) × ((numbers_of v).set < 256)) e ((session-numbers text).method, (session-numbers text).set) in
    record {
      tables = _;
      reads = read-exactly text broken.0.short broken.0.lines;
      breaks = breaks (program_read text) m n H broken.1;
      method = small.0;
      set = small.1;
      grade = root-error (program_read text) (lowest (program_read text)) m H;
    }

-- whose breach is what is printed
pub breach-line : (text : List ℕ) (m n H : ℕ) → verdict_of text answer_length ≡ broken_at m 1 n H → breach_of text ≡ line_of (breach_frame (program_read text) m H)
unfolding breach_of
breach-line text m n H e = ap (λ (v : Verdict). breach_by v (program_read text)) e
