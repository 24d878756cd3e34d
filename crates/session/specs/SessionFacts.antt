-- What holds of every session: its contract leaves one outcome; the grades printed are the answer's tables; every number printed is the
-- verdict's own, since none is too large for its bytes.
-- Assumes nothing.
use Rattle.std.specs.Prelude.{ℕ, suc, ◌*◌, ◌-◌, ◌^◌, ◌≤◌, ◌<◌, ◌≡◌, Bool, true, false, cond, List, [], ◌∷◌, ◌++◌, eqb, get_or, take, drop, replicate, Ok, Err}
use Rattle.std.proofs.Common.{ap, sym, ◌∙◌, subst, length-drop, length-take-le, get_or-take, get_or-drop, ext_get_or}
use Rattle.std.proofs.Math.Path.{subst⁻¹}
use Rattle.std.proofs.Math.Logic.{⊎_elim}
use native.Mathlib.Omega.{arith}
use Rattle.std.proofs.Math.Pow.{pow_mono}
use Rattle.std.proofs.Math.ListN.{length, get_or-eq_default}
use Rattle.std.proofs.lemmas.List.{length-replicate}
use Rattle.frames.specs.Layout.{layout, answer_length}
use Rattle.frames.specs.Program.{Program, Method, method_at, no_method}
use Rattle.lines.specs.Lines.{lines, joined, newline}
use Rattle.frames.specs.Tables.{program_of}
use Rattle.frames.specs.Promises.{tables-stand, read-well-formed, read-exactly}
use Rattle.frames.specs.Reading.{read_text}
use Rattle.frames.specs.WellFormed.{WellFormed}
use Rattle.frames.specs.declared.Fault.{Fault}
use Rattle.frames.specs.declared.Tables.{Tables}
use Rattle.frames.specs.declared.Refusal.TheVariants.{Overlong, Malformed, Misplaced, OutOfRange, Unlinked}
use Rattle.grades.specs.HeldSets.{entries}
use Rattle.meaning.specs.Lowest.{method_count, entry_count, is_declared, rounds, lowest}
use Rattle.meaning.specs.Constraints.{Closed, declared_root, main_table, forked_table, method_of, kind_of, node_of, sets_of, fork_at, forks_of, closed_of, closed_of_all, closed, named_method, Answer, accepted, refused, answer, entry_of}
use Rattle.meaning.proofs.Laws.Answers.{when-accepted, when-refused, table-length}
use Rattle.counting.specs.Counting.{All, up_to, only_if}
use Rattle.counting.specs.Laws.Counting.{all_append, all_right, all-together, all-up_to, all-only_if}
use Rattle.solver.specs.Flat.{flat}
use Rattle.solver.specs.Laws.Room.{room_fits}
use Rattle.solver.specs.Laws.Rounds.{rounds-few}
use Rattle.solver.specs.Laws.Flat.{flat-entry, flat-length}
use Rattle.checker.specs.Grading.{Verdict, program_read, verdict_of, broken_at, answer_of, bytes_by_answer, line_refused, numbers_of}
use Rattle.checker.specs.declared.numbers.Numbers.{Numbers}
use Rattle.checker.proofs.Laws.Grading.{right-bytes, read-room}
use Rattle.checker.specs.Demand1.{Gradable, Faulty, Case}
use Rattle.checker.proofs.Demand1.{demand-1}
use Rattle.checker.specs.declared.Refusal.TheVariants.{WrongLength, Text, Broken}
use Rattle.session.specs.Page.{printed}
use Rattle.session.specs.Session.{grades_of, session_of}
use Rattle.counting.specs.Laws.Tests.{lt-or-le}

-- ---- one outcome

pub session-determined : (text old after after' : List ℕ) (r r' : ℕ)
    → r ≡ length (session_of text) → after ≡ printed (session_of text) old
    → r' ≡ length (session_of text) → after' ≡ printed (session_of text) old
    → (r ≡ r') × (after ≡ after')
session-determined text old after after' r r' e p e' p' = (e ∙ sym e', p ∙ sym p')

-- ---- the grades

well-formed-read : (text : List ℕ) (T : Tables) → read_text text ≡ Ok T → WellFormed (program_read text)
well-formed-read text T e = subst (λ (p : Program). WellFormed p) (ap program_of (tables-stand text T e)) (read-well-formed text T e)

-- of an accepted text, the grades printed for method m are its table
pub session-grades : (text old : List ℕ) (T : Tables) (rounds : ℕ) (tables : List (List ℕ)) (m : ℕ)
    → length old ≡ answer_length → read_text text ≡ Ok T → answer (program_read text) ≡ accepted rounds tables
    → m < method_count (program_read text)
    → grades_of (answer_of text old) m (method_at (program_read text) m).k ≡ get_or tables m []
unfolding grades_of method_count entry_count entries method_at no_method entry_of
session-grades text old T rounds tables m long whole is l =
    let p = program_read text in
    let w = well-formed-read text T whole in
    let k = (method_at p m).k in
    let few : 2 ^ k ≤ layout.grades = pow_mono (w.methods m l).names in
    let bytes : answer_of text old ≡ flat (entry_of tables) = right-bytes text old (Ok T) long whole ∙ ap (λ (x : Answer). bytes_by_answer x old) is in
    let size : length (get_or tables m []) ≡ 2 ^ k = ap (λ (t : List (List ℕ)). length (get_or t m [])) (when-accepted p rounds tables is).tables ∙ table-length p (lowest p) m l in
    let here : length (drop (layout.grades * m) (flat (entry_of tables))) ≡ answer_length - layout.grades * m = length-drop (layout.grades * m) (flat (entry_of tables)) ∙ ap (λ (n : ℕ). n - layout.grades * m) (flat-length (entry_of tables)) in
    let taken : length (take (2 ^ k) (drop (layout.grades * m) (flat (entry_of tables)))) ≡ 2 ^ k = length-take-le (2 ^ k) _ (omega (arith, w.few_methods)) in
    ap (λ (b : List ℕ). take (2 ^ k) (drop (layout.grades * m) b)) bytes
    ∙ ext_get_or 0 _ _ (taken ∙ sym size)
    (λ h i. get_or-take (2 ^ k) (drop (layout.grades * m) (flat (entry_of tables))) h 0 (omega arith)
    ∙ (get_or-drop (layout.grades * m) (flat (entry_of tables)) h 0 ∙ flat-entry (entry_of tables) m h (omega (arith, w.few_methods)) (omega arith)))

-- ---- the numbers

-- each number has room in its one byte or its two
pub record Small (n : Numbers) : Type 0 where
  pub line : n.line < 65536
  pub method : n.method < 256
  pub kind : n.kind < 256
  pub node : n.node < 65536
  pub set : n.set < 256
  pub methods : n.methods < 256
  pub rounds : n.rounds < 65536

-- a text has no more lines than bytes
joined_length : (c : ℕ) (ls : List (List ℕ)) → length (joined c ls) ≤ suc (length ls)
unfolding joined
joined_length c [] = omega arith
joined_length c (l ∷ ls) = omega arith

lines-few : (t : List ℕ) → length (lines t) ≤ length t
unfolding lines
lines-few [] = omega arith
lines-few (c ∷ t) = go (eqb c newline) (lines-few t)
  where
    go : (b : Bool) → length (lines t) ≤ length t → length (cond b ((c ∷ []) ∷ lines t) (joined c (lines t))) ≤ suc (length t)
    go true h = omega arith
    go false h = omega (arith, joined_length c (lines t))

module _ (text : List ℕ) where
  line_small : (fault : Fault) (line : ℕ) → Faulty text answer_length fault line → line < 65536
  line_small fault line f =
      let few = lines-few text in
      ⊎_elim (λ w. omega (arith, few, f.short, f.follows, w.0)) (λ w. omega (arith, few, f.short, f.follows, w.0)) f.first.here

  whole : Gradable text answer_length → (T : Tables) × (read_text text ≡ Ok T)
  whole s = (_, read-exactly text s.short s.lines)

  entries-few : WellFormed (program_read text) → (m : ℕ) → entry_count (program_read text) m ≤ layout.grades
  unfolding entry_count entries method_at no_method
  entries-few w m =
      ⊎_elim
      (λ (l : m < length (program_read text).methods). pow_mono (w.methods m l).names)
      (λ (g : length (program_read text).methods ≤ m). subst⁻¹ (λ (M : Method). 2 ^ M.k ≤ layout.grades) (get_or-eq_default (program_read text).methods _ g) (omega arith))
      (lt-or-le m (length (program_read text).methods))

  -- a closed constraint names a method, a node and sets of the program
  Named : Closed → Type 0
  Named c = (method_of c < 256) × (node_of c < 65536) × (kind_of c < 256) × (sets_of (program_read text) c ≤ layout.grades)

  all_named : WellFormed (program_read text) → All Named (closed (program_read text))
  unfolding closed closed_of_all closed_of forks_of Named method_count method_at no_method
  all_named w =
      let p = program_read text in
      all-together Named (closed_of p) (up_to (method_count p))
      (all-up_to (λ m. All Named (closed_of p m)) (method_count p)
      (λ m l. all_append Named (only_if (is_declared p m) (declared_root m)) _
      (all-only_if Named (is_declared p m) (declared_root m) (λ t. (omega (arith, w.few_methods), omega arith, omega arith, entries-few w m)))
      (all_append Named (only_if (eqb m 0) main_table) _
      (all-only_if Named (eqb m 0) main_table (λ t. (omega arith, omega arith, omega arith, omega arith)))
      (all-together Named (λ n. only_if (fork_at p m n) (forked_table m n)) (up_to (length (method_at p m).nodes))
      (all-up_to (λ n. All Named (only_if (fork_at p m n) (forked_table m n))) (length (method_at p m).nodes)
      (λ n h. all-only_if Named (fork_at p m n) (forked_table m n)
      (λ t. (omega (arith, w.few_methods), omega (arith, (w.methods m l).few_nodes), omega arith, entries-few w (named_method p m n)))))))))

  named : WellFormed (program_read text) → (c : Closed) (before behind : List Closed) → closed (program_read text) ≡ before ++ (c ∷ behind) → Named c
  named w c before behind e = (all_right Named before (c ∷ behind) (subst (All Named) e (all_named w))).0

  broken-small : (m k n H : ℕ) → WellFormed (program_read text) → answer (program_read text) ≡ refused m k n H → Small (numbers_of (broken_at m k n H))
  unfolding Named
  broken-small m k n H w e =
      let r = when-refused (program_read text) m k n H e in
      let c = r.constraint in
      let s = named w c r.first.before r.first.behind r.first.order in
      record {
        line = omega arith;
        method = omega (arith, r.method, s.0);
        kind = omega (arith, r.kind, s.2);
        node = omega (arith, r.node, s.1);
        set = omega (arith, r.first.set, s.3);
        methods = omega arith;
        rounds = omega arith;
      }

  rounds-small : (T : Tables) → read_text text ≡ Ok T → rounds (program_read text) ≤ 4096
  rounds-small T e =
      subst (λ (p : Program). rounds p ≤ 4096) (ap program_of (tables-stand text T e))
      (rounds-few T.bytes (room_fits T.bytes (read-room text T e)))

  line-numbers : (number line : ℕ) → line < 65536 → Small (line_refused number line)
  line-numbers number line h =
      record { line = h; method = omega arith; kind = omega arith; node = omega arith; set = omega arith; methods = omega arith; rounds = omega arith }

  case-small : (v : Verdict) → Case text answer_length v → Small (numbers_of v)
  unfolding method_count
  case-small (Ok a) c =
      let (T, e) = whole c.0 in
      let few = (well-formed-read text T e).few_methods in
      let bound = rounds-small T e in
      let is = (when-accepted (program_read text) a.rounds c.1.0 c.1.1).rounds in
      record { line = omega arith; method = omega arith; kind = omega arith; node = omega arith; set = omega arith; methods = omega (arith, c.2, few); rounds = omega (arith, is, bound) }
  case-small (Err WrongLength) c = line-numbers 1 0 (omega arith)
  case-small (Err (Text Overlong)) c = line-numbers 2 0 (omega arith)
  case-small (Err (Text (Malformed line))) c = line-numbers 3 line (line_small _ line c)
  case-small (Err (Text (Misplaced line))) c = line-numbers 4 line (line_small _ line c)
  case-small (Err (Text (OutOfRange line))) c = line-numbers 5 line (line_small _ line c)
  case-small (Err (Text (Unlinked line))) c = line-numbers 6 line (line_small _ line c)
  case-small (Err (Broken b)) c = let (T, e) = whole c.0 in broken-small b.method b.kind b.node b.set (well-formed-read text T e) c.1

  -- so that no number of a session is a remainder
  pub session-numbers : Small (numbers_of (verdict_of text answer_length))
  session-numbers =
      case-small (verdict_of text answer_length)
      (subst (λ (n : ℕ). Case text n (verdict_of text n)) (length-replicate {A = ℕ} answer_length 0) (demand-1 text (replicate answer_length 0)).given)
