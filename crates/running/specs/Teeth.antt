-- The two statements of `Runs` can fail: an accepted program with a method graded cmpd, of which a run is torn; the same of one access of a wide field;
-- a refused program with an undisciplined run. And what is not promised: that a run gets on, and that a declared table is right of code that is not
-- here. Each is a program, a world, a history and a record of facts about them, among them the program's answer. The programs are written as
-- `Cases` of `meaning` writes them. Proved in `Laws.TeethTorn` (torn, torn_wide), `Laws.TeethRuns` (undisciplined, stub) and `Laws.TeethStill`
-- (standing_still).
-- Assumes nothing.
use Rattle.std.specs.Prelude.{ℕ, zero, suc, ◌+◌, ◌/◌, ◌%◌, ◌^◌, Bool, true, false, cond, List, [], ◌∷◌, ◌⊎◌, ◌≡◌, eqb, ltb, replicate, IsOk}
use Rattle.grades.specs.Grades.{atomic, cmpd}
use Rattle.grades.specs.HeldSets.{no_name}
use Rattle.frames.specs.Program.{Node, Method, Program, method_at}
use Rattle.lines.specs.Lines.{lines}
use Rattle.frames.specs.Frames.{frames_of}
use Rattle.frames.specs.Tables.{program_of}
use Rattle.frames.specs.Reading.{read_text}
use Rattle.meaning.specs.Meaning.{Assignment}
use Rattle.meaning.specs.Lowest.{declared_table}
use Rattle.meaning.specs.Constraints.{accepted, refused, entry_of, answer}
use Rattle.running.specs.Machine.{World, Action, acquire, access, begin, Step, Word, History}
use Rattle.running.specs.Threads.{Code, Names, Locks, View, alone, joined_on, body_of, Does, stopped, idle, narrow, half_wide, wide, cut_first, both, one, other, enough, cut_inside, once_more, has_lock, takes_lock, keeps_lock, asserted, called, forked}
use Rattle.running.specs.Runs.{start, first_locks, Run, Disciplined, Serialised, called_with, at_most_atomic, RunsAsGraded}

-- ---- texts and programs

-- a line is so many digits, which write the number
abbrev pub Line : Type 0
Line = ℕ × ℕ

abbrev pub digits : (count number : ℕ) → (behind : List ℕ) → List ℕ
digits zero number behind = behind
digits (suc count) number behind = digits count (number / 16) (cond (ltb (number % 16) 10) (0x30 + number % 16) (0x37 + number % 16) ∷ behind)

abbrev pub text_of : List Line → List ℕ
text_of [] = []
text_of (l ∷ ls) = digits l.0 l.1 (0x0A ∷ text_of ls)

-- a text without a fault, and the program that it reads as
pub record Reads (text : List Line) (p : Program) : Type 0 where
  pub whole : IsOk (read_text (text_of text))
  pub program : program_of (frames_of (lines (text_of text))) ≡ p

-- nodes and methods as a text has them: four names, and a table of zeros where nothing is declared
abbrev pub node : (op X Y U T0 : ℕ) → Node
node op X Y U T0 = record { op = op; X = X; Y = Y; Z = 0; U = U; names = T0 ∷ 0 ∷ 0 ∷ 0 ∷ [] }

abbrev pub plain : Node
plain = node 0 0 0 0 0

abbrev pub undeclared : (k : ℕ) → List Node → Method
undeclared k nodes = record { k = k; declared = false; table = replicate (2 ^ k) 0; nodes = nodes }

abbrev pub declared_at : (k : ℕ) → List ℕ → List Node → Method
declared_at k table nodes = record { k = k; declared = true; table = table; nodes = nodes }

-- ---- steps as the runs below write them

-- thread t's next event, which begins anew
abbrev pub step : (t : ℕ) → Action → Step
step t a = record { thread = t; event = alone a }

-- thread t's next event, which is joined to the one before
abbrev pub step_joined : (t : ℕ) → Action → Step
step_joined t a = record { thread = t; event = joined_on (alone a) }

-- a memory that holds 0 everywhere
abbrev pub zeroed : ℕ → ℕ
zeroed x = 0

-- the main is thread 0, every other thread runs method 1
abbrev pub workers : ℕ → ℕ
workers zero = 0
workers (suc t) = 1

-- ---- a method graded cmpd can be torn

-- main forks method 1, then writes the narrow unguarded field; method 1 reads the field, and reads it again
abbrev pub reads_twice : Program
reads_twice =
    record {
      fields = record { width = 0; guard = 3 } ∷ [];
      methods =
          undeclared 0 (plain ∷ node 9 0 0 1 0 ∷ plain ∷ plain ∷ node 2 2 3 0 0 ∷ node 3 1 4 0 0 ∷ [])
          ∷ undeclared 1 (plain ∷ node 1 0 0 0 0 ∷ plain ∷ node 1 2 0 0 0 ∷ node 3 1 3 0 0 ∷ [])
          ∷ [];
    }

-- as a text
abbrev pub reads_twice_text : List Line
reads_twice_text =
    (10, 0x010201000B)
    ∷ (6, 0x020003)
    ∷ (42, 0x040000060000000000000000000000000000000000)
    ∷ (42, 0x040100050000000000000000000000000000000000)
    ∷ (26, 0x03000000000000000000000000)
    ∷ (26, 0x03090000000000000100000000)
    ∷ (26, 0x03000000000000000000000000)
    ∷ (26, 0x03000000000000000000000000)
    ∷ (26, 0x03020002000300000000000000)
    ∷ (26, 0x03030001000400000000000000)
    ∷ (26, 0x03000000000000000000000000)
    ∷ (26, 0x03010000000000000000000000)
    ∷ (26, 0x03000000000000000000000000)
    ∷ (26, 0x03010002000000000000000000)
    ∷ (26, 0x03030001000300000000000000)
    ∷ []

abbrev pub reads_twice_tables : List (List ℕ)
reads_twice_tables = (3 ∷ []) ∷ (3 ∷ 3 ∷ []) ∷ []

-- one field; the own lock of each thread has its number. The guard of the locations is a lock that nobody takes.
abbrev pub own_locks : World
own_locks = record { field = λ x. 0; guard = λ x. 9; method = workers; names = λ t j. t }

-- the invocations of method 1 are looked at as a whole
abbrev pub method_one_whole : View
method_one_whole m names locks = eqb m 1

-- as if method 1 were graded atomic: then this is what would be looked at as a whole
abbrev pub method_one_atomic : Assignment
method_one_atomic m H = cond (eqb m 1) atomic cmpd

-- main begins thread 1, which reads 0; main writes 1, and thread 1 reads that
abbrev pub written_between : History
written_between =
    step_joined 1 (access 0 false 1 false)
    ∷ step 0 (access 0 true 1 false)
    ∷ step 1 (access 0 false 0 false)
    ∷ step 0 (begin 1)
    ∷ []

pub record Torn : Type 0 where
  pub reads : Reads reads_twice_text reads_twice
  pub answered : answer reads_twice ≡ accepted 1 reads_twice_tables
  -- thread 1 runs method 1 with its own lock held and no other: its entry there is cmpd, and there is reason for it
  pub graded : entry_of reads_twice_tables 1 1 ≡ cmpd
  pub run : Run reads_twice own_locks method_one_whole zeroed written_between
  pub torn : Serialised own_locks (start zeroed) written_between → ⊥
  -- so it would be wrong to grade it atomic
  pub fails : RunsAsGraded reads_twice method_one_atomic → ⊥

-- ---- one access of a wide field can be torn

-- main forks method 1, then writes the wide unguarded field; method 1 reads it, once
abbrev pub reads_wide : Program
reads_wide =
    record {
      fields = record { width = 1; guard = 3 } ∷ [];
      methods =
          undeclared 0 (plain ∷ node 9 0 0 1 0 ∷ plain ∷ plain ∷ node 2 2 3 0 0 ∷ node 3 1 4 0 0 ∷ [])
          ∷ undeclared 1 (plain ∷ node 1 0 0 0 0 ∷ [])
          ∷ [];
    }

-- as a text
abbrev pub reads_wide_text : List Line
reads_wide_text =
    (10, 0x0102010008)
    ∷ (6, 0x020103)
    ∷ (42, 0x040000060000000000000000000000000000000000)
    ∷ (42, 0x040100020000000000000000000000000000000000)
    ∷ (26, 0x03000000000000000000000000)
    ∷ (26, 0x03090000000000000100000000)
    ∷ (26, 0x03000000000000000000000000)
    ∷ (26, 0x03000000000000000000000000)
    ∷ (26, 0x03020002000300000000000000)
    ∷ (26, 0x03030001000400000000000000)
    ∷ (26, 0x03000000000000000000000000)
    ∷ (26, 0x03010000000000000000000000)
    ∷ []

abbrev pub reads_wide_tables : List (List ℕ)
reads_wide_tables = (3 ∷ []) ∷ (3 ∷ 3 ∷ []) ∷ []

-- the field is locations 0 and 1: thread 1 reads the one, main writes both, thread 1 reads the other
abbrev pub written_within : History
written_within =
    step_joined 1 (access 1 false 1 false)
    ∷ step 0 (access 1 true 1 false)
    ∷ step 0 (access 0 true 1 false)
    ∷ step 1 (access 0 false 0 false)
    ∷ step 0 (begin 1)
    ∷ []

pub record TornWide : Type 0 where
  pub reads : Reads reads_wide_text reads_wide
  pub answered : answer reads_wide ≡ accepted 1 reads_wide_tables
  pub graded : entry_of reads_wide_tables 1 1 ≡ cmpd
  pub run : Run reads_wide own_locks method_one_whole zeroed written_within
  pub torn : Serialised own_locks (start zeroed) written_within → ⊥
  pub fails : RunsAsGraded reads_wide method_one_atomic → ⊥

-- ---- a refused program can be undisciplined

-- main reads a guarded field, and has no name for the guard
abbrev pub reads_unguarded : Program
reads_unguarded =
    record {
      fields = record { width = 0; guard = 1 } ∷ [];
      methods = undeclared 0 (plain ∷ node 1 0 0 0 no_name ∷ []) ∷ [];
    }

-- as a text
abbrev pub reads_unguarded_text : List Line
reads_unguarded_text =
    (10, 0x0101010002)
    ∷ (6, 0x020001)
    ∷ (42, 0x040000020000000000000000000000000000000000)
    ∷ (26, 0x03000000000000000000000000)
    ∷ (26, 0x030100000000000000FF000000)
    ∷ []

-- main reads the field without its guard
abbrev pub read_without : History
read_without = step 0 (access 0 false 0 false) ∷ []

pub record Undisciplined : Type 0 where
  -- kind 2: the main's own table is error
  pub reads : Reads reads_unguarded_text reads_unguarded
  pub answered : answer reads_unguarded ≡ refused 0 2 0 0
  -- whatever is looked at as a whole
  pub run : (view : View) → Run reads_unguarded own_locks view zeroed read_without
  pub undisciplined : Disciplined reads_unguarded own_locks (start zeroed) read_without → ⊥
  -- so it would be wrong to accept it, whatever the grades
  pub fails : (grades : Assignment) → RunsAsGraded reads_unguarded grades → ⊥

-- ---- not promised: that a run gets on

-- main forks methods 1 and 2, which take the locks of their names 1 and 2, the one in this order and the other in that
abbrev pub crosses : Program
crosses =
    record {
      fields = [];
      methods =
          undeclared 0 (plain ∷ node 9 0 0 1 0 ∷ plain ∷ node 9 2 0 2 0 ∷ node 3 1 3 0 0 ∷ [])
          ∷ undeclared 3 (plain ∷ node 6 0 0 0 2 ∷ node 6 1 0 0 1 ∷ [])
          ∷ undeclared 3 (plain ∷ node 6 0 0 0 1 ∷ node 6 1 0 0 2 ∷ [])
          ∷ [];
    }

-- as a text
abbrev pub crosses_text : List Line
crosses_text =
    (10, 0x010300000B)
    ∷ (42, 0x040000050000000000000000000000000000000000)
    ∷ (42, 0x040300030000000000000000000000000000000000)
    ∷ (42, 0x040300030000000000000000000000000000000000)
    ∷ (26, 0x03000000000000000000000000)
    ∷ (26, 0x03090000000000000100000000)
    ∷ (26, 0x03000000000000000000000000)
    ∷ (26, 0x03090002000000000200000000)
    ∷ (26, 0x03030001000300000000000000)
    ∷ (26, 0x03000000000000000000000000)
    ∷ (26, 0x03060000000000000002000000)
    ∷ (26, 0x03060001000000000001000000)
    ∷ (26, 0x03000000000000000000000000)
    ∷ (26, 0x03060000000000000001000000)
    ∷ (26, 0x03060001000000000002000000)
    ∷ []

abbrev pub crosses_tables : List (List ℕ)
crosses_tables = (3 ∷ []) ∷ (2 ∷ 2 ∷ 2 ∷ 2 ∷ 2 ∷ 2 ∷ 0 ∷ 0 ∷ []) ∷ (2 ∷ 2 ∷ 2 ∷ 2 ∷ 2 ∷ 2 ∷ 0 ∷ 0 ∷ []) ∷ []

-- thread 1 runs method 1, and every later one method 2
abbrev pub two_methods : ℕ → ℕ
two_methods zero = 0
two_methods (suc zero) = 1
two_methods (suc (suc t)) = 2

-- a thread's own lock has its number; its names 1 and 2 stand for locks 11 and 12
abbrev pub own_then_shared : (t j : ℕ) → ℕ
own_then_shared t zero = t
own_then_shared t (suc zero) = 11
own_then_shared t (suc (suc j)) = 12

abbrev pub shared_locks : World
shared_locks = record { field = λ x. 0; guard = λ x. 0; method = two_methods; names = own_then_shared }

-- what the theorem looks at as a whole
abbrev pub crosses_view : View
crosses_view = at_most_atomic crosses (entry_of crosses_tables)

-- main begins both threads, and each takes its first lock
abbrev pub each_has_one : History
each_has_one = step 2 (acquire 12) ∷ step 1 (acquire 11) ∷ step 0 (begin 2) ∷ step 0 (begin 1) ∷ []

pub record StandingStill : Type 0 where
  pub reads : Reads crosses_text crosses
  pub answered : answer crosses ≡ accepted 1 crosses_tables
  -- both methods are atomic with the own lock held, as the threads run them
  pub first_graded : entry_of crosses_tables 1 1 ≡ atomic
  pub second_graded : entry_of crosses_tables 2 1 ≡ atomic
  pub run : Run crosses shared_locks crosses_view zeroed each_has_one
  -- what each thread has done is not all of its body
  pub first_inside : Does crosses shared_locks crosses_view (body_of crosses 1) (own_then_shared 1) (first_locks shared_locks 1) (alone (acquire 11) ∷ []) true → ⊥
  pub second_inside : Does crosses shared_locks crosses_view (body_of crosses 2) (own_then_shared 2) (first_locks shared_locks 2) (alone (acquire 12) ∷ []) true → ⊥
  -- no thread can take a step, whatever is looked at as a whole
  pub stands : (view : View) (x : Step) → Run crosses shared_locks view zeroed (x ∷ each_has_one) → ⊥

-- ---- not promised: that a declared table is right of code that is not here

-- method 2 is declared mover, and cmpd where its lock is held; its body is a stub. Method 1 calls it, its name 2 for that lock, synchronised on its
-- name 1. Main forks method 1.
abbrev pub calls_stub : Program
calls_stub =
    record {
      fields = [];
      methods =
          undeclared 0 (plain ∷ node 9 0 0 1 0 ∷ [])
          ∷ undeclared 3 (plain ∷ node 8 0 0 2 2 ∷ node 6 1 0 0 1 ∷ [])
          ∷ declared_at 1 (1 ∷ 3 ∷ []) (plain ∷ [])
          ∷ [];
    }

-- as a text
abbrev pub calls_stub_text : List Line
calls_stub_text =
    (10, 0x0103000006)
    ∷ (42, 0x040000020000000000000000000000000000000000)
    ∷ (42, 0x040300030000000000000000000000000000000000)
    ∷ (42, 0x040100010101030000000000000000000000000000)
    ∷ (26, 0x03000000000000000000000000)
    ∷ (26, 0x03090000000000000100000000)
    ∷ (26, 0x03000000000000000000000000)
    ∷ (26, 0x03080000000000000202000000)
    ∷ (26, 0x03060001000000000001000000)
    ∷ (26, 0x03000000000000000000000000)
    ∷ []

abbrev pub calls_stub_tables : List (List ℕ)
calls_stub_tables = (2 ∷ []) ∷ (2 ∷ 2 ∷ 1 ∷ 1 ∷ 3 ∷ 3 ∷ 3 ∷ 3 ∷ []) ∷ (1 ∷ 3 ∷ []) ∷ []

-- a thread's own lock has its number; all its other names stand for lock 11, so names 1 and 2 are two names for one lock
abbrev pub own_then_one : (t j : ℕ) → ℕ
own_then_one t zero = t
own_then_one t (suc j) = 11

abbrev pub two_names : World
two_names = record { field = λ x. 0; guard = λ x. 0; method = workers; names = own_then_one }

abbrev pub calls_stub_view : View
calls_stub_view = at_most_atomic calls_stub (entry_of calls_stub_tables)

-- main begins thread 1, which takes lock 11, and calls method 2
abbrev pub lock_then_call : History
lock_then_call = step 1 (acquire 11) ∷ step 0 (begin 1) ∷ []

-- somewhere within what was done, method m was called, and the thread then had the locks of exactly the names in S
module _ (p : Program) (w : World) (view : View) (m S : ℕ) where
  abbrev pub Calls : {c : Code} {names : Names} {locks : Locks} {word : Word} {done : Bool} → Does p w view c names locks word done → Type 0
  Calls stopped = ⊥
  Calls idle = ⊥
  Calls (narrow x v g n t) = ⊥
  Calls (half_wide x v g n t) = ⊥
  Calls (wide x v g x' v' g' n t t') = ⊥
  Calls (cut_first d) = Calls d
  Calls (both d d') = Calls d ⊎ Calls d'
  Calls (one d) = Calls d
  Calls (other d) = Calls d
  Calls enough = ⊥
  Calls (cut_inside d) = Calls d
  Calls (once_more d d') = Calls d ⊎ Calls d'
  Calls (has_lock has d) = Calls d
  Calls (takes_lock has d) = Calls d
  Calls (keeps_lock has d) = Calls d
  Calls (asserted d) = Calls d
  Calls (called {m = callee} {locks = locks} names passed d) = ((callee ≡ m) × (called_with (method_at p callee).k names locks ≡ S)) ⊎ Calls d
  Calls (forked thread is) = ⊥

pub record Stub : Type 0 where
  pub reads : Reads calls_stub_text calls_stub
  pub answered : answer calls_stub ≡ accepted 1 calls_stub_tables
  -- method 1 is atomic with the own lock held, as thread 1 runs it
  pub graded : entry_of calls_stub_tables 1 1 ≡ atomic
  -- method 2 is declared cmpd where its lock is held. The rules look at the name: name 2 is not held where method 1 calls it.
  pub declared : declared_table calls_stub 2 1 ≡ cmpd
  pub run : Run calls_stub two_names calls_stub_view zeroed lock_then_call
  -- but the lock is: thread 1 calls method 2 with it, in this run
  pub calls : Calls calls_stub two_names calls_stub_view 2 1 (run.threads 1).does
