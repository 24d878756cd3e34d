-- What a run of a program is, and what is said of it: it is disciplined, and it is serialised.
-- Assumes nothing.
use Rattle.std.specs.Prelude.{ℕ, zero, suc, Bool, true, false, [], ◌∷◌, ◌≡◌, eqb, leb}
use Rattle.grades.specs.Grades.{atomic}
use Rattle.grades.specs.HeldSets.{packed}
use Rattle.frames.specs.Program.{Program, field_at, method_at}
use Rattle.counting.specs.Counting.{tabulate}
use Rattle.meaning.specs.Meaning.{Assignment}
use Rattle.running.specs.Machine.{World, own, State, nobody, Action, acquire, release, access, begin, Word, History, final, Possible, word_of, Serial}
use Rattle.running.specs.Threads.{Names, Locks, View, looked, body_of, Does}

-- ---- runs

-- thread 0, which runs the main, has begun; all locks are free; the memory holds anything
abbrev pub start : (heap : ℕ → ℕ) → State
start heap = record { holder = λ l. nobody; heap = heap; begun = λ t. eqb t 0 }

-- the locks that a thread has when it begins: its own and no other, and the main's thread none
abbrev pub first_locks : World → (thread : ℕ) → Locks
first_locks w zero l = false
first_locks w (suc t) l = eqb l (own w (suc t))

-- what thread t has done so far is what its method's body does, from the method's start
pub record ThreadDoes (p : Program) (w : World) (view : View) (t : ℕ) (word : Word) : Type 0 where
  pub body : Word
  pub done : Bool
  pub does : Does p w view (body_of p (w.method t)) (w.names t) (first_locks w t) body done
  pub is : word ≡ looked view (w.method t) (w.names t) (first_locks w t) body

pub record Run (p : Program) (w : World) (view : View) (heap : ℕ → ℕ) (h : History) : Type 0 where
  pub main : w.method 0 ≡ 0
  pub possible : Possible w (start heap) h
  pub threads : (t : ℕ) → ThreadDoes p w view t (word_of t h)

-- ---- disciplined

-- an access keeps its field's guard in the state in which it is made: of a guarded field the thread holds the location's guard; of a write-guarded
-- field it does when it writes; a final field is never written; without a guard all is allowed. No other guard allows anything.
abbrev pub KeepsGuard : (guard : ℕ) → (writing : Bool) → (has_guard : Type 0) → Type 0
KeepsGuard zero writing has_guard = writing ≡ false
KeepsGuard (suc zero) writing has_guard = has_guard
KeepsGuard (suc (suc zero)) writing has_guard = writing ≡ true → has_guard
KeepsGuard (suc (suc (suc zero))) writing has_guard = Unit {0}
KeepsGuard (suc (suc (suc (suc g)))) writing has_guard = ⊥

-- the guard of the field that a location is of
abbrev pub guard_at : Program → World → (location : ℕ) → ℕ
guard_at p w x = (field_at p (w.field x)).guard

abbrev pub Keeps : Program → World → (thread : ℕ) → Action → State → Type 0
Keeps p w t (acquire l) s = Unit {0}
Keeps p w t (release l) s = Unit {0}
Keeps p w t (access x writing v g) s = KeepsGuard (guard_at p w x) writing (s.holder (w.guard x) ≡ suc t)
Keeps p w t (begin u) s = Unit {0}

abbrev pub Disciplined : Program → World → State → History → Type 0
Disciplined p w s [] = Unit {0}
Disciplined p w s (x ∷ h) = Disciplined p w s h × Keeps p w x.thread x.event.action (final w s h)

-- ---- serialised

-- a possible history in which each thread does the same, which ends in the same state, and in which what is looked at as a whole runs without a step of
-- another thread in between
pub record Serialised (w : World) (s : State) (h : History) : Type 0 where
  pub other : History
  pub possible : Possible w s other
  pub words : (t : ℕ) → word_of t other ≡ word_of t h
  pub state : final w s other ≡ final w s h
  pub serial : Serial other

-- ---- what is looked at as a whole

-- the held set that a method is called with: the names whose locks the thread has
abbrev pub called_with : (k : ℕ) → Names → Locks → ℕ
called_with k names locks = packed (tabulate k (λ j. locks (names j)))

-- the invocations whose method is graded at most atomic at exactly the held set that it was called with
abbrev pub at_most_atomic : Program → Assignment → View
at_most_atomic p grades m names locks = leb (grades m (called_with (method_at p m).k names locks)) atomic

-- ---- marks

-- the same steps, marks aside: the same threads and actions in the same order
abbrev pub SameSteps : History → History → Type 0
SameSteps [] [] = Unit {0}
SameSteps [] (y ∷ h') = ⊥
SameSteps (x ∷ h) [] = ⊥
SameSteps (x ∷ h) (y ∷ h') = (x.thread ≡ y.thread) × (x.event.action ≡ y.event.action) × SameSteps h h'

-- the history is, marks aside, a run in which these invocations are looked at as a whole
pub record LookedAt (p : Program) (w : World) (view : View) (heap : ℕ → ℕ) (h : History) : Type 0 where
  pub other : History
  pub run : Run p w view heap other
  pub same : SameSteps other h

-- ---- the statement: grades mean what they say

-- Every run is disciplined. Every run, looked at so that the invocations that are graded at most atomic are whole, is serialised, and its serial history
-- is a run, too. And every run can be looked at so: which invocations are looked at marks events, and changes neither who does what nor in which order.
pub record RunsAsGraded (p : Program) (grades : Assignment) : Type 0 where
  pub disciplined : (w : World) (view : View) (heap : ℕ → ℕ) (h : History) → Run p w view heap h → Disciplined p w (start heap) h
  pub serialised : (w : World) (heap : ℕ → ℕ) (h : History) → Run p w (at_most_atomic p grades) heap h → Serialised w (start heap) h
  pub serial-run : (w : World) (view : View) (heap : ℕ → ℕ) (h : History) → Run p w view heap h → (s : Serialised w (start heap) h)
      → Run p w view heap s.other
  pub looked-at : (w : World) (view view' : View) (heap : ℕ → ℕ) (h : History) → Run p w view heap h → LookedAt p w view' heap h
