-- The machine: locks, a memory, threads, and what one step does. It knows no program and no grade. Threads, locks, locations and names are numbers.
-- Assumes nothing.
use Rattle.std.specs.Prelude.{ℕ, suc, Bool, true, false, cond, List, [], ◌∷◌, ◌++◌, ◌≡◌, eqb}

-- ---- the world: what stands for good

-- each location has a field and one guard lock; each thread has a method, and its names stand for locks
pub record World : Type 0 where
  pub field : ℕ → ℕ
  pub guard : ℕ → ℕ
  pub method : ℕ → ℕ
  pub names : ℕ → ℕ → ℕ

-- a thread's own lock: its name 0 stands for it
abbrev pub own : World → (thread : ℕ) → ℕ
own w t = w.names t 0

-- ---- the state: what changes

-- who holds each lock, what each location holds, which threads have begun
pub record State : Type 0 where
  pub holder : ℕ → ℕ
  pub heap : ℕ → ℕ
  pub begun : ℕ → Bool

-- a holder is 0, nobody, or the number after a thread's
abbrev pub nobody : ℕ
nobody = 0

abbrev pub holds : State → (thread lock : ℕ) → Bool
holds s t l = eqb (s.holder l) (suc t)

-- f, but v at i
unfoldable pub changed : {A : Type 0} → (ℕ → A) → (i : ℕ) → (v : A) → ℕ → A
changed f i v j = cond (eqb j i) v (f j)

-- ---- actions

-- to take a lock; to give one back; to read a value of a location, or to write one, with the guard of the location or without it; to begin a thread
pub data Action : Type 0 where
  acquire : (lock : ℕ) → Action
  release : (lock : ℕ) → Action
  access : (location : ℕ) (writing : Bool) (value : ℕ) (guarded : Bool) → Action
  begin : (thread : ℕ) → Action

-- what an action needs: a lock that is taken is free; a lock is given back by its holder; a read sees what is there, and an access shows whether the
-- thread has the guard; a thread begins once, and its own lock is free
abbrev pub Needs : World → (thread : ℕ) → Action → State → Type 0
Needs w t (acquire l) s = s.holder l ≡ nobody
Needs w t (release l) s = s.holder l ≡ suc t
Needs w t (access x true v g) s = g ≡ holds s t (w.guard x)
Needs w t (access x false v g) s = (g ≡ holds s t (w.guard x)) × (s.heap x ≡ v)
Needs w t (begin u) s = (s.begun u ≡ false) × (s.holder (own w u) ≡ nobody)

-- a thread that has begun can take a step if the step's action has what it needs
pub record Can (w : World) (t : ℕ) (a : Action) (s : State) : Type 0 where
  pub begun : s.begun t ≡ true
  pub needs : Needs w t a s

-- what an action changes; a thread that begins takes its own lock
abbrev pub after : World → (thread : ℕ) → Action → State → State
after w t (acquire l) s = record { holder = changed s.holder l (suc t); heap = s.heap; begun = s.begun }
after w t (release l) s = record { holder = changed s.holder l nobody; heap = s.heap; begun = s.begun }
after w t (access x true v g) s = record { holder = s.holder; heap = changed s.heap x v; begun = s.begun }
after w t (access x false v g) s = s
after w t (begin u) s = record { holder = changed s.holder (own w u) (suc u); heap = s.heap; begun = changed s.begun u true }

-- ---- histories

-- an action alone, or joined to the same thread's event before it: both then belong to one invocation that is looked at as a whole
pub record Event : Type 0 where
  pub action : Action
  pub joined : Bool

pub record Step : Type 0 where
  pub thread : ℕ
  pub event : Event

-- the events of one thread, in order
abbrev pub Word : Type 0
Word = List Event

-- the steps of all threads, the latest first
abbrev pub History : Type 0
History = List Step

-- the state after a history
unfoldable pub final : World → State → History → State
final w s [] = s
final w s (x ∷ h) = after w x.thread x.event.action (final w s h)

-- each step could be taken
abbrev pub Possible : World → State → History → Type 0
Possible w s [] = Unit {0}
Possible w s (x ∷ h) = Possible w s h × Can w x.thread x.event.action (final w s h)

-- thread t's events, in order
unfoldable pub word_of : (t : ℕ) → History → Word
word_of t [] = []
word_of t (x ∷ h) = cond (eqb x.thread t) (word_of t h ++ (x.event ∷ [])) (word_of t h)

-- the latest step is thread t's
abbrev pub LatestBy : (t : ℕ) → History → Type 0
LatestBy t [] = ⊥
LatestBy t (x ∷ h) = x.thread ≡ t

-- each joined event comes directly after one of its own thread
abbrev pub Serial : History → Type 0
Serial [] = Unit {0}
Serial (x ∷ h) = Serial h × (x.event.joined ≡ true → LatestBy x.thread h)
