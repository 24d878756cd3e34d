-- Why the torn runs of `Teeth` have no serial history. In a serial one, a thread that reads twice, the second time joined to the first, sees one and the
-- same memory, that of an earlier part of the history.
-- Assumes nothing.
use Rattle.std.specs.Prelude.{ℕ, zero, suc, Bool, cond, ◌≡◌, T, leb}
use Rattle.std.proofs.Math.Bool.{true, false}
use mathlib.Core.List.{[], ◌∷◌, ◌++◌, append-nil, append_assoc}
use Rattle.std.proofs.Math.Path.{refl, subst, subst₃, fun_ext}
use Rattle.std.proofs.Common.{sym, ap, ap₂, subst₂, ◌∙◌, eqb→eq}
use Rattle.std.proofs.Math.Dec.{eqb, eqb_refl}
use Rattle.grades.specs.Grades.{atomic, cmpd}
use Rattle.frames.specs.Program.{Program}
use Rattle.running.specs.Machine.{World, State, changed, Action, acquire, release, access, begin, Can, after, Event, Step, Word, History, final, Possible, word_of, LatestBy, Serial}
use Rattle.running.specs.Threads.{alone, joined_on, View}
use Rattle.running.specs.Runs.{start, Run, Serialised, at_most_atomic, RunsAsGraded}
use Rattle.running.specs.Teeth.{zeroed, reads_twice, own_locks, method_one_whole, method_one_atomic, written_between, reads_wide, written_within, Torn, TornWide}
use Rattle.running.proofs.Laws.TeethTexts.{readings}
use Rattle.running.proofs.Laws.TeethAnswers.{answers}
use Rattle.running.proofs.Laws.TeethRuns.{unlike, not-0, not-1, torn-run, torn_wide-run}

-- ---- words

abbrev Some : Word → Type 0
Some [] = ⊥
Some (e ∷ word) = Unit {0}

pub cons-some : {e : Event} {word : Word} → e ∷ word ≡ [] → ⊥
cons-some empty = subst Some empty tt

pub end-some : (word : Word) (e : Event) → word ++ (e ∷ []) ≡ [] → ⊥
end-some [] e empty = cons-some empty
end-some (f ∷ word) e empty = cons-some empty

pub head-same : {e e' : Event} {word word' : Word} → e ∷ word ≡ e' ∷ word' → e ≡ e'
head-same same = cc

pub tail-same : {e e' : Event} {word word' : Word} → e ∷ word ≡ e' ∷ word' → word ≡ word'
tail-same same = cc

-- two words that end in an event are the same if they are the same before it and end in the same
record EndSame (word : Word) (e : Event) (word' : Word) (e' : Event) : Type 0 where
  before : word ≡ word'
  last : e ≡ e'

end_same : (word word' : Word) (e e' : Event) → word ++ (e ∷ []) ≡ word' ++ (e' ∷ []) → EndSame word e word' e'
end_same [] [] e e' same = record { before = refl; last = head-same same }
end_same [] (f ∷ word') e e' same = absurd (end-some word' e' (sym (tail-same same)))
end_same (f ∷ word) [] e e' same = absurd (end-some word e (tail-same same))
end_same (f ∷ word) (f' ∷ word') e e' same =
    let rest : EndSame word e word' e' = end_same word word' e e' (tail-same same) in
    record { before = ap₂ {C = Word} (λ x xs. x ∷ xs) (head-same same) rest.before; last = rest.last }

-- ---- a thread's word, by its latest step

pub word-own : (t : ℕ) (y : Step) (h : History) → eqb y.thread t ≡ true → word_of t (y ∷ h) ≡ word_of t h ++ (y.event ∷ [])
unfolding word_of
word-own t y h own = rw own refl

word_else : (t : ℕ) (y : Step) (h : History) → eqb y.thread t ≡ false → word_of t (y ∷ h) ≡ word_of t h
unfolding word_of
word_else t y h else = rw else refl

thread-is : (t : ℕ) (y : Step) → eqb y.thread t ≡ true → y.thread ≡ t
thread-is t y own = eqb→eq y.thread t (rw own tt)

pub is-thread : (t : ℕ) (y : Step) → y.thread ≡ t → eqb y.thread t ≡ true
is-thread t y is = rw is (passes (eqb t t) (eqb_refl t))
  where
    passes : (b : Bool) → T b → b ≡ true
    passes true yes' = refl
    passes false none = absurd none

-- ---- an earlier part of a history

module _ (w : World) (s : State) where
  -- h is k and some later steps
  record Earlier (h k : History) : Type 0 where
    possible : Possible w s k
    later : ℕ → Word
    words : (t : ℕ) → word_of t h ≡ word_of t k ++ later t

  earlier-self : (h : History) → Possible w s h → Earlier h h
  earlier-self h possible = record { possible = possible; later = λ t. []; words = λ t. sym (append-nil (word_of t h)) }

  earlier_on : (y : Step) (h k : History) → Earlier h k → Earlier (y ∷ h) k
  earlier_on y h k earlier = record { possible = earlier.possible; later = later; words = λ t. words t (eqb y.thread t) refl }
    where
      later : ℕ → Word
      later t = cond (eqb y.thread t) (earlier.later t ++ (y.event ∷ [])) (earlier.later t)

      words : (t : ℕ) (own : Bool) → eqb y.thread t ≡ own
          → word_of t (y ∷ h) ≡ word_of t k ++ cond (eqb y.thread t) (earlier.later t ++ (y.event ∷ [])) (earlier.later t)
      words t true own = rw own (word-own t y h own ∙ (rw (earlier.words t) (append_assoc (word_of t k) (earlier.later t) (y.event ∷ []))))
      words t false own = rw own (word_else t y h own ∙ earlier.words t)

  -- ---- two reads

  -- at an earlier part of the history, at which thread t has done nothing, the memory held v at x and v' at x'
  record BothSeen (h : History) (t x v x' v' : ℕ) : Type 0 where
    part : History
    earlier : Earlier h part
    none : word_of t part ≡ []
    first : (final w s part).heap x ≡ v
    second : (final w s part).heap x' ≡ v'

  -- thread t has read x and, joined to that, x', and no more
  module _ (t x v x' v' : ℕ) (g g' : Bool) where
    abbrev first_read : Event
    first_read = alone (access x false v g)

    abbrev second_read : Event
    second_read = joined_on (alone (access x' false v' g'))

    abbrev two_reads : Word
    two_reads = first_read ∷ second_read ∷ []

    -- the second read is the latest step, and the first directly below it: a read changes nothing, so both see the memory below them
    seen_below : (y z : Step) (h : History) → Possible w s (y ∷ z ∷ h) → y.event ≡ second_read → z.event ≡ first_read → word_of t h ≡ []
        → BothSeen (y ∷ z ∷ h) t x v x' v'
    unfolding final
    seen_below y z h possible second first none =
        record {
          part = h;
          earlier = earlier_on y (z ∷ h) h (earlier_on z h h (earlier-self h possible.0.0));
          none = none;
          first = first_can.needs.1;
          second = second_can.needs.1;
        }
      where
        first_can : Can w z.thread (access x false v g) (final w s h)
        first_can = subst (λ (a : Action). Can w z.thread a (final w s h)) (ap (λ e. e.action) first) possible.0.1

        second_can : Can w y.thread (access x' false v' g') (final w s h)
        second_can =
            subst₂
            (λ (a b : Action). Can w y.thread a (after w z.thread b (final w s h)))
            (ap (λ e. e.action) second)
            (ap (λ e. e.action) first)
            possible.1

    seen-on : (y : Step) (h : History) → BothSeen h t x v x' v' → BothSeen (y ∷ h) t x v x' v'
    seen-on y h seen =
        record {
          part = seen.part;
          earlier = earlier_on y h seen.part seen.earlier;
          none = seen.none;
          first = seen.first;
          second = seen.second;
        }

    -- the second read is the latest step: being joined, it comes directly after a step of its own thread, which is the first
    seen-latest : (y : Step) (h : History) → Possible w s (y ∷ h) → LatestBy y.thread h → y.thread ≡ t → y.event ≡ second_read
        → word_of t h ≡ first_read ∷ [] → BothSeen (y ∷ h) t x v x' v'
    seen-latest y [] possible latest is second words = absurd latest
    seen-latest y (z ∷ h) possible latest is second words =
        seen_below y z h possible second ends.last ends.before
      where
        ends : EndSame (word_of t h) z.event [] first_read
        ends = end_same (word_of t h) [] z.event first_read (sym (word-own t z h (is-thread t z (latest ∙ is))) ∙ words)

    both-seen : (h : History) → Possible w s h → Serial h → word_of t h ≡ two_reads → BothSeen h t x v x' v'
    unfolding word_of
    both-seen [] possible serial words = absurd (cons-some (sym words))
    both-seen (y ∷ h) possible serial words = step (both-seen h possible.0 serial.0) (eqb y.thread t) refl
      where
        step : (word_of t h ≡ two_reads → BothSeen h t x v x' v') → (own : Bool) → eqb y.thread t ≡ own → BothSeen (y ∷ h) t x v x' v'
        step further true own =
            seen-latest y h possible (serial.1 (ap (λ e. e.joined) ends.last)) (thread-is t y own) ends.last ends.before
          where
            ends : EndSame (word_of t h) y.event (first_read ∷ []) second_read
            ends = end_same (word_of t h) (first_read ∷ []) y.event second_read (sym (word-own t y h own) ∙ words)
        step further false own = seen-on y h (further (sym (word_else t y h own) ∙ words))

-- ---- torn

-- to look at method 1's invocations as a whole is to look at them as if it were graded atomic
atomic-whole : (p : Program) → method_one_whole ≡ at_most_atomic p method_one_atomic
atomic-whole p = fun_ext λ m. fun_ext λ names. fun_ext λ locks. at (eqb m 1)
  where
    at : (is_one : Bool) → is_one ≡ leb (cond is_one atomic cmpd) atomic
    at true = refl
    at false = refl

not-serialised : Serialised own_locks (start zeroed) written_between → ⊥
unfolding word_of
not-serialised r =
    unlike (sym seen.first ∙ seen.second) tt
  where
    seen : BothSeen own_locks (start zeroed) r.other 1 0 0 0 1
    seen = both-seen own_locks (start zeroed) 1 0 0 0 1 false false r.other r.possible r.serial (r.words 1)

pub torn : Torn
torn = record { reads = readings.reads_twice-reads; answered = answers.reads_twice-answered; graded = answers.reads_twice-graded; run = torn-run; torn = not-serialised; fails = fails }
  where
    run : Run reads_twice own_locks (at_most_atomic reads_twice method_one_atomic) zeroed written_between
    run = subst (λ (view : View). Run reads_twice own_locks view zeroed written_between) (atomic-whole reads_twice) torn-run

    fails : RunsAsGraded reads_twice method_one_atomic → ⊥
    fails right = not-serialised (right.serialised own_locks zeroed written_between run)

-- ---- what one thread's word makes of the memory

abbrev written : Action → (ℕ → ℕ) → ℕ → ℕ
written (acquire l) heap = heap
written (release l) heap = heap
written (access x true v g) heap = changed heap x v
written (access x false v g) heap = heap
written (begin u) heap = heap

abbrev writes : Word → (ℕ → ℕ) → ℕ → ℕ
writes [] heap = heap
writes (e ∷ word) heap = writes word (written e.action heap)

writes_end : (word : Word) (e : Event) (heap : ℕ → ℕ) → writes (word ++ (e ∷ [])) heap ≡ written e.action (writes word heap)
writes_end [] e heap = refl
writes_end (f ∷ word) e heap = writes_end word e (written f.action heap)

after-heap : (w : World) (t : ℕ) (a : Action) (s : State) → (after w t a s).heap ≡ written a s.heap
after-heap w t (acquire l) s = refl
after-heap w t (release l) s = refl
after-heap w t (access x true v g) s = refl
after-heap w t (access x false v g) s = refl
after-heap w t (begin u) s = refl

none_below : (t : ℕ) (y : Step) (h : History) → word_of t (y ∷ h) ≡ [] → word_of t h ≡ []
none_below t y h none = go (eqb y.thread t) refl
  where
    go : (own : Bool) → eqb y.thread t ≡ own → word_of t h ≡ []
    go true own = absurd (end-some (word_of t h) y.event (sym (word-own t y h own) ∙ none))
    go false own = sym (word_else t y h own) ∙ none

-- if no thread but the main has done anything, the memory is what the main's word makes of it
main-heap : (w : World) (s : State) (h : History) → ((t : ℕ) → word_of (suc t) h ≡ []) → (final w s h).heap ≡ writes (word_of 0 h) s.heap
unfolding final word_of
main-heap w s [] none = refl
main-heap w s (y ∷ h) none = go y.thread refl (main-heap w s h (λ t. none_below (suc t) y h (none t)))
  where
    go : (u : ℕ) → y.thread ≡ u → (final w s h).heap ≡ writes (word_of 0 h) s.heap
        → (final w s (y ∷ h)).heap ≡ writes (word_of 0 (y ∷ h)) s.heap
    go zero is below =
        after-heap w y.thread y.event.action (final w s h)
        ∙ (ap (written y.event.action) below
        ∙ (sym (writes_end (word_of 0 h) y.event s.heap)
        ∙ ap (λ word. writes word s.heap) (sym (word-own 0 y h (is-thread 0 y is)))))
    go (suc u) is below = absurd (end-some (word_of (suc u) h) y.event (sym (word-own (suc u) y h (is-thread (suc u) y is)) ∙ none u))

-- ---- torn wide

front-none : (word later : Word) → [] ≡ word ++ later → word ≡ []
front-none [] later none = refl
front-none (e ∷ word) later none = absurd (cons-some (sym none))

-- main's events, in order: wherever it has come to, the second location does not hold 1 while the first holds 0
abbrev begun : Event
begun = alone (begin 1)

abbrev first_written : Event
first_written = alone (access 0 true 1 false)

abbrev second_written : Event
second_written = alone (access 1 true 1 false)

apart : (word later : Word) → begun ∷ first_written ∷ second_written ∷ [] ≡ word ++ later → writes word zeroed 0 ≡ 0
    → writes word zeroed 1 ≡ 1 → ⊥
unfolding changed
apart [] later is first second = unlike second tt
apart (a ∷ []) later is first second = unlike (subst (λ (e : Event). writes (e ∷ []) zeroed 1 ≡ 1) (sym (head-same is)) second) tt
apart (a ∷ b ∷ []) later is first second =
    unlike (subst₂ (λ (e f : Event). writes (e ∷ f ∷ []) zeroed 1 ≡ 1) (sym (head-same is)) (sym (head-same (tail-same is))) second) tt
apart (a ∷ b ∷ c ∷ []) later is first second =
    unlike
    (subst₃
    (λ (e f g : Event). writes (e ∷ f ∷ g ∷ []) zeroed 0 ≡ 0)
    (sym (head-same is))
    (sym (head-same (tail-same is)))
    (sym (head-same (tail-same (tail-same is))))
    first)
    tt
apart (a ∷ b ∷ c ∷ d ∷ word) later is first second = cons-some (sym (tail-same (tail-same (tail-same is))))

not-serialised-wide : Serialised own_locks (start zeroed) written_within → ⊥
unfolding word_of
not-serialised-wide r =
    apart (word_of 0 seen.part) (seen.earlier.later 0) (sym (r.words 0) ∙ seen.earlier.words 0) (at 0 ∙ seen.first) (at 1 ∙ seen.second)
  where
    seen : BothSeen own_locks (start zeroed) r.other 1 0 0 1 1
    seen = both-seen own_locks (start zeroed) 1 0 0 1 1 false false r.other r.possible r.serial (r.words 1)

    quiet : (t : ℕ) → word_of (suc (suc t)) written_within ≡ []
    quiet t = rw (not-0 (suc t), not-1 t)

    -- at that part of the history no thread but the main has done anything
    none : (t : ℕ) → word_of (suc t) seen.part ≡ []
    none zero = seen.none
    none (suc t) =
        front-none
        (word_of (suc (suc t)) seen.part)
        (seen.earlier.later (suc (suc t)))
        (sym (r.words (suc (suc t)) ∙ quiet t) ∙ seen.earlier.words (suc (suc t)))

    at : (x : ℕ) → writes (word_of 0 seen.part) zeroed x ≡ (final own_locks (start zeroed) seen.part).heap x
    at x = ap (λ heap. heap x) (sym (main-heap own_locks (start zeroed) seen.part none))

pub torn_wide : TornWide
torn_wide = record { reads = readings.reads_wide-reads; answered = answers.reads_wide-answered; graded = answers.reads_wide-graded; run = torn_wide-run; torn = not-serialised-wide; fails = fails }
  where
    run : Run reads_wide own_locks (at_most_atomic reads_wide method_one_atomic) zeroed written_within
    run = subst (λ (view : View). Run reads_wide own_locks view zeroed written_within) (atomic-whole reads_wide) torn_wide-run

    fails : RunsAsGraded reads_wide method_one_atomic → ⊥
    fails right = not-serialised-wide (right.serialised own_locks zeroed written_within run)
