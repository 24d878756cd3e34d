-- Why the run of `Teeth` that stands still does: each thread's next step is known from its code, and none of them can be taken. For this, what code
-- does is read backwards: of each kind of code, the ways in which it can have done a word.
-- Assumes nothing.
use Rattle.std.specs.Prelude.{ℕ, zero, suc, ◌+◌, ◌≤◌, Bool, true, false, cond, List, [], ◌∷◌, ◌++◌, map, ◌⊎◌, ◌≡◌, eqb, length}
use Rattle.std.proofs.Common.{arith, true≢false, inl, inr, sym, ap, subst, ◌∙◌, length-append}
use Rattle.std.proofs.Math.Path.{refl}
use Rattle.std.proofs.Math.Dec.{eqb-suc-zero, eqb-suc-suc}
use Rattle.frames.specs.Program.{Program, plain_node, no_method, method_at, node_at}
use Rattle.meaning.specs.Meaning.{root_of, op_of, first_name}
use Rattle.running.specs.Machine.{World, State, nobody, changed, Action, acquire, release, access, begin, Can, Event, Step, Word, final, word_of}
use Rattle.running.specs.Threads.{Code, nothing, accessing, in_order, either, again, locking, whole, calling, forking, code_below, code_at, body_of, Names, Locks, alone, joined_on, as_whole, View, looked, Touches, Passed, Does, stopped, idle, narrow, half_wide, wide, cut_first, both, one, other, enough, cut_inside, once_more, has_lock, takes_lock, keeps_lock, asserted, called, forked}
use Rattle.running.specs.Runs.{start, first_locks, ThreadDoes, Run}
use Rattle.running.specs.Teeth.{zeroed, crosses, own_then_shared, shared_locks, crosses_view, each_has_one, StandingStill}
use Rattle.running.proofs.Laws.TeethTexts.{readings}
use Rattle.running.proofs.Laws.TeethAnswers.{answers}
use Rattle.running.proofs.Laws.TeethRuns.{unlike, standing_still-run}
use Rattle.running.proofs.Laws.TeethTorn.{cons-some, end-some, head-same, tail-same, word-own, is-thread}

-- ---- what code does, read backwards

-- cut off before the first event
record Cut (word : Word) (done : Bool) : Type 0 where
  none : word ≡ []
  cut : done ≡ false

module _ (p : Program) (w : World) (view : View) where
  record Once (writing : Bool) (U T0 : ℕ) (names : Names) (word : Word) : Type 0 where
    location : ℕ
    value : ℕ
    guarded : Bool
    touches : Touches p w names U T0 location
    is : word ≡ alone (access location writing value guarded) ∷ []

  record Twice (writing : Bool) (U T0 : ℕ) (names : Names) (word : Word) : Type 0 where
    location : ℕ
    value : ℕ
    guarded : Bool
    location' : ℕ
    value' : ℕ
    guarded' : Bool
    touches : Touches p w names U T0 location
    touches' : Touches p w names U T0 location'
    is : word ≡ alone (access location writing value guarded) ∷ alone (access location' writing value' guarded') ∷ []

  -- the one code, then the other
  record Both (c d : Code) (names : Names) (locks : Locks) (word : Word) (done : Bool) : Type 0 where
    front : Word
    back : Word
    first : Does p w view c names locks front true
    second : Does p w view d names locks back done
    is : word ≡ front ++ back

  -- the events of a block that takes lock l: it was taken, and, once all inside was done, perhaps given back
  abbrev Block : (l : ℕ) → (inside : Word) → (finished : Bool) → Word → (done : Bool) → Type 0
  Block l inside finished word done =
      ((done ≡ false) × (word ≡ alone (acquire l) ∷ inside))
      ⊎ ((finished ≡ true) × (word ≡ alone (acquire l) ∷ (inside ++ (alone (release l) ∷ []))))

  -- the lock was not had, and was taken
  record Taken (l : ℕ) (c : Code) (names : Names) (locks : Locks) (word : Word) (done : Bool) : Type 0 where
    inside : Word
    finished : Bool
    free : locks (names l) ≡ false
    does : Does p w view c names (changed locks (names l) true) inside finished
    is : Block (names l) inside finished word done

  record Called (m : ℕ) (Ts : List ℕ) (names : Names) (locks : Locks) (word : Word) (done : Bool) : Type 0 where
    callee : Names
    passed : Passed (method_at p m).k Ts names callee
    body : Word
    does : Does p w view (body_of p m) callee locks body done
    is : word ≡ looked view m callee locks body

  abbrev By : Code → Names → Locks → Word → (done : Bool) → Type 0
  By nothing names locks word done = word ≡ []
  By (accessing writing U T0) names locks word done = Cut word done ⊎ (Once writing U T0 names word ⊎ Twice writing U T0 names word)
  By (in_order c d) names locks word done = ((done ≡ false) × Does p w view c names locks word false) ⊎ Both c d names locks word done
  By (either c d) names locks word done = Does p w view c names locks word done ⊎ Does p w view d names locks word done
  By (again c) names locks word done = (word ≡ []) ⊎ (((done ≡ false) × Does p w view c names locks word false) ⊎ Both c (again c) names locks word done)
  By (locking l c) names locks word done =
      Cut word done ⊎ (((locks (names l) ≡ true) × Does p w view c names locks word done) ⊎ Taken l c names locks word done)
  By (whole c) names locks word done = (inside : Word) × Does p w view c names locks inside done × (word ≡ as_whole inside)
  By (calling m Ts) names locks word done = Cut word done ⊎ Called m Ts names locks word done
  By (forking m) names locks word done = Cut word done ⊎ ((thread : ℕ) × (w.method thread ≡ m) × (word ≡ alone (begin thread) ∷ []))

  stopped_by : (c : Code) (names : Names) (locks : Locks) → By c names locks [] false
  stopped_by nothing names locks = refl
  stopped_by (accessing writing U T0) names locks = inl (record { none = refl; cut = refl })
  stopped_by (in_order c d) names locks = inl (refl, stopped)
  stopped_by (either c d) names locks = inl stopped
  stopped_by (again c) names locks = inl refl
  stopped_by (locking l c) names locks = inl (record { none = refl; cut = refl })
  stopped_by (whole c) names locks = ([], stopped, refl)
  stopped_by (calling m Ts) names locks = inl (record { none = refl; cut = refl })
  stopped_by (forking m) names locks = inl (record { none = refl; cut = refl })

  -- how code can have done a word
  by : {c : Code} {names : Names} {locks : Locks} {word : Word} {done : Bool} → Does p w view c names locks word done → By c names locks word done
  by (stopped {c = c} {names = names} {locks = locks}) = stopped_by c names locks
  by idle = refl
  by (narrow x v g is touches) = inr (inl (record { location = x; value = v; guarded = g; touches = touches; is = refl }))
  by (half_wide x v g is touches) = inr (inl (record { location = x; value = v; guarded = g; touches = touches; is = refl }))
  by (wide x v g x' v' g' is touches touches') =
      inr
      (inr
      (record {
        location = x;
        value = v;
        guarded = g;
        location' = x';
        value' = v';
        guarded' = g';
        touches = touches;
        touches' = touches';
        is = refl;
      }))
  by (cut_first d) = inl (refl, d)
  by (both d d') = inr (record { front = _; back = _; first = d; second = d'; is = refl })
  by (one d) = inl d
  by (other d) = inr d
  by enough = inl refl
  by (cut_inside d) = inr (inl (refl, d))
  by (once_more d d') = inr (inr (record { front = _; back = _; first = d; second = d'; is = refl }))
  by (has_lock has d) = inr (inl (has, d))
  by (takes_lock free d) = inr (inr (record { inside = _; finished = true; free = free; does = d; is = inr (refl, refl) }))
  by (keeps_lock free d) = inr (inr (record { inside = _; finished = _; free = free; does = d; is = inl (refl, refl) }))
  by (asserted d) = (_, d, refl)
  by (called callee passed d) = inr (record { callee = callee; passed = passed; body = _; does = d; is = refl })
  by (forked thread is) = inr (thread, is, refl)

  -- ---- two locks, one within the other

  -- code that takes a free lock, and does nothing with it, begins by that
  acquires : (j : ℕ) (names : Names) (locks : Locks) (word : Word) (done : Bool) → locks (names j) ≡ false
      → Does p w view (locking j nothing) names locks word done
      → Cut word done ⊎ ((later : Word) × (word ≡ alone (acquire (names j)) ∷ later))
  acquires j names locks word done free does = go (by does)
    where
      go : By (locking j nothing) names locks word done → Cut word done ⊎ ((later : Word) × (word ≡ alone (acquire (names j)) ∷ later))
      go (inl cut) = inl cut
      go (inr (inl has)) = absurd (true≢false (sym has.0 ∙ free))
      go (inr (inr taken)) = ends taken.is
        where
          ends : Block (names j) taken.inside taken.finished word done → Cut word done ⊎ ((later : Word) × (word ≡ alone (acquire (names j)) ∷ later))
          ends (inl is) = inr (taken.inside, is.1)
          ends (inr is) = inr (taken.inside ++ (alone (release (names j)) ∷ []), is.1)

  -- so code that takes two free locks goes on, after its first event, by taking the second
  next-acquires : (i j : ℕ) (names : Names) (locks : Locks) (word : Word) (done : Bool) → locks (names i) ≡ false
      → changed locks (names i) true (names j) ≡ false → Does p w view (locking i (locking j nothing)) names locks word done
      → (e f : Event) (rest : Word) → word ≡ e ∷ f ∷ rest → f.action ≡ acquire (names j)
  next-acquires i j names locks word done free free' does e f rest starts = go (by does)
    where
      go : By (locking i (locking j nothing)) names locks word done → f.action ≡ acquire (names j)
      go (inl cut) = absurd (cons-some (sym starts ∙ cut.none))
      go (inr (inl has)) = absurd (true≢false (sym has.0 ∙ free))
      go (inr (inr taken)) = ends taken.is (acquires j names (changed locks (names i) true) taken.inside taken.finished free' taken.does)
        where
          ends : Block (names i) taken.inside taken.finished word done
              → Cut taken.inside taken.finished ⊎ ((later : Word) × (taken.inside ≡ alone (acquire (names j)) ∷ later))
              → f.action ≡ acquire (names j)
          ends (inl is) (inl cut) = absurd (cons-some (tail-same (sym starts ∙ is.1) ∙ cut.none))
          ends (inl is) (inr takes) = ap (λ e. e.action) (head-same (tail-same (sym starts ∙ is.1) ∙ takes.1))
          ends (inr is) (inl cut) = absurd (true≢false (sym is.0 ∙ cut.cut))
          ends (inr is) (inr takes) =
              ap (λ e. e.action) (head-same (tail-same (sym starts ∙ is.1) ∙ ap (λ u. u ++ (alone (release (names i)) ∷ [])) takes.1))

  -- code that takes a free lock is not done after its first event: it still has to give the lock back
  not_done : (i : ℕ) (c : Code) (names : Names) (locks : Locks) (e : Event) → locks (names i) ≡ false
      → Does p w view (locking i c) names locks (e ∷ []) true → ⊥
  not_done i c names locks e free does = go (by does)
    where
      go : By (locking i c) names locks (e ∷ []) true → ⊥
      go (inl cut) = cons-some cut.none
      go (inr (inl has)) = true≢false (sym has.0 ∙ free)
      go (inr (inr taken)) = ends taken.is
        where
          ends : Block (names i) taken.inside taken.finished (e ∷ []) true → ⊥
          ends (inl is) = true≢false is.0
          ends (inr is) = end-some taken.inside (alone (release (names i))) (sym (tail-same is.1))

  -- ---- at most so many events: of nothing, of a fork, of one code and then another

  nothing-short : (names : Names) (locks : Locks) (word : Word) (done : Bool) → Does p w view nothing names locks word done → length word ≤ 0
  nothing-short names locks word done does = rw (by does) (omega arith)

  fork-short : (m : ℕ) (names : Names) (locks : Locks) (word : Word) (done : Bool) → Does p w view (forking m) names locks word done → length word ≤ 1
  fork-short m names locks word done does = go (by does)
    where
      go : By (forking m) names locks word done → length word ≤ 1
      go (inl cut) = rw cut.none (omega arith)
      go (inr forks) = rw forks.2 (omega arith)

  order-short : (c d : Code) (names : Names) (locks : Locks) (m n : ℕ)
      → ((word : Word) (done : Bool) → Does p w view c names locks word done → length word ≤ m)
      → ((word : Word) (done : Bool) → Does p w view d names locks word done → length word ≤ n)
      → (word : Word) (done : Bool) → Does p w view (in_order c d) names locks word done → length word ≤ m + n
  order-short c d names locks m n first second word done does = go (by does)
    where
      go : By (in_order c d) names locks word done → length word ≤ m + n
      go (inl cut) = omega (arith, first word false cut.1)
      go (inr done') =
          rw (done'.is, length-append done'.front done'.back)
          (omega (arith, first done'.front true done'.first, second done'.back done done'.second))

-- ---- a word, looked at as a whole or not

length-joined : (word : Word) → length (map joined_on word) ≡ length word
length-joined [] = refl
length-joined (e ∷ word) = ap suc (length-joined word)

looked-length : (is_whole : Bool) (body : Word) → length (cond is_whole (as_whole body) body) ≡ length body
looked-length true [] = refl
looked-length true (e ∷ body) = ap suc (length-joined body)
looked-length false body = refl

-- the body's second event, of a word with two
record Second (body : Word) (c : Event) : Type 0 where
  e : Event
  f : Event
  rest : Word
  starts : body ≡ e ∷ f ∷ rest
  action : c.action ≡ f.action

looked-second : (is_whole : Bool) (body : Word) (a c : Event) → a ∷ c ∷ [] ≡ cond is_whole (as_whole body) body → Second body c
looked-second true [] a c is = absurd (cons-some is)
looked-second true (e ∷ []) a c is = absurd (cons-some (tail-same is))
looked-second true (e ∷ f ∷ rest) a c is =
    record { e = e; f = f; rest = rest; starts = refl; action = ap (λ e. e.action) (head-same (tail-same is)) }
looked-second false [] a c is = absurd (cons-some is)
looked-second false (e ∷ []) a c is = absurd (cons-some (tail-same is))
looked-second false (e ∷ f ∷ rest) a c is =
    record { e = e; f = f; rest = rest; starts = refl; action = ap (λ e. e.action) (head-same (tail-same is)) }

-- ---- no thread can take a step

-- the state in which each thread has one lock
abbrev still : State
still = final shared_locks (start zeroed) each_has_one

above-1 : (t : ℕ) → eqb (suc (suc t)) 1 ≡ false
above-1 t = eqb-suc-suc (suc t) 0 ∙ eqb-suc-zero t

above-2 : (t : ℕ) → eqb (suc (suc (suc t))) 2 ≡ false
above-2 t = eqb-suc-suc (suc (suc t)) 1 ∙ above-1 t

-- no thread but 0, 1 and 2 has begun
other-still : (t : ℕ) → still.begun (suc (suc (suc t))) ≡ true → ⊥
unfolding final changed
other-still t begun = true≢false (sym begun ∙ rw (above-2 t, above-1 (suc t), eqb-suc-zero (suc (suc t))))

module _ (view : View) where
  abbrev Thread : (t : ℕ) → Word → Type 0
  Thread t word = ThreadDoes crosses shared_locks view t word

  -- main has begun both threads, and its code does no more
  main-still : (e : Event) → Thread 0 (alone (begin 1) ∷ alone (begin 2) ∷ e ∷ []) → ⊥
  unfolding code_below code_at body_of plain_node no_method method_at node_at root_of op_of first_name
  main-still e thread = omega (arith, three, two)
    where
      names : Names
      names = shared_locks.names 0

      locks : Locks
      locks = first_locks shared_locks 0

      three : 3 ≡ length thread.body
      three = ap length thread.is ∙ looked-length (view 0 names locks) thread.body

      one-fork : (m : ℕ) (word : Word) (done : Bool) → Does crosses shared_locks view (in_order nothing (forking m)) names locks word done
          → length word ≤ 1
      one-fork m =
          order-short crosses shared_locks view nothing (forking m) names locks 0 1
          (nothing-short crosses shared_locks view names locks)
          (fork-short crosses shared_locks view m names locks)

      two : length thread.body ≤ 2
      two =
          order-short crosses shared_locks view (in_order nothing (forking 1)) (in_order nothing (forking 2)) names locks 1 1
          (one-fork 1) (one-fork 2) thread.body thread.done thread.does

  -- thread 1 has lock 11 and wants lock 12
  first-still : (e : Event) → Thread 1 (alone (acquire 11) ∷ e ∷ []) → e.action ≡ acquire 12
  unfolding changed code_below code_at body_of plain_node no_method method_at node_at root_of op_of first_name
  first-still e thread =
      second.action
      ∙ next-acquires crosses shared_locks view 1 2 (shared_locks.names 1) (first_locks shared_locks 1) thread.body thread.done refl refl
      thread.does second.e second.f second.rest second.starts
    where
      second : Second thread.body e
      second = looked-second (view 1 (shared_locks.names 1) (first_locks shared_locks 1)) thread.body (alone (acquire 11)) e thread.is

  -- thread 2 has lock 12 and wants lock 11
  second-still : (e : Event) → Thread 2 (alone (acquire 12) ∷ e ∷ []) → e.action ≡ acquire 11
  unfolding changed code_below code_at body_of plain_node no_method method_at node_at root_of op_of first_name
  second-still e thread =
      second.action
      ∙ next-acquires crosses shared_locks view 2 1 (shared_locks.names 2) (first_locks shared_locks 2) thread.body thread.done refl refl
      thread.does second.e second.f second.rest second.starts
    where
      second : Second thread.body e
      second = looked-second (view 2 (shared_locks.names 2) (first_locks shared_locks 2)) thread.body (alone (acquire 12)) e thread.is

  stands-still : (x : Step) → Run crosses shared_locks view zeroed (x ∷ each_has_one) → ⊥
  unfolding final changed word_of
  stands-still x run = go x.thread refl
    where
      can : Can shared_locks x.thread x.event.action still
      can = run.possible.1

      wants : (l : ℕ) → x.event.action ≡ acquire l → still.holder l ≡ nobody
      wants l is = (subst (λ (a : Action). Can shared_locks x.thread a still) is can).needs

      -- what a thread has done, if the step is its own
      thread : (t : ℕ) → x.thread ≡ t → Thread t (word_of t each_has_one ++ (x.event ∷ []))
      thread t is = subst (Thread t) (word-own t x each_has_one (is-thread t x is)) (run.threads t)

      go : (t : ℕ) → x.thread ≡ t → ⊥
      go zero is = main-still x.event (thread 0 is)
      go (suc zero) is = unlike (wants 12 (first-still x.event (thread 1 is))) tt
      go (suc (suc zero)) is = unlike (wants 11 (second-still x.event (thread 2 is))) tt
      go (suc (suc (suc t))) is = other-still t (subst (λ u. still.begun u ≡ true) is can.begun)

pub standing_still : StandingStill
unfolding code_below code_at body_of plain_node no_method method_at node_at root_of op_of first_name
standing_still =
    record {
      reads = readings.crosses-reads;
      answered = answers.crosses-answered;
      first_graded = answers.crosses-graded-1;
      second_graded = answers.crosses-graded-2;
      run = standing_still-run;
      first_inside = not_done crosses shared_locks crosses_view 1 (locking 2 nothing) (own_then_shared 1) (first_locks shared_locks 1) (alone (acquire 11)) refl;
      second_inside = not_done crosses shared_locks crosses_view 2 (locking 1 nothing) (own_then_shared 2) (first_locks shared_locks 2) (alone (acquire 12)) refl;
      stands = stands-still;
    }
