-- A thread has exactly the locks that its own events took and did not give back. So what an access shows is what the thread's own word says.
-- Assumes nothing.
use Rattle.std.specs.Prelude.{ℕ, zero, suc, Bool, true, false, cond, [], ◌∷◌, ◌++◌, map, ◌⊎◌, ◌≡◌, refl, T, eqb}
use Rattle.std.proofs.Common.{inl, inr, sym, ap, ◌∙◌, subst, arith, eqb-true, eq-eqb, ne_eqb}
use Rattle.std.proofs.Math.Path.{fun_ext}
use Rattle.std.proofs.lemmas.Bool.{eqb-false}
use Rattle.frames.specs.Program.{Program}
use Rattle.counting.specs.Counting.{All}
use Rattle.counting.specs.Laws.Counting.{all_left, all_right}
use Rattle.running.specs.Machine.{World, own, State, nobody, holds, changed, Action, acquire, release, access, begin, Can, after, Event, Word, History, final, Possible, word_of}
use Rattle.running.specs.Threads.{Code, Names, Locks, View, joined_on, as_whole, looked, Does, stopped, idle, narrow, half_wide, wide, cut_first, both, one, other, enough, cut_inside, once_more, has_lock, takes_lock, keeps_lock, asserted, called, forked}
use Rattle.running.specs.Runs.{start, first_locks}

-- ---- what a word says

-- the locks that a thread has after an action, and after a word
abbrev pub locks_by : Locks → Action → Locks
locks_by locks (acquire l) = changed locks l true
locks_by locks (release l) = changed locks l false
locks_by locks (access x writing v g) = locks
locks_by locks (begin u) = locks

unfoldable pub locks_after : Locks → Word → Locks
locks_after locks [] = locks
locks_after locks (e ∷ word) = locks_after (locks_by locks e.action) word

-- what each access of a word shows is what the word itself says of the guard
abbrev pub ShowsBy : World → Locks → Action → Type 0
ShowsBy w locks (acquire l) = Unit {0}
ShowsBy w locks (release l) = Unit {0}
ShowsBy w locks (access x writing v g) = g ≡ locks (w.guard x)
ShowsBy w locks (begin u) = Unit {0}

abbrev pub Shows : World → Locks → Word → Type 0
Shows w locks [] = Unit {0}
Shows w locks (e ∷ word) = ShowsBy w locks e.action × Shows w (locks_by locks e.action) word

-- ---- one word behind another

pub locks_after-append : (locks : Locks) (a b : Word) → locks_after locks (a ++ b) ≡ locks_after (locks_after locks a) b
unfolding locks_after
locks_after-append locks [] b = refl
locks_after-append locks (e ∷ a) b = locks_after-append (locks_by locks e.action) a b

pub shows_first : (w : World) (locks : Locks) (a b : Word) → Shows w locks (a ++ b) → Shows w locks a
shows_first w locks [] b h = tt
shows_first w locks (e ∷ a) b h = (h.0, shows_first w (locks_by locks e.action) a b h.1)

pub shows_second : (w : World) (locks : Locks) (a b : Word) → Shows w locks (a ++ b) → Shows w (locks_after locks a) b
unfolding locks_after
shows_second w locks [] b h = h
shows_second w locks (e ∷ a) b h = shows_second w (locks_by locks e.action) a b h.1

pub shows-both : (w : World) (locks : Locks) (a b : Word) → Shows w locks a → Shows w (locks_after locks a) b → Shows w locks (a ++ b)
unfolding locks_after
shows-both w locks [] b h g = g
shows-both w locks (e ∷ a) b h g = (h.0, shows-both w (locks_by locks e.action) a b h.1 g)

-- ---- marks do not count

shows-joined : (w : World) (locks : Locks) (word : Word) → Shows w locks (map joined_on word) → Shows w locks word
shows-joined w locks [] h = tt
shows-joined w locks (e ∷ word) h = (h.0, shows-joined w (locks_by locks e.action) word h.1)

pub shows-whole : (w : World) (locks : Locks) (word : Word) → Shows w locks (as_whole word) → Shows w locks word
shows-whole w locks [] h = tt
shows-whole w locks (e ∷ word) h = (h.0, shows-joined w (locks_by locks e.action) word h.1)

pub shows-looked : (w : World) (locks : Locks) (view : View) (m : ℕ) (names : Names) (locks' : Locks) (word : Word)
    → Shows w locks (looked view m names locks' word) → Shows w locks word
shows-looked w locks view m names locks' word = go (view m names locks')
  where
    go : (b : Bool) → Shows w locks (cond b (as_whole word) word) → Shows w locks word
    go true h = shows-whole w locks word h
    go false h = h

locks_after-joined : (locks : Locks) (word : Word) → locks_after locks (map joined_on word) ≡ locks_after locks word
unfolding locks_after
locks_after-joined locks [] = refl
locks_after-joined locks (e ∷ word) = locks_after-joined (locks_by locks e.action) word

pub locks_after-whole : (locks : Locks) (word : Word) → locks_after locks (as_whole word) ≡ locks_after locks word
unfolding locks_after
locks_after-whole locks [] = refl
locks_after-whole locks (e ∷ word) = locks_after-joined (locks_by locks e.action) word

pub locks_after-looked : (locks : Locks) (view : View) (m : ℕ) (names : Names) (locks' : Locks) (word : Word)
    → locks_after locks (looked view m names locks' word) ≡ locks_after locks word
locks_after-looked locks view m names locks' word = go (view m names locks')
  where
    go : (b : Bool) → locks_after locks (cond b (as_whole word) word) ≡ locks_after locks word
    go true = locks_after-whole locks word
    go false = refl

-- ---- a change at one place

changed-same : {A : Type 0} (f : ℕ → A) (i : ℕ) (v : A) → f i ≡ v → changed f i v ≡ f
unfolding changed
changed-same {A} f i v e = fun_ext (λ j. go j (eqb j i) refl)
  where
    go : (j : ℕ) (b : Bool) → eqb j i ≡ b → cond b v (f j) ≡ f j
    go j true q = sym e ∙ ap f (sym (eqb-true j i q))
    go j false q = refl

changed-back : {A : Type 0} (f : ℕ → A) (i : ℕ) (u v : A) → f i ≡ v → changed (changed f i u) i v ≡ f
unfolding changed
changed-back {A} f i u v e = fun_ext (λ j. go j (eqb j i) refl)
  where
    go : (j : ℕ) (b : Bool) → eqb j i ≡ b → cond b v (cond b u (f j)) ≡ f j
    go j true q = sym e ∙ ap f (sym (eqb-true j i q))
    go j false q = refl

-- who holds the locks after one lock has changed hands
changed-holds : (f : ℕ → ℕ) (i v n : ℕ) → (λ j. eqb (changed f i v j) n) ≡ changed (λ j. eqb (f j) n) i (eqb v n)
unfolding changed
changed-holds f i v n = fun_ext (λ j. go j (eqb j i))
  where
    go : (j : ℕ) (b : Bool) → eqb (cond b v (f j)) n ≡ cond b (eqb v n) (eqb (f j) n)
    go j true = refl
    go j false = refl

-- ---- synchronised blocks give back what they took: code that is done leaves the thread with the locks that it had

pub balanced : (p : Program) (w : World) (view : View) {c : Code} {names : Names} {locks : Locks} {word : Word} {done : Bool}
    → Does p w view c names locks word done → done ≡ true → locks_after locks word ≡ locks
unfolding locks_after
balanced p w view stopped e = refl
balanced p w view idle e = refl
balanced p w view (narrow x v g n t) e = refl
balanced p w view (half_wide x v g n t) e = refl
balanced p w view (wide x v g x' v' g' n t t') e = refl
balanced p w view (cut_first d) e = balanced p w view d e
balanced p w view (both {locks = locks} {word = word} {word' = word'} d d') e =
    locks_after-append locks word word' ∙ ap (λ (k : Locks). locks_after k word') (balanced p w view d refl) ∙ balanced p w view d' e
balanced p w view (one d) e = balanced p w view d e
balanced p w view (other d) e = balanced p w view d e
balanced p w view enough e = refl
balanced p w view (cut_inside d) e = balanced p w view d e
balanced p w view (once_more {locks = locks} {word = word} {word' = word'} d d') e =
    locks_after-append locks word word' ∙ ap (λ (k : Locks). locks_after k word') (balanced p w view d refl) ∙ balanced p w view d' e
balanced p w view (has_lock h d) e = balanced p w view d e
balanced p w view (takes_lock {l = l} {names = names} {locks = locks} {word = word} h d) e =
    locks_after-append (changed locks (names l) true) word _
    ∙ ap (λ (k : Locks). changed k (names l) false) (balanced p w view d refl)
    ∙ changed-back locks (names l) true false h
balanced p w view (keeps_lock h d) e = absurd (subst T (sym e) tt)
balanced p w view (asserted {locks = locks} {word = word} d) e = locks_after-whole locks word ∙ balanced p w view d e
balanced p w view (called {m = m} {locks = locks} {word = word} callee q d) e =
    locks_after-looked locks view m callee locks word ∙ balanced p w view d e
balanced p w view (forked u q) e = refl

-- ---- what a state says of a thread, and what its word says

-- a thread that has begun has the locks that its word says, and one that has not has done nothing and has no lock; thread 0 has begun
record Agrees (w : World) (s : State) (word : Word) (t : ℕ) : Type 0 where
  here : s.begun t ≡ true → holds s t ≡ locks_after (first_locks w t) word
  none : s.begun t ≡ false → word ≡ []
  free : s.begun t ≡ false → holds s t ≡ (λ l. false)
  main : t ≡ 0 → s.begun t ≡ true

suc_inj : (a b : ℕ) → suc a ≡ suc b → a ≡ b
suc_inj a b e = omega arith

same-suc : (a b : ℕ) → a ≡ b → eqb (suc a) (suc b) ≡ true
same-suc a b e = eq-eqb (suc a) (suc b) (ap suc e)

other-suc : (a b : ℕ) → (a ≡ b → ⊥) → eqb (suc a) (suc b) ≡ false
other-suc a b h = ne_eqb (suc a) (suc b) (λ e. h (suc_inj a b e))

nobody-has : (t : ℕ) → eqb nobody (suc t) ≡ false
nobody-has t = ne_eqb 0 (suc t) (λ e. omega arith)

free-lock : (s : State) (l t : ℕ) → s.holder l ≡ nobody → holds s t l ≡ false
free-lock s l t e = ap (λ (n : ℕ). eqb n (suc t)) e ∙ nobody-has t

-- the thread's own step
own-step : (w : World) (s : State) (t v : ℕ) (a : Action) → t ≡ v → Can w t a s → holds (after w t a s) v ≡ locks_by (holds s v) a
own-step w s t v (acquire l) e c =
    changed-holds s.holder l (suc t) (suc v) ∙ ap (λ (b : Bool). changed (holds s v) l b) (same-suc t v e)
own-step w s t v (release l) e c =
    changed-holds s.holder l nobody (suc v) ∙ ap (λ (b : Bool). changed (holds s v) l b) (nobody-has v)
own-step w s t v (access x true value g) e c = refl
own-step w s t v (access x false value g) e c = refl
own-step w s t v (begin u) e c =
    changed-holds s.holder (own w u) (suc u) (suc v)
    ∙ ap (λ (b : Bool). changed (holds s v) (own w u) b) (other-suc u v apart)
    ∙ changed-same (holds s v) (own w u) false (free-lock s (own w u) v c.needs.1)
  where
    apart : u ≡ v → ⊥
    apart q = subst T (sym c.begun ∙ ap s.begun (e ∙ sym q) ∙ c.needs.0) tt

-- it stays begun
stays-begun : (w : World) (s : State) (t v : ℕ) (a : Action) → s.begun v ≡ true → (after w t a s).begun v ≡ true
unfolding changed
stays-begun w s t v (acquire l) h = h
stays-begun w s t v (release l) h = h
stays-begun w s t v (access x true value g) h = h
stays-begun w s t v (access x false value g) h = h
stays-begun w s t v (begin u) h = go (eqb v u)
  where
    go : (b : Bool) → cond b true (s.begun v) ≡ true
    go true = refl
    go false = h

clash : {A : Type 0} (b : Bool) → b ≡ true → b ≡ false → A
clash b e f = absurd (subst T (sym e ∙ f) tt)

own-agrees : (w : World) (s : State) (t v : ℕ) (e : Event) (word : Word) → t ≡ v → Can w t e.action s → Agrees w s word v
    → Agrees w (after w t e.action s) (word ++ (e ∷ [])) v
unfolding locks_after
own-agrees w s t v e word q c h =
    record {
      here = λ b.
          own-step w s t v e.action q c
          ∙ ap (λ (k : Locks). locks_by k e.action) (h.here began)
          ∙ sym (locks_after-append (first_locks w v) word (e ∷ []));
      none = λ f. clash _ still f;
      free = λ f. clash _ still f;
      main = λ z. still;
    }
  where
    began : s.begun v ≡ true
    began = ap s.begun (sym q) ∙ c.begun

    still : (after w t e.action s).begun v ≡ true
    still = stays-begun w s t v e.action began

-- another thread's step
first-own : (w : World) (v : ℕ) → (v ≡ 0 → ⊥) → changed (λ l. false) (own w v) true ≡ first_locks w v
unfolding changed
first-own w zero h = absurd (h refl)
first-own w (suc v) h = fun_ext (λ l. go (eqb l (own w (suc v))))
  where
    go : (b : Bool) → cond b true false ≡ b
    go true = refl
    go false = refl

other-agrees : (w : World) (s : State) (t v : ℕ) (a : Action) (word : Word) → (t ≡ v → ⊥) → Can w t a s → Agrees w s word v
    → Agrees w (after w t a s) word v
unfolding locks_after changed
other-agrees w s t v (acquire l) word q c h =
    record { here = λ b. same ∙ h.here b; none = h.none; free = λ f. same ∙ h.free f; main = h.main }
  where
    same : holds (after w t (acquire l) s) v ≡ holds s v
    same =
        changed-holds s.holder l (suc t) (suc v)
        ∙ ap (λ (b : Bool). changed (holds s v) l b) (other-suc t v q)
        ∙ changed-same (holds s v) l false (free-lock s l v c.needs)
other-agrees w s t v (release l) word q c h =
    record { here = λ b. same ∙ h.here b; none = h.none; free = λ f. same ∙ h.free f; main = h.main }
  where
    same : holds (after w t (release l) s) v ≡ holds s v
    same =
        changed-holds s.holder l nobody (suc v)
        ∙ ap (λ (b : Bool). changed (holds s v) l b) (nobody-has v)
        ∙ changed-same (holds s v) l false (ap (λ (n : ℕ). eqb n (suc v)) c.needs ∙ other-suc t v q)
other-agrees w s t v (access x true value g) word q c h = record { here = h.here; none = h.none; free = h.free; main = h.main }
other-agrees w s t v (access x false value g) word q c h = h
other-agrees w s t v (begin u) word q c h = go (eqb v u) refl
  where
    before : s.begun u ≡ false
    before = c.needs.0

    changes : holds (after w t (begin u) s) v ≡ changed (holds s v) (own w u) (eqb (suc u) (suc v))
    changes = changed-holds s.holder (own w u) (suc u) (suc v)

    go : (b : Bool) → eqb v u ≡ b → Agrees w (after w t (begin u) s) word v
    go true e =
        record {
          here = λ b.
              changes
              ∙ ap (λ (k : Bool). changed (holds s v) (own w u) k) (same-suc u v (sym same))
              ∙ ap (λ (k : Locks). changed k (own w u) true) (h.free idle-so-far)
              ∙ ap (λ (n : ℕ). changed (λ l. false) (own w n) true) (sym same)
              ∙ first-own w v (λ z. clash (s.begun v) (h.main z) idle-so-far)
              ∙ ap (λ (k : Word). locks_after (first_locks w v) k) (sym (h.none idle-so-far));
          none = λ f. clash _ now f;
          free = λ f. clash _ now f;
          main = λ z. now;
        }
      where
        same : v ≡ u
        same = eqb-true v u e

        idle-so-far : s.begun v ≡ false
        idle-so-far = ap s.begun same ∙ before

        now : (after w t (begin u) s).begun v ≡ true
        now = ap (λ (b : Bool). cond b true (s.begun v)) e
    go false e =
        record {
          here = λ b. same ∙ h.here (sym begun ∙ b);
          none = λ f. h.none (sym begun ∙ f);
          free = λ f. same ∙ h.free (sym begun ∙ f);
          main = λ z. begun ∙ h.main z;
        }
      where
        begun : (after w t (begin u) s).begun v ≡ s.begun v
        begun = ap (λ (b : Bool). cond b true (s.begun v)) e

        same : holds (after w t (begin u) s) v ≡ holds s v
        same =
            changes
            ∙ ap (λ (b : Bool). changed (holds s v) (own w u) b) (other-suc u v (λ z. eqb-false v u e (sym z)))
            ∙ changed-same (holds s v) (own w u) false (free-lock s (own w u) v c.needs.1)

agrees : (w : World) (heap : ℕ → ℕ) (h : History) → Possible w (start heap) h → (t : ℕ) → Agrees w (final w (start heap) h) (word_of t h) t
unfolding final word_of locks_after
agrees w heap [] p t =
    record {
      here = λ b. fun_ext (λ l. nobody-has t ∙ starts t l (eqb-true t 0 b));
      none = λ f. refl;
      free = λ f. fun_ext (λ l. nobody-has t);
      main = λ z. eq-eqb t 0 z;
    }
  where
    starts : (t l : ℕ) → t ≡ 0 → false ≡ first_locks w t l
    starts zero l e = refl
    starts (suc t) l e = absurd (omega arith)
agrees w heap (x ∷ h) p t = go (eqb x.thread t) refl (agrees w heap h p.0 t)
  where
    go : (b : Bool) → eqb x.thread t ≡ b → Agrees w (final w (start heap) h) (word_of t h) t
        → Agrees w (final w (start heap) (x ∷ h)) (cond b (word_of t h ++ (x.event ∷ [])) (word_of t h)) t
    go true e a = own-agrees w (final w (start heap) h) x.thread t x.event (word_of t h) (eqb-true x.thread t e) p.1 a
    go false e a =
        other-agrees w (final w (start heap) h) x.thread t x.event.action (word_of t h) (eqb-false x.thread t e) p.1 a

-- ---- of every possible history from a start, and every thread

-- a thread that has begun has the locks that its word says
pub locks-so-far : (w : World) (heap : ℕ → ℕ) (h : History) → Possible w (start heap) h → (t : ℕ) → (final w (start heap) h).begun t ≡ true
    → holds (final w (start heap) h) t ≡ locks_after (first_locks w t) (word_of t h)
locks-so-far w heap h p t = (agrees w heap h p t).here

-- a thread that has not begun has done nothing
pub idle-word : (w : World) (heap : ℕ → ℕ) (h : History) → Possible w (start heap) h → (t : ℕ) → (final w (start heap) h).begun t ≡ false → word_of t h ≡ []
idle-word w heap h p t = (agrees w heap h p t).none

shown_by : (w : World) (s : State) (t v : ℕ) (a : Action) (locks : Locks) → t ≡ v → Can w t a s → holds s v ≡ locks → ShowsBy w locks a
shown_by w s t v (acquire l) locks q c e = tt
shown_by w s t v (release l) locks q c e = tt
shown_by w s t v (access x true value g) locks q c e = c.needs ∙ ap (λ (n : ℕ). holds s n (w.guard x)) q ∙ ap (λ (k : Locks). k (w.guard x)) e
shown_by w s t v (access x false value g) locks q c e = c.needs.0 ∙ ap (λ (n : ℕ). holds s n (w.guard x)) q ∙ ap (λ (k : Locks). k (w.guard x)) e
shown_by w s t v (begin u) locks q c e = tt

-- what each access shows is what the thread's own word says
pub shown : (w : World) (heap : ℕ → ℕ) (h : History) → Possible w (start heap) h → (t : ℕ) → Shows w (first_locks w t) (word_of t h)
unfolding word_of
shown w heap [] p t = tt
shown w heap (x ∷ h) p t = go (eqb x.thread t) refl (shown w heap h p.0 t)
  where
    go : (b : Bool) → eqb x.thread t ≡ b → Shows w (first_locks w t) (word_of t h)
        → Shows w (first_locks w t) (cond b (word_of t h ++ (x.event ∷ [])) (word_of t h))
    go true e before =
        let same : x.thread ≡ t = eqb-true x.thread t e in
        let locks = locks-so-far w heap h p.0 t (ap (final w (start heap) h).begun (sym same) ∙ p.1.begun) in
        shows-both w (first_locks w t) (word_of t h) (x.event ∷ []) before
        (shown_by w (final w (start heap) h) x.thread t x.event.action (locks_after (first_locks w t) (word_of t h)) same p.1 locks, tt)
    go false e before = before

-- ---- which threads have begun

-- a thread that an action begins has P
abbrev pub Begins : (P : ℕ → Type 0) → Action → Type 0
Begins P (acquire l) = Unit {0}
Begins P (release l) = Unit {0}
Begins P (access x writing v g) = Unit {0}
Begins P (begin u) = P u

begun-step : (w : World) (s : State) (P : ℕ → Type 0) (t v : ℕ) (a : Action) → Begins P a → (after w t a s).begun v ≡ true → (s.begun v ≡ true) ⊎ P v
unfolding changed
begun-step w s P t v (acquire l) h b = inl b
begun-step w s P t v (release l) h b = inl b
begun-step w s P t v (access x true value g) h b = inl b
begun-step w s P t v (access x false value g) h b = inl b
begun-step w s P t v (begin u) h b = go (eqb v u) refl b
  where
    go : (c : Bool) → eqb v u ≡ c → cond c true (s.begun v) ≡ true → (s.begun v ≡ true) ⊎ P v
    go true e b = inr (subst P (sym (eqb-true v u e)) h)
    go false e b = inl b

-- what holds of every thread that some word begins holds of every thread that has begun, but thread 0
pub begun-by : (w : World) (heap : ℕ → ℕ) (P : ℕ → Type 0) (h : History) → Possible w (start heap) h
    → ((t : ℕ) → All (λ e. Begins P e.action) (word_of t h)) → (t : ℕ) → (final w (start heap) h).begun t ≡ true → (t ≡ 0) ⊎ P t
unfolding final word_of
begun-by w heap P [] p all t b = inl (eqb-true t 0 b)
begun-by w heap P (x ∷ h) p all t b =
    go (begun-step w (final w (start heap) h) P x.thread t x.event.action latest b) (begun-by w heap P h p.0 earlier t)
  where
    Each : Word → Type 0
    Each word = All (λ (e : Event). Begins P e.action) word

    earlier : (v : ℕ) → Each (word_of v h)
    earlier v = drop (eqb x.thread v) (all v)
      where
        drop : (c : Bool) → Each (cond c (word_of v h ++ (x.event ∷ [])) (word_of v h)) → Each (word_of v h)
        drop true k = all_left (λ (e : Event). Begins P e.action) (word_of v h) (x.event ∷ []) k
        drop false k = k

    latest : Begins P x.event.action
    latest = take (eqb x.thread x.thread) (eq-eqb x.thread x.thread refl) (all x.thread)
      where
        take : (c : Bool) → c ≡ true → Each (cond c (word_of x.thread h ++ (x.event ∷ [])) (word_of x.thread h)) → Begins P x.event.action
        take true e k = (all_right (λ (e : Event). Begins P e.action) (word_of x.thread h) (x.event ∷ []) k).0
        take false e k = clash false e refl

    go : ((final w (start heap) h).begun t ≡ true) ⊎ P t → ((final w (start heap) h).begun t ≡ true → (t ≡ 0) ⊎ P t) → (t ≡ 0) ⊎ P t
    go (inl b) before = before b
    go (inr k) before = inr k
