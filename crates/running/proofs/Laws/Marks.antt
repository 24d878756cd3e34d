-- Every run is, marks aside, a run whichever invocations are looked at as a whole. What is said of steps without their marks is said of both.
-- Assumes nothing.
use Rattle.std.specs.Prelude.{ℕ, Bool, true, false, cond, [], ◌∷◌, ◌++◌, map, ◌≡◌, refl, T, eqb}
use Rattle.std.proofs.Common.{sym, ap, ◌∙◌, subst, eqb-true, eq-eqb}
use Rattle.std.proofs.Math.Path.{subst₃}
use Rattle.frames.specs.Program.{Program}
use Rattle.running.specs.Machine.{World, State, Action, acquire, release, Can, after, Event, Step, Word, History, final, Possible, word_of}
use Rattle.running.specs.Threads.{Code, Names, Locks, View, alone, joined_on, as_whole, looked, body_of, Does, stopped, idle, narrow, half_wide, wide, cut_first, both, one, other, enough, cut_inside, once_more, has_lock, takes_lock, keeps_lock, asserted, called, forked}
use Rattle.running.specs.Runs.{start, first_locks, Run, Keeps, Disciplined, SameSteps, LookedAt}

-- ---- words, marks aside

abbrev SameActions : Word → Word → Type 0
SameActions [] [] = Unit {0}
SameActions [] (f ∷ b) = ⊥
SameActions (e ∷ a) [] = ⊥
SameActions (e ∷ a) (f ∷ b) = (e.action ≡ f.action) × SameActions a b

same-sym : (a b : Word) → SameActions a b → SameActions b a
same-sym [] [] h = tt
same-sym [] (f ∷ b) h = h
same-sym (e ∷ a) [] h = h
same-sym (e ∷ a) (f ∷ b) h = (sym h.0, same-sym a b h.1)

same-trans : (a b c : Word) → SameActions a b → SameActions b c → SameActions a c
same-trans [] [] [] h g = tt
same-trans [] [] (z ∷ c) h g = g
same-trans [] (f ∷ b) c h g = absurd h
same-trans (e ∷ a) [] c h g = absurd h
same-trans (e ∷ a) (f ∷ b) [] h g = g
same-trans (e ∷ a) (f ∷ b) (z ∷ c) h g = (h.0 ∙ g.0, same-trans a b c h.1 g.1)

same-append : (a b c d : Word) → SameActions a b → SameActions c d → SameActions (a ++ c) (b ++ d)
same-append [] [] c d h g = g
same-append [] (f ∷ b) c d h g = absurd h
same-append (e ∷ a) [] c d h g = absurd h
same-append (e ∷ a) (f ∷ b) c d h g = (h.0, same-append a b c d h.1 g)

same-joined : (a : Word) → SameActions (map joined_on a) a
same-joined [] = tt
same-joined (e ∷ a) = (refl, same-joined a)

same_self : (a : Word) → SameActions a a
same_self [] = tt
same_self (e ∷ a) = (refl, same_self a)

same_whole : (a : Word) → SameActions (as_whole a) a
same_whole [] = tt
same_whole (e ∷ a) = (refl, same-joined a)

same-marked : (mark : Bool) (a : Word) → SameActions (cond mark (as_whole a) a) a
same-marked true a = same_whole a
same-marked false a = same_self a

-- whether one is marked or the other
same-looked : (mark mark' : Bool) (a b : Word) → SameActions a b → SameActions (cond mark (as_whole a) a) (cond mark' (as_whole b) b)
same-looked mark mark' a b h =
    let a' = cond mark (as_whole a) a in
    let b' = cond mark' (as_whole b) b in
    same-trans a' a b' (same-marked mark a) (same-trans a b b' h (same-sym b' b (same-marked mark' b)))

-- ---- code does the same, marks aside

record DoesSo (p : Program) (w : World) (view : View) (c : Code) (names : Names) (locks : Locks) (word : Word) (done : Bool) : Type 0 where
  again : Word
  does : Does p w view c names locks again done
  same : SameActions again word

does-so : (p : Program) (w : World) (view view' : View) {c : Code} {names : Names} {locks : Locks} {word : Word} {done : Bool}
    → Does p w view c names locks word done → DoesSo p w view' c names locks word done
does-so p w view view' stopped = record { again = []; does = stopped; same = tt }
does-so p w view view' idle = record { again = []; does = idle; same = tt }
does-so p w view view' (narrow x v g n t) = record { again = _; does = narrow x v g n t; same = (refl, tt) }
does-so p w view view' (half_wide x v g n t) = record { again = _; does = half_wide x v g n t; same = (refl, tt) }
does-so p w view view' (wide x v g x' v' g' n t t') =
    record { again = _; does = wide x v g x' v' g' n t t'; same = (refl, (refl, tt)) }
does-so p w view view' (cut_first d) =
    let r = does-so p w view view' d in
    record { again = r.again; does = cut_first r.does; same = r.same }
does-so p w view view' (both {word = word} {word' = word'} d d') =
    let r = does-so p w view view' d in
    let r' = does-so p w view view' d' in
    record {
      again = r.again ++ r'.again;
      does = both r.does r'.does;
      same = same-append r.again word r'.again word' r.same r'.same;
    }
does-so p w view view' (one d) = let r = does-so p w view view' d in record { again = r.again; does = one r.does; same = r.same }
does-so p w view view' (other d) = let r = does-so p w view view' d in record { again = r.again; does = other r.does; same = r.same }
does-so p w view view' enough = record { again = []; does = enough; same = tt }
does-so p w view view' (cut_inside d) =
    let r = does-so p w view view' d in
    record { again = r.again; does = cut_inside r.does; same = r.same }
does-so p w view view' (once_more {word = word} {word' = word'} d d') =
    let r = does-so p w view view' d in
    let r' = does-so p w view view' d' in
    record {
      again = r.again ++ r'.again;
      does = once_more r.does r'.does;
      same = same-append r.again word r'.again word' r.same r'.same;
    }
does-so p w view view' (has_lock h d) =
    let r = does-so p w view view' d in
    record { again = r.again; does = has_lock h r.does; same = r.same }
does-so p w view view' (takes_lock {l = l} {names = names} {word = word} h d) =
    let r = does-so p w view view' d in
    record {
      again = alone (acquire (names l)) ∷ (r.again ++ (alone (release (names l)) ∷ []));
      does = takes_lock h r.does;
      same = (refl, same-append r.again word (alone (release (names l)) ∷ []) (alone (release (names l)) ∷ []) r.same (refl, tt));
    }
does-so p w view view' (keeps_lock {l = l} {names = names} h d) =
    let r = does-so p w view view' d in
    record { again = alone (acquire (names l)) ∷ r.again; does = keeps_lock h r.does; same = (refl, r.same) }
does-so p w view view' (asserted {word = word} d) =
    let r = does-so p w view view' d in
    record { again = as_whole r.again; does = asserted r.does; same = same-looked true true r.again word r.same }
does-so p w view view' (called {m = m} {locks = locks} {word = word} callee q d) =
    let r = does-so p w view view' d in
    record {
      again = looked view' m callee locks r.again;
      does = called callee q r.does;
      same = same-looked (view' m callee locks) (view m callee locks) r.again word r.same;
    }
does-so p w view view' (forked u q) = record { again = _; does = forked u q; same = (refl, tt) }

-- ---- a history of given words

-- a word that does the same as one with a last event has a last event too
record Ended (a b : Word) (e : Event) : Type 0 where
  init : Word
  last : Event
  is : a ≡ init ++ (last ∷ [])
  before : SameActions init b
  does : last.action ≡ e.action

ended : (a b : Word) (e : Event) → SameActions a (b ++ (e ∷ [])) → Ended a b e
ended [] [] e h = absurd h
ended [] (f ∷ b) e h = absurd h
ended (x ∷ []) [] e h = record { init = []; last = x; is = refl; before = tt; does = h.0 }
ended (x ∷ (y ∷ a)) [] e h = absurd h.1
ended (x ∷ a) (f ∷ b) e h =
    let r = ended a b e h.1 in
    record {
      init = x ∷ r.init;
      last = r.last;
      is = ap (λ (k : Word). x ∷ k) r.is;
      before = (h.0, r.before);
      does = r.does;
    }

record Rebuilt (h : History) (words : ℕ → Word) : Type 0 where
  other : History
  same : SameSteps other h
  each : (t : ℕ) → word_of t other ≡ words t

-- the latest step: the last event of its thread's word, and the words before it
latest : (x : Step) (h : History) (a : Word) → SameActions a (word_of x.thread (x ∷ h)) → Ended a (word_of x.thread h) x.event
unfolding word_of
latest x h a = go (eqb x.thread x.thread) (eq-eqb x.thread x.thread refl)
  where
    go : (c : Bool) → c ≡ true → SameActions a (cond c (word_of x.thread h ++ (x.event ∷ [])) (word_of x.thread h))
        → Ended a (word_of x.thread h) x.event
    go true q k = ended a (word_of x.thread h) x.event k
    go false q k = absurd (subst T (sym q) tt)

abbrev earlier : (u : ℕ) → (init : Word) → (words : ℕ → Word) → ℕ → Word
earlier u init words t = cond (eqb u t) init (words t)

earlier-same : (x : Step) (h : History) (words : ℕ → Word) → ((t : ℕ) → SameActions (words t) (word_of t (x ∷ h))) → (init : Word)
    → SameActions init (word_of x.thread h) → (t : ℕ) → SameActions (earlier x.thread init words t) (word_of t h)
unfolding word_of
earlier-same x h words all init before t = go (eqb x.thread t) refl (all t)
  where
    go : (c : Bool) → eqb x.thread t ≡ c → SameActions (words t) (cond c (word_of t h ++ (x.event ∷ [])) (word_of t h))
        → SameActions (cond c init (words t)) (word_of t h)
    go true q k = subst (λ (u : ℕ). SameActions init (word_of u h)) (eqb-true x.thread t q) before
    go false q k = k

rebuild-step : (x : Step) (h : History) (words : ℕ → Word) (end : Ended (words x.thread) (word_of x.thread h) x.event)
    → Rebuilt h (earlier x.thread end.init words) → Rebuilt (x ∷ h) words
unfolding word_of
rebuild-step x h words end rest =
    record {
      other = record { thread = x.thread; event = end.last } ∷ rest.other;
      same = (refl, end.does, rest.same);
      each = λ t. go t (eqb x.thread t) refl (rest.each t);
    }
  where
    go : (t : ℕ) (c : Bool) → eqb x.thread t ≡ c → word_of t rest.other ≡ cond c end.init (words t)
        → cond c (word_of t rest.other ++ (end.last ∷ [])) (word_of t rest.other) ≡ words t
    go t true q k = ap (λ (a : Word). a ++ (end.last ∷ [])) k ∙ sym end.is ∙ ap words (eqb-true x.thread t q)
    go t false q k = k

rebuild : (h : History) (words : ℕ → Word) → ((t : ℕ) → SameActions (words t) (word_of t h)) → Rebuilt h words
unfolding word_of
rebuild [] words all = record { other = []; same = tt; each = λ t. none (words t) (all t) }
  where
    none : (a : Word) → SameActions a [] → [] ≡ a
    none [] h = refl
    none (e ∷ a) h = absurd h
rebuild (x ∷ h) words all =
    let end = latest x h (words x.thread) (all x.thread) in
    rebuild-step x h words end (rebuild h (earlier x.thread end.init words) (earlier-same x h words all end.init end.before))

-- ---- what is said of steps without their marks

pub steps-sym : (h h' : History) → SameSteps h h' → SameSteps h' h
steps-sym [] [] q = tt
steps-sym [] (y ∷ h') q = q
steps-sym (x ∷ h) [] q = q
steps-sym (x ∷ h) (y ∷ h') q = (sym q.0, sym q.1, steps-sym h h' q.2)

pub final-same : (w : World) (s : State) (h h' : History) → SameSteps h' h → final w s h' ≡ final w s h
unfolding final
final-same w s [] [] q = refl
final-same w s [] (y ∷ h') q = absurd q
final-same w s (x ∷ h) [] q = absurd q
final-same w s (x ∷ h) (y ∷ h') q = λ i. after w (q.0 i) (q.1 i) (final-same w s h h' q.2 i)

pub possible-same : (w : World) (s : State) (h h' : History) → SameSteps h' h → Possible w s h' → Possible w s h
possible-same w s [] [] q p = tt
possible-same w s [] (y ∷ h') q p = absurd q
possible-same w s (x ∷ h) [] q p = absurd q
possible-same w s (x ∷ h) (y ∷ h') q p =
    (possible-same w s h h' q.2 p.0, subst₃ (λ (t : ℕ) (a : Action) (s : State). Can w t a s) q.0 q.1 (final-same w s h h' q.2) p.1)

pub disciplined-same : (p : Program) (w : World) (s : State) (h h' : History) → SameSteps h' h → Disciplined p w s h' → Disciplined p w s h
disciplined-same p w s [] [] q d = tt
disciplined-same p w s [] (y ∷ h') q d = absurd q
disciplined-same p w s (x ∷ h) [] q d = absurd q
disciplined-same p w s (x ∷ h) (y ∷ h') q d = (
  disciplined-same p w s h h' q.2 d.0,
  subst₃ (λ (t : ℕ) (a : Action) (s : State). Keeps p w t a s) q.0 q.1 (final-same w s h h' q.2) d.1,
)

-- ---- marking excludes no run

pub looked-at : (p : Program) (w : World) (view view' : View) (heap : ℕ → ℕ) (h : History) → Run p w view heap h → LookedAt p w view' heap h
looked-at p w view view' heap h r =
    record {
      other = built.other;
      run = record {
        main = r.main;
        possible = possible-same w (start heap) built.other h (steps-sym built.other h built.same) r.possible;
        threads = λ t. record { body = (so t).again; done = (r.threads t).done; does = (so t).does; is = built.each t };
      };
      same = built.same;
    }
  where
    so : (t : ℕ) → DoesSo p w view' (body_of p (w.method t)) (w.names t) (first_locks w t) (r.threads t).body (r.threads t).done
    so t = does-so p w view view' (r.threads t).does

    words : ℕ → Word
    words t = looked view' (w.method t) (w.names t) (first_locks w t) (so t).again

    all : (t : ℕ) → SameActions (words t) (word_of t h)
    all t =
        subst (λ (a : Word). SameActions (words t) a) (sym (r.threads t).is)
        (same-looked (view' (w.method t) (w.names t) (first_locks w t)) (view (w.method t) (w.names t) (first_locks w t)) (so t).again (r.threads t).body
        (so t).same)

    built : Rebuilt h words
    built = rebuild h words all
