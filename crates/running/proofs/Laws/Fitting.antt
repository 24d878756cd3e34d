-- In every run of a well-formed program, under an assignment that satisfies its constraints, every thread's word fits. Each thread that has begun runs the
-- main, or a method that a fork names: kinds 2 and 3 are about those.
-- Assumes nothing.
use Rattle.std.specs.Prelude.{ℕ, zero, suc, ◌≤◌, ◌<◌, Bool, true, false, cond, [], ◌∷◌, map, ◌≡◌, refl}
use Rattle.std.proofs.Common.{⊎_elim, sym, ◌∙◌, subst, le_trans, arith, leb→le, lit≤, lit<, eq-eqb}
use Rattle.std.proofs.Math.Path.{ap}
use Rattle.std.proofs.Math.Decide.{dec_lt}
use Rattle.std.proofs.Math.Dec.{T}
use Rattle.std.proofs.Math.ListN.{get_or-eq_default}
use Rattle.std.proofs.Math.Pow.{pow_pos}
use Rattle.grades.specs.Grades.{cmpd}
use Rattle.grades.specs.HeldSets.{entries, held, no_name}
use Rattle.grades.proofs.Laws.HeldSets.{none-held, held_next}
use Rattle.frames.specs.Program.{Method, Program, plain_node, no_method, method_at, node_at}
use Rattle.frames.specs.WellFormed.{WellFormed}
use Rattle.counting.specs.Counting.{All}
use Rattle.counting.specs.Laws.Counting.{all_append}
use Rattle.counting.specs.Laws.Tests.{either-passes}
use Rattle.meaning.specs.Meaning.{Assignment, root_of, op_of, root_table}
use Rattle.meaning.specs.Lowest.{method_count, entry_count, is_declared, declared_table}
use Rattle.meaning.specs.Constraints.{Entry, Satisfies}
use Rattle.meaning.proofs.Laws.Constraints.{ClosedMet, closed-met}
use Rattle.running.specs.Machine.{World, own, Word, History, final, word_of}
use Rattle.running.specs.Movers.{Fits, phase}
use Rattle.running.specs.Threads.{Code, nothing, Names, Locks, View, joined_on, as_whole, looked, code_below, code_at, body_of, Does, stopped, idle, narrow, half_wide, wide, cut_first, both, one as one_way, other, enough, cut_inside, once_more, has_lock, takes_lock, keeps_lock, asserted, called, forked}
use Rattle.running.specs.Runs.{start, first_locks, guard_at, ThreadDoes, Run}
use Rattle.running.proofs.Laws.Codes.{MayFork, Linked, linked-body}
use Rattle.running.proofs.Laws.Locking.{Shows, shows-looked, shown, idle-word, Begins, begun-by}
use Rattle.running.proofs.Laws.Typing.{HeldIn, AtomicSomewhere, invoked}

-- a method that the program lacks does nothing
no_body : code_at (node_at no_method) (root_of no_method) ≡ nothing
unfolding code_at code_below node_at no_method plain_node root_of op_of
no_body = refl

-- ---- the threads that a word begins

-- what holds of every thread that a word begins; marks do not count
module _ (P : ℕ → Type 0) where
  abbrev BeginsAll : Word → Type 0
  BeginsAll word = All (λ e. Begins P e.action) word

  begins-joined : (word : Word) → BeginsAll word → BeginsAll (map joined_on word)
  begins-joined [] b = tt
  begins-joined (e ∷ word) b = (b.0, begins-joined word b.1)

  begins-whole : (word : Word) → BeginsAll word → BeginsAll (as_whole word)
  begins-whole [] b = tt
  begins-whole (e ∷ word) b = (b.0, begins-joined word b.1)

  begins-looked : (view : View) (m : ℕ) (names : Names) (locks : Locks) (word : Word) → BeginsAll word → BeginsAll (looked view m names locks word)
  begins-looked view m names locks word b = go (view m names locks)
    where
      go : (c : Bool) → BeginsAll (cond c (as_whole word) word)
      go true = begins-whole word b
      go false = b

module _ (p : Program) (a : Assignment) (well : WellFormed p) (satisfied : Satisfies p a) where
  closed : ClosedMet p a
  closed = closed-met p a satisfied.closed

  few-names : (m : ℕ) → m < method_count p → (method_at p m).k ≤ no_name
  few-names m h = le_trans (well.methods m (unfold method_count in h)).names (lit≤ tt)

  -- no root's table is above the method's own
  roots : (m H : ℕ) → m < method_count p → H < entry_count p m → root_table p a m H ≤ a m H
  roots m H h s = either-passes (root_table p a m H ≤ a m H) (is_declared p m) declared (satisfied.meets.undeclared m H entry)
    where
      entry : Entry p m H
      entry = record { method = h; set = s }

      declared : T (is_declared p m) → root_table p a m H ≤ a m H
      declared d = omega (arith, leb→le (root_table p a m H) (declared_table p m H) (closed.kind1 m h d H s), satisfied.meets.declared m H entry d)

  -- the body of every method, also of one that the program lacks
  bodies : (m : ℕ) → Linked p a (method_at p m).k (body_of p m)
  bodies m = go (dec_lt m (method_count p))
    where
      none : method_count p ≤ m → body_of p m ≡ nothing
      none h = unfold body_of method_at method_count in
          ap (λ (x : Method). code_at (node_at x) (root_of x)) (get_or-eq_default p.methods no_method h) ∙ no_body

      go : Dec (m < method_count p) → Linked p a (method_at p m).k (body_of p m)
      go (yes h) = linked-body p a well closed m h
      go (no h) = subst (λ (c : Code). Linked p a (method_at p m).k c) (sym (none (omega arith))) tt

  module _ (w : World) (view : View) where
    -- a thread that may begin
    abbrev Forked : ℕ → Type 0
    Forked u = MayFork p a (w.method u)

    begins : {c : Code} {names : Names} {locks : Locks} {word : Word} {done : Bool} → Does p w view c names locks word done
        → (k : ℕ) → Linked p a k c → BeginsAll Forked word
    begins stopped k l = tt
    begins idle k l = tt
    begins (narrow x v g n t) k l = (tt, tt)
    begins (half_wide x v g n t) k l = (tt, tt)
    begins (wide x v g x' v' g' n t t') k l = (tt, (tt, tt))
    begins (cut_first d) k l = begins d k l.0
    begins (both {word = word} {word' = word'} d e) k l = all_append _ word word' (begins d k l.0) (begins e k l.1)
    begins (one_way d) k l = begins d k l.0
    begins (other d) k l = begins d k l.1
    begins enough k l = tt
    begins (cut_inside d) k l = begins d k l
    begins (once_more {word = word} {word' = word'} d e) k l = all_append _ word word' (begins d k l) (begins e k l)
    begins (has_lock e d) k l = begins d k l.1
    begins (takes_lock {word = word} e d) k l = (tt, all_append _ word _ (begins d k l.1) (tt, tt))
    begins (keeps_lock e d) k l = (tt, begins d k l.1)
    begins (asserted {word = word} d) k l = begins-whole Forked word (begins d k l)
    begins (called {m = m} {locks = locks} {word = word} callee passed d) k l =
        begins-looked Forked view m callee locks word (begins d (method_at p m).k (bodies m))
    begins (forked thread e) k l = (subst (λ (m : ℕ). MayFork p a m) (sym e) l, tt)

    module _
        (viewed : (m : ℕ) (names : Names) (locks : Locks) → m < method_count p → view m names locks ≡ true → AtomicSomewhere p a m names locks)
        (heap : ℕ → ℕ)
        (h : History)
        (run : Run p w view heap h)
      where
        abbrev guards : ℕ → ℕ
        guards x = guard_at p w x

        -- a thread's word, at a held set of its method whose names stand for locks that it begins with
        thread-fits : (t H : ℕ) → w.method t < method_count p → H < entry_count p (w.method t) → HeldIn H (w.names t) (first_locks w t)
            → a (w.method t) H ≤ cmpd → Fits guards (word_of t h)
        thread-fits t H m b has low =
            subst (Fits guards) (sym th.is)
            ((invoked p a w view few-names (λ m h. bodies m) roots viewed (w.method t) H m b has th.does
            (shows-looked w (first_locks w t) view (w.method t) (w.names t) (first_locks w t) th.body
            (subst (Shows w (first_locks w t)) th.is (shown w heap h run.possible t)))).fits low)
          where
            th : ThreadDoes p w view t (word_of t h)
            th = run.threads t

        -- kind 2
        main-fits : Fits guards (word_of 0 h)
        main-fits = thread-fits 0 0 (subst (λ (m : ℕ). m < method_count p) (sym run.main) some) (subst (λ (m : ℕ). 0 < entry_count p m) (sym run.main) (unfold entry_count entries in pow_pos _))
            (λ j t. absurd (subst T (none-held j) t)) (subst (λ (m : ℕ). a m 0 ≤ cmpd) (sym run.main) (leb→le (a 0 0) cmpd (closed.kind2 some 0 (lit< tt))))
          where
            some : 0 < method_count p
            some = unfold method_count in well.some_methods

        only-first : (j : ℕ) → T (held 1 j) → j ≡ 0
        only-first zero t = refl
        only-first (suc j) t = absurd (subst T (held_next 1 j ∙ none-held j) t)

        -- kind 3
        forked-fits : (t : ℕ) → Forked (suc t) → Fits guards (word_of (suc t) h)
        forked-fits t f =
            thread-fits (suc t) 1 f.method f.set
            (λ j k. ap (λ (i : ℕ). first_locks w (suc t) (w.names (suc t) i)) (only-first j k) ∙ eq-eqb (own w (suc t)) (own w (suc t)) refl) f.grade

        all-begin : (t : ℕ) → BeginsAll Forked (word_of t h)
        all-begin t =
            subst (BeginsAll Forked) (sym (run.threads t).is)
            (begins-looked Forked view (w.method t) (w.names t) (first_locks w t) (run.threads t).body
            (begins (run.threads t).does (method_at p (w.method t)).k (bodies (w.method t))))

        later-fits : (t : ℕ) → Fits guards (word_of (suc t) h)
        later-fits t = go ((final w (start heap) h).begun (suc t)) refl
          where
            go : (b : Bool) → (final w (start heap) h).begun (suc t) ≡ b → Fits guards (word_of (suc t) h)
            go true e = ⊎_elim (λ (z : suc t ≡ 0). absurd (omega arith)) (forked-fits t) (begun-by w heap Forked h run.possible all-begin (suc t) e)
            go false e = subst (Fits guards) (sym (idle-word w heap h run.possible (suc t) e)) (unfold phase in tt)

        pub all_fit : (t : ℕ) → Fits guards (word_of t h)
        all_fit zero = main-fits
        all_fit (suc t) = later-fits t
