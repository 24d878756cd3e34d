-- The theorem of runs, put together: the words of a run fit, so every access keeps its guard, and the run has a serial history.
-- Assumes nothing.
use Prim.Native.Nat.{ℕ, zero, suc, ◌^◌, ◌≤◌, ◌<◌}
use Rattle.std.specs.Prelude.{Bool, true, false, List, [], ◌∷◌, ◌≡◌, refl, T, get_or}
use Rattle.std.proofs.Common.{sym, le_refl, le_trans, eqb→eq, leb→le}
use Rattle.std.proofs.Math.Path.{subst}
use Rattle.grades.specs.HeldSets.{entries}
use Rattle.grades.proofs.Laws.HeldSets.{held-packed}
use Rattle.frames.specs.Program.{Program, method_at}
use Rattle.frames.specs.WellFormed.{WellFormed}
use Rattle.counting.specs.Counting.{All, tabulate}
use Rattle.counting.specs.Laws.Lists.{length-tabulate}
use Rattle.meaning.specs.Meaning.{Assignment}
use Rattle.meaning.specs.Lowest.{method_count, entry_count}
use Rattle.meaning.specs.Constraints.{Satisfies, accepted, answer, entry_of}
use Rattle.meaning.specs.Demand2.{Permitted}
use Rattle.meaning.proofs.Demand2.{demand-2}
use Rattle.running.specs.Machine.{World, State, Action, acquire, release, access, begin, History, Can, final, Possible}
use Rattle.running.specs.Movers.{keeps, fair}
use Rattle.running.specs.Threads.{Names, Locks, View}
use Rattle.running.specs.Runs.{start, ThreadDoes, Run, KeepsGuard, guard_at, Keeps, Disciplined, Serialised, called_with, at_most_atomic, RunsAsGraded}
use Rattle.running.proofs.Laws.Phases.{FairStep, fits-fair}
use Rattle.running.proofs.Laws.Reduction.{reduce}
use Rattle.running.proofs.Laws.Marks.{looked-at, disciplined-same}
use Rattle.running.proofs.Laws.Typing.{HeldIn, AtomicSomewhere, packed-below}
use Rattle.running.proofs.Laws.Fitting.{all_fit}

-- ---- fair steps are disciplined

keeps-guard : (guard : ℕ) (writing has : Bool) (P : Type 0) → (T has → P) → T (keeps guard writing has) → KeepsGuard guard writing P
unfolding keeps
keeps-guard zero true has P f k = absurd k
keeps-guard zero false has P f k = refl
keeps-guard (suc zero) writing has P f k = f k
keeps-guard (suc (suc zero)) true has P f k = λ e. f k
keeps-guard (suc (suc zero)) false has P f k = λ e. absurd (subst T (sym e) tt)
keeps-guard (suc (suc (suc zero))) writing has P f k = tt
keeps-guard (suc (suc (suc (suc g)))) writing has P f k = k

module _ (p : Program) (w : World) where
  abbrev guards : ℕ → ℕ
  guards x = guard_at p w x

  keeps-step : (t : ℕ) (x : Action) (s : State) → T (fair guards x) → Can w t x s → Keeps p w t x s
  keeps-step t (acquire l) s f c = tt
  keeps-step t (release l) s f c = tt
  keeps-step t (access x true v g) s f c = keeps-guard (guards x) true g _ (λ h. eqb→eq _ _ (subst T c.needs h)) f
  keeps-step t (access x false v g) s f c = keeps-guard (guards x) false g _ (λ h. eqb→eq _ _ (subst T c.needs.0 h)) f
  keeps-step t (begin u) s f c = tt

  fair-disciplined : (s : State) (h : History) → All (FairStep guards) h → Possible w s h → Disciplined p w s h
  fair-disciplined s [] f q = tt
  fair-disciplined s (x ∷ h) f q = (fair-disciplined s h f.1 q.0, keeps-step x.thread x.event.action (final w s h) f.0 q.1)

-- ---- the held set that an invocation was called with

module _ (k : ℕ) (names : Names) (locks : Locks) where
  called-below : called_with k names locks < entries k
  unfolding entries
  called-below =
      subst (λ (n : ℕ). called_with k names locks < 2 ^ n) (length-tabulate k (λ j. locks (names j))) (packed-below (tabulate k (λ j. locks (names j))))

  -- its names stand for locks that the thread has
  called-has : HeldIn (called_with k names locks) names locks
  called-has j t = go k (λ j. locks (names j)) j (subst T (held-packed (tabulate k (λ j. locks (names j))) j) t)
    where
      truth : (b : Bool) → T b → b ≡ true
      truth true t = refl
      truth false t = absurd t

      go : (k : ℕ) (f : ℕ → Bool) (j : ℕ) → T (get_or (tabulate k f) j false) → f j ≡ true
      go zero f j t = absurd (unfold tabulate in t)
      go (suc k) f zero t = truth (f zero) (unfold tabulate in t)
      go (suc k) f (suc j) t = go k (λ i. f (suc i)) j (unfold tabulate in t)

-- ---- the theorem

module _ (p : Program) (a : Assignment) (well : WellFormed p) (satisfied : Satisfies p a) where
  -- every view may be taken that looks at an invocation as a whole only where it is graded at most atomic, at some held set whose names the thread has
  module _ (w : World) (view : View)
      (viewed : (m : ℕ) (names : Names) (locks : Locks) → m < method_count p → view m names locks ≡ true → AtomicSomewhere p a m names locks)
      (heap : ℕ → ℕ)
      (h : History)
      (run : Run p w view heap h)
    where
      pub disciplined-under : Disciplined p w (start heap) h
      disciplined-under =
          fair-disciplined p w (start heap) h (fits-fair (λ x. guard_at p w x) h (all_fit p a well satisfied w view viewed heap h run)) run.possible

      pub serialised-under : Serialised w (start heap) h
      serialised-under = reduce w (λ x. guard_at p w x) (start heap) h run.possible (all_fit p a well satisfied w view viewed heap h run)

  -- no invocation is looked at
  abbrev nowhere : View
  nowhere m names locks = false

  -- marks do not count
  any-disciplined : (w : World) (view : View) (heap : ℕ → ℕ) (h : History) → Run p w view heap h → Disciplined p w (start heap) h
  any-disciplined w view heap h run =
      let plain = looked-at p w view nowhere heap h run in
      disciplined-same p w (start heap) h plain.other plain.same
      (disciplined-under w nowhere (λ m names locks l e. absurd (subst T (sym e) tt)) heap plain.other plain.run)

  serial-runs : (w : World) (view : View) (heap : ℕ → ℕ) (h : History) → Run p w view heap h → (s : Serialised w (start heap) h) → Run p w view heap s.other
  serial-runs w view heap h run s =
      record { main = run.main; possible = s.possible; threads = λ t. subst (ThreadDoes p w view t) (sym (s.words t)) (run.threads t) }

  -- grades that are nowhere below these, and the held set that an invocation was called with
  graded-so : (grades : Assignment) → ((m H : ℕ) → m < method_count p → H < entry_count p m → a m H ≤ grades m H)
      → (m : ℕ) (names : Names) (locks : Locks) → m < method_count p → at_most_atomic p grades m names locks ≡ true → AtomicSomewhere p a m names locks
  graded-so grades low m names locks h e =
      record {
        set = called_with (method_at p m).k names locks;
        is_set = is_set;
        has = called-has (method_at p m).k names locks;
        grade = le_trans (low m (called_with (method_at p m).k names locks) h is_set) (leb→le _ _ (subst T (sym e) tt));
      }
    where
      is_set : called_with (method_at p m).k names locks < entry_count p m
      is_set = unfold entry_count in called-below (method_at p m).k names locks

  pub runs-as-graded : (grades : Assignment) → ((m H : ℕ) → m < method_count p → H < entry_count p m → a m H ≤ grades m H) → RunsAsGraded p grades
  runs-as-graded grades low =
      record {
        disciplined = any-disciplined;
        serialised = λ w heap h run. serialised-under w (at_most_atomic p grades) (graded-so grades low) heap h run;
        serial-run = serial-runs;
        looked-at = looked-at p;
      }

-- of every well-formed program that is accepted, with the answer's tables
pub accepted-runs : (p : Program) → WellFormed p → (r : ℕ) (tables : List (List ℕ)) → answer p ≡ accepted r tables → RunsAsGraded p (entry_of tables)
accepted-runs p well r tables e =
    runs-as-graded p (entry_of tables) well (subst (Permitted p) e (demand-2 p).permitted).lowest.satisfies (entry_of tables) (λ m H h s. le_refl _)
