-- The runs of `Teeth` are runs: each step could be taken, and each thread does what its method's code does.
-- Assumes nothing.
use Rattle.std.specs.Prelude.{ℕ, zero, suc, Bool, true, false, not, cond, [], ◌∷◌, ◌≡◌, refl, T, eqb}
use Rattle.std.proofs.lemmas.Bool.{false≢true}
use Rattle.std.proofs.Common.{inl, inr, ◌∙◌, arith, T_not}
use Rattle.std.proofs.Math.Dec.{eqb_refl, eqb-zero-suc, eqb-suc-suc}
use Rattle.grades.specs.HeldSets.{packed}
use Rattle.counting.specs.Counting.{tabulate}
use Rattle.frames.specs.Program.{Program, no_field, plain_node, no_method, field_at, method_at, node_at}
use Rattle.meaning.specs.Meaning.{root_of, op_of, first_name}
use Rattle.meaning.specs.Constraints.{entry_of}
use Rattle.running.specs.Machine.{World, changed, access, Event, Word, final, Possible, word_of}
use Rattle.running.specs.Threads.{View, alone, as_whole, Passed, code_below, code_at, body_of, stopped, idle, narrow, wide, both, keeps_lock, called, forked}
use Rattle.running.specs.Runs.{start, first_locks, ThreadDoes, Run, Disciplined, at_most_atomic}
use Rattle.running.specs.Teeth.{zeroed, reads_twice, own_locks, method_one_whole, written_between, reads_wide, written_within, reads_unguarded, read_without, Undisciplined, crosses, shared_locks, crosses_view, each_has_one, calls_stub, own_then_one, two_names, calls_stub_view, lock_then_call, Stub}
use Rattle.running.proofs.Laws.TeethTexts.{readings}
use Rattle.running.proofs.Laws.TeethAnswers.{answers}

-- ---- numbers that differ

pub unlike : {m n : ℕ} → m ≡ n → T (not (eqb m n)) → ⊥
unlike {m} {n} same differ = T_not (eqb m n) differ (rw same (eqb_refl n))

pub not-0 : (t : ℕ) → eqb 0 (suc t) ≡ false
not-0 t = eqb-zero-suc t

pub not-1 : (t : ℕ) → eqb 1 (suc (suc t)) ≡ false
not-1 t = eqb-suc-suc 0 (suc t) ∙ not-0 t

pub not-2 : (t : ℕ) → eqb 2 (suc (suc (suc t))) ≡ false
not-2 t = eqb-suc-suc 1 (suc (suc t)) ∙ not-1 t

-- ---- threads that have done nothing

nothing-looked : (b : Bool) → [] ≡ cond b (as_whole []) []
nothing-looked true = refl
nothing-looked false = refl

quiet : (p : Program) (w : World) (view : View) (t : ℕ) (word : Word) → word ≡ [] → ThreadDoes p w view t word
quiet p w view t word none = record { body = []; done = false; does = stopped; is = none ∙ nothing-looked (view (w.method t) (w.names t) (first_locks w t)) }

-- ---- undisciplined

-- a word of one event is the same, looked at as a whole or not
one-looked : (is_whole : Bool) (e : Event) → e ∷ [] ≡ cond is_whole (as_whole (e ∷ [])) (e ∷ [])
one-looked true e = refl
one-looked false e = refl

undisciplined-run : (view : View) → Run reads_unguarded own_locks view zeroed read_without
unfolding final changed word_of code_below code_at body_of no_field plain_node no_method field_at method_at node_at root_of op_of first_name
undisciplined-run view = record { main = refl; possible = (tt, record { begun = refl; needs = (refl, refl) }); threads = threads }
  where
    threads : (t : ℕ) → ThreadDoes reads_unguarded own_locks view t (word_of t read_without)
    threads zero =
        record {
          body = _;
          done = true;
          does = both idle (narrow 0 0 false refl (record { field = refl; guard = λ uses named. absurd (named refl) }));
          is = one-looked (view 0 (own_locks.names 0) (first_locks own_locks 0)) (alone (access 0 false 0 false));
        }
    threads (suc t) = quiet reads_unguarded own_locks view (suc t) _ (rw not-0)

disciplined-not : Disciplined reads_unguarded own_locks (start zeroed) read_without → ⊥
unfolding final changed field_at
disciplined-not d = unlike d.1 tt

pub undisciplined : Undisciplined
undisciplined =
    record {
      reads = readings.reads_unguarded-reads;
      answered = answers.reads_unguarded-answered;
      run = undisciplined-run;
      undisciplined = disciplined-not;
      fails = λ grades right. disciplined-not (right.disciplined own_locks (at_most_atomic reads_unguarded grades) zeroed read_without (undisciplined-run (at_most_atomic reads_unguarded grades)));
    }

-- ---- torn

pub torn-run : Run reads_twice own_locks method_one_whole zeroed written_between
unfolding final changed word_of code_below code_at body_of no_field plain_node no_method field_at method_at node_at root_of op_of first_name
torn-run = record { main = refl; possible = possible; threads = threads }
  where
    possible : Possible own_locks (start zeroed) written_between
    possible = (
      (((tt, record { begun = refl; needs = (refl, refl) }), record { begun = refl; needs = (refl, refl) }), record { begun = refl; needs = refl }),
      record { begun = refl; needs = (refl, refl) },
    )

    threads : (t : ℕ) → ThreadDoes reads_twice own_locks method_one_whole t (word_of t written_between)
    threads zero =
        record {
          body = _;
          done = true;
          does = both (both idle (forked 1 refl)) (both (both idle idle) (narrow 0 1 false refl ((record { field = refl; guard = λ uses named. absurd (false≢true uses) }))));
          is = refl;
        }
    threads (suc zero) =
        record {
          body = _;
          done = true;
          does =
              both (both idle (narrow 0 0 false refl ((record { field = refl; guard = λ uses named. absurd (false≢true uses) }))))
              (both idle (narrow 0 1 false refl ((record { field = refl; guard = λ uses named. absurd (false≢true uses) }))));
          is = refl;
        }
    threads (suc (suc t)) = quiet reads_twice own_locks method_one_whole (suc (suc t)) _ (rw (not-0 (suc t), not-1 t))

-- ---- torn wide

pub torn_wide-run : Run reads_wide own_locks method_one_whole zeroed written_within
unfolding final changed word_of code_below code_at body_of no_field plain_node no_method field_at method_at node_at root_of op_of first_name
torn_wide-run = record { main = refl; possible = possible; threads = threads }
  where
    possible : Possible own_locks (start zeroed) written_within
    possible = (
      (
        (
          ((tt, record { begun = refl; needs = (refl, refl) }), record { begun = refl; needs = (refl, refl) }),
          record { begun = refl; needs = refl },
        ),
        record { begun = refl; needs = refl },
      ),
      record { begun = refl; needs = (refl, refl) },
    )

    threads : (t : ℕ) → ThreadDoes reads_wide own_locks method_one_whole t (word_of t written_within)
    threads zero =
        record {
          body = _;
          done = true;
          does =
              both (both idle (forked 1 refl))
              (both (both idle idle) (wide 0 1 false 1 1 false refl ((record { field = refl; guard = λ uses named. absurd (false≢true uses) })) ((record { field = refl; guard = λ uses named. absurd (false≢true uses) }))));
          is = refl;
        }
    threads (suc zero) =
        record {
          body = _;
          done = true;
          does = both idle (wide 0 0 false 1 1 false refl ((record { field = refl; guard = λ uses named. absurd (false≢true uses) })) ((record { field = refl; guard = λ uses named. absurd (false≢true uses) })));
          is = refl;
        }
    threads (suc (suc t)) = quiet reads_wide own_locks method_one_whole (suc (suc t)) _ (rw (not-0 (suc t), not-1 t))

-- ---- standing still

pub standing_still-run : Run crosses shared_locks crosses_view zeroed each_has_one
unfolding final changed word_of code_below code_at body_of no_field plain_node no_method field_at method_at node_at root_of op_of first_name entry_of packed tabulate
standing_still-run = record { main = refl; possible = possible; threads = threads }
  where
    possible : Possible shared_locks (start zeroed) each_has_one
    possible = (
      (((tt, record { begun = refl; needs = (refl, refl) }), record { begun = refl; needs = (refl, refl) }), record { begun = refl; needs = refl }),
      record { begun = refl; needs = refl },
    )

    threads : (t : ℕ) → ThreadDoes crosses shared_locks crosses_view t (word_of t each_has_one)
    threads zero = record { body = _; done = true; does = both (both idle (forked 1 refl)) (both idle (forked 2 refl)); is = refl }
    threads (suc zero) = record { body = _; done = false; does = keeps_lock {done = false} refl stopped; is = refl }
    threads (suc (suc zero)) = record { body = _; done = false; does = keeps_lock {done = false} refl stopped; is = refl }
    threads (suc (suc (suc t))) =
        quiet crosses shared_locks crosses_view (suc (suc (suc t))) _ (rw (not-0 (suc (suc t)), not-1 (suc t), not-2 t))

-- ---- stub

abbrev stub-run : Run calls_stub two_names calls_stub_view zeroed lock_then_call
unfolding final changed word_of code_below code_at body_of no_field plain_node no_method field_at method_at node_at root_of op_of first_name entry_of packed tabulate
stub-run = record { main = refl; possible = possible; threads = threads }
  where
    possible : Possible two_names (start zeroed) lock_then_call
    possible = ((tt, record { begun = refl; needs = (refl, refl) }), record { begun = refl; needs = refl })

    passed : Passed 1 (2 ∷ 0 ∷ 0 ∷ 0 ∷ []) (own_then_one 1) (λ j. 11)
    passed zero below named = refl
    passed (suc j) below named = absurd (omega arith)

    threads : (t : ℕ) → ThreadDoes calls_stub two_names calls_stub_view t (word_of t lock_then_call)
    threads zero = record { body = _; done = true; does = both idle (forked 1 refl); is = refl }
    threads (suc zero) =
        record { body = _; done = false; does = keeps_lock refl (both idle (called (λ j. 11) passed idle)); is = refl }
    threads (suc (suc t)) = quiet calls_stub two_names calls_stub_view (suc (suc t)) _ (rw (not-0 (suc t), not-1 t))

pub stub : Stub
unfolding
    stub-run final changed word_of code_below code_at body_of no_field plain_node no_method field_at method_at node_at root_of op_of first_name entry_of packed
    tabulate
stub =
    record {
      reads = readings.calls_stub-reads;
      answered = answers.calls_stub-answered;
      graded = answers.calls_stub-graded;
      declared = answers.calls_stub-declared;
      run = stub-run;
      calls = inr (inl (refl, refl));
    }
