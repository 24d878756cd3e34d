-- What code does is good at the grade of the code under H, if the names of H stand for locks that the thread has. The thread may have more: two names
-- may stand for one lock, and locks may be held that have no name here. Of the rule for calls only this is used: the entry is nowhere below the table's
-- entry at the names that are known to be held.
-- Assumes nothing.
use Prim.Native.Nat.{ℕ, zero, suc, ◌^◌, ◌≤◌, ◌<◌}
use Rattle.std.specs.Prelude.{Bool, true, false, not, cond, ◌&&◌, ◌||◌, List, [], ◌∷◌, ◌++◌, map, ◌≡◌, refl, T, eqb, length, get_or, take}
use Rattle.std.proofs.Common.{sym, ap, ◌∙◌, subst, le_refl, le_trans, arith, eqb→eq}
use Rattle.std.proofs.Math.Dec.{eqb-suc-zero, eqb_refl}
use Rattle.std.proofs.lemmas.List.{length-map}
use Rattle.std.proofs.lemmas.Bool.{eqb-false}
use Rattle.grades.specs.Grades.{atomic, cap, lock_taken}
use Rattle.grades.proofs.Laws.Grades.{cap-le, compose-above-first, join-above-first, join-above-second, closure-above, lock_taken-above}
use Rattle.grades.specs.HeldSets.{entries, held, add, no_name, packed}
use Rattle.grades.specs.Access.{access as access_grade}
use Rattle.grades.proofs.Laws.HeldSets.{no-name-held, held-add, add-below, bit_below, held-packed}
use Rattle.frames.specs.Program.{Program, field_at, method_at}
use Rattle.frames.specs.Links.{guard_uses}
use Rattle.meaning.specs.Meaning.{Assignment, callee_entry, root_table}
use Rattle.meaning.specs.Lowest.{method_count, entry_count}
use Rattle.meaning.specs.NotHeld.{counts_as_held, entry_not_held}
use Rattle.meaning.proofs.Laws.Calls.{entries-few}
use Rattle.meaning.proofs.Laws.NotHeldCalls.{entries-compared}
use Rattle.running.specs.Machine.{World, changed, acquire, release, access, Word}
use Rattle.running.specs.Threads.{is_wide, Code, accessing, locking, Names, Locks, View, alone, as_whole, looked, Passed, Touches, body_of, Does, stopped, idle, narrow, half_wide, wide, cut_first, both, one as one_way, other, enough, cut_inside, once_more, has_lock, takes_lock, keeps_lock, asserted, called, forked}
use Rattle.running.specs.Runs.{guard_at}
use Rattle.running.proofs.Laws.Words.{Good, one, good_none, good-rises, good-compose, good-again, good-taken, good-given-back, good-whole, good-assert, good-fork, atomic-taken}
use Rattle.running.proofs.Laws.Accesses.{good-narrow, good-wide}
use Rattle.running.proofs.Laws.Codes.{grade_of, body-grade, Linked}
use Rattle.running.proofs.Laws.Locking.{Shows, shows_first, shows_second, shows-whole, shows-looked, balanced}

-- the names of H stand for locks that the thread has
abbrev pub HeldIn : (H : ℕ) → Names → Locks → Type 0
HeldIn H names locks = (j : ℕ) → T (held H j) → locks (names j) ≡ true

-- ---- a lock taken, or held already

held-added : (H l : ℕ) (names : Names) (locks locks' : Locks) → ((j : ℕ) → locks j ≡ true → locks' j ≡ true) → locks' (names l) ≡ true
    → HeldIn H names locks → HeldIn (add H l) names locks'
held-added H l names locks locks' more here h j t = go (eqb j l) refl (subst T (held-add H l j) t)
  where
    go : (b : Bool) → eqb j l ≡ b → T (b || held H j) → locks' (names j) ≡ true
    go true e s = ap (λ (i : ℕ). locks' (names i)) (eqb→eq j l (subst T (sym e) tt)) ∙ here
    go false e s = more (names j) (h j s)

changed-more : (locks : Locks) (l j : ℕ) → locks j ≡ true → changed locks l true j ≡ true
unfolding changed
changed-more locks l j e = go (eqb j l)
  where
    go : (b : Bool) → cond b true (locks j) ≡ true
    go true = refl
    go false = e

changed-here : (locks : Locks) (l : ℕ) → changed locks l true l ≡ true
unfolding changed
changed-here locks l = go (eqb l l) (eqb_refl l)
  where
    go : (b : Bool) → T b → cond b true (locks l) ≡ true
    go true t = refl
    go false t = absurd t

-- ---- the callee's names that the caller knows to be held

abbrev known : (k : ℕ) → (Ts : List ℕ) → (H : ℕ) → ℕ
known k Ts H = packed (map (counts_as_held H) (take k Ts))

pub packed-below : (answers : List Bool) → packed answers < 2 ^ length answers
unfolding packed
packed-below [] = le_refl 1
packed-below (b ∷ answers) = bit_below (length answers) b (packed answers) (packed-below answers)

known-below : (k : ℕ) (Ts : List ℕ) (H : ℕ) → known k Ts H < entries k
known-below k Ts H =
    entries-few k Ts (known k Ts H)
    (subst (λ (n : ℕ). known k Ts H < 2 ^ n) (length-map (take k Ts) (counts_as_held H)) (packed-below (map (counts_as_held H) (take k Ts))))

-- such a name is one of the callee's, and the caller's name for it is no FF, and in H
record Known (k : ℕ) (Ts : List ℕ) (H j : ℕ) : Type 0 where
  below : j < k
  named : get_or Ts j no_name ≡ no_name → ⊥
  is_held : T (held H (get_or Ts j no_name))

known_at : (k : ℕ) (Ts : List ℕ) (H j : ℕ) → T (get_or (map (counts_as_held H) (take k Ts)) j false) → Known k Ts H j
known_at zero Ts H j t = absurd t
known_at (suc k) [] H j t = absurd t
known_at (suc k) (x ∷ Ts) H zero t = go (eqb x no_name) refl t
  where
    go : (b : Bool) → eqb x no_name ≡ b → T (not b && held H x) → Known (suc k) (x ∷ Ts) H zero
    go true e s = absurd s
    go false e s = record { below = omega arith; named = eqb-false x no_name e; is_held = s }
known_at (suc k) (x ∷ Ts) H (suc j) t =
    let r = known_at k Ts H j t in record { below = omega (arith, r.below); named = r.named; is_held = r.is_held }

known-held : (k : ℕ) (Ts : List ℕ) (H : ℕ) (names callee : Names) (locks : Locks) → Passed k Ts names callee → HeldIn H names locks
    → HeldIn (known k Ts H) callee locks
known-held k Ts H names callee locks passed h j t =
    let r = known_at k Ts H j (subst T (held-packed (map (counts_as_held H) (take k Ts)) j) t) in
    ap locks (passed j r.below r.named) ∙ h (get_or Ts j no_name) r.is_held

-- ---- typing

wide-width : (width : ℕ) → is_wide width ≡ true → eqb width 0 ≡ false
wide-width zero e = absurd (subst T (sym e) tt)
wide-width (suc width) e = eqb-suc-zero width

-- what a view may look at as a whole: an invocation that is graded at most atomic at some held set whose names the thread has
pub record AtomicSomewhere (p : Program) (a : Assignment) (m : ℕ) (names : Names) (locks : Locks) : Type 0 where
  pub set : ℕ
  pub is_set : set < entry_count p m
  pub has : HeldIn set names locks
  pub grade : a m set ≤ atomic

module _
    (p : Program)
    (a : Assignment)
    (w : World)
    (view : View)
    (few_names : (m : ℕ) → m < method_count p → (method_at p m).k ≤ no_name)
    (bodies : (m : ℕ) → m < method_count p → Linked p a (method_at p m).k (body_of p m))
    (roots : (m H : ℕ) → m < method_count p → H < entry_count p m → root_table p a m H ≤ a m H)
    (viewed : (m : ℕ) (names : Names) (locks : Locks) → m < method_count p → view m names locks ≡ true → AtomicSomewhere p a m names locks)
  where
    abbrev guards : ℕ → ℕ
    guards x = guard_at p w x

    -- code under H, of a method of k names
    record Under (k H : ℕ) (c : Code) (names : Names) (locks : Locks) : Type 0 where
      few : k ≤ no_name
      set : H < 2 ^ k
      linked : Linked p a k c
      has : HeldIn H names locks

    -- the thread has the guard wherever the rules count it as held
    has-guard : (k H U T0 x : ℕ) (names : Names) (locks : Locks) (guarded : Bool) → k ≤ no_name → H < 2 ^ k → HeldIn H names locks
        → Touches p w names U T0 x → guarded ≡ locks (w.guard x) → guard_uses (guards x) ≡ true → T (held H T0) → T guarded
    has-guard k H U T0 x names locks guarded few set has t s uses h =
        subst T (sym (s ∙ ap locks (t.guard (subst (λ (f : ℕ). guard_uses (field_at p f).guard ≡ true) t.field uses) named) ∙ has T0 h)) tt
      where
        named : T0 ≡ no_name → ⊥
        named e = subst T (no-name-held k H set few) (subst (λ (i : ℕ). T (held H i)) e h)

    -- an invocation, looked at as a whole if the view says so
    good-looked : (m g : ℕ) (names : Names) (locks : Locks) (word : Word) → m < method_count p
        → ((H : ℕ) → H < entry_count p m → HeldIn H names locks → Good guards (a m H) word)
        → Good guards g word → Good guards g (looked view m names locks word)
    good-looked m g names locks word h at k = go (view m names locks) refl
      where
        go : (b : Bool) → view m names locks ≡ b → Good guards g (cond b (as_whole word) word)
        go true e =
            let v = viewed m names locks h e in
            good-whole guards g word k (good-rises guards (a m v.set) atomic word (le_trans (cap-le _) v.grade) (at v.set v.is_set v.has))
        go false e = k

    -- code of the same method, with the same locks
    part : {c d : Code} {names : Names} {locks : Locks} (k H : ℕ) → Under k H c names locks → Linked p a k d → Under k H d names locks
    part k H u l = record { few = u.few; set = u.set; linked = l; has = u.has }

    -- the grade of an access is that of the location's field
    at-location : (U x H T0 : ℕ) (writing : Bool) (word : Word) → w.field x ≡ U
        → Good guards (access_grade (field_at p U).width (guards x) writing (held H T0)) word → Good guards (grade_of p a (accessing writing U T0) H) word
    at-location U x H T0 writing word e g =
        subst (λ (f : ℕ). Good guards (access_grade (field_at p U).width (field_at p f).guard writing (held H T0)) word) e g

    -- the child of a synchronised node, where the lock is held already and where it is taken
    child-has : {l : ℕ} {c : Code} {names : Names} {locks : Locks} (k H : ℕ) → Under k H (locking l c) names locks → locks (names l) ≡ true
        → Under k (add H l) c names locks
    child-has {l} {c} {names} {locks} k H u e =
        record {
          few = u.few;
          set = add-below k H l u.set u.linked.0;
          linked = u.linked.1;
          has = held-added H l names locks locks (λ j h. h) e u.has;
        }

    child-takes : {l : ℕ} {c : Code} {names : Names} {locks : Locks} (k H : ℕ) → Under k H (locking l c) names locks
        → Under k (add H l) c names (changed locks (names l) true)
    child-takes {l} {c} {names} {locks} k H u =
        record {
          few = u.few;
          set = add-below k H l u.set u.linked.0;
          linked = u.linked.1;
          has = held-added H l names locks (changed locks (names l) true) (changed-more locks (names l)) (changed-here locks (names l)) u.has;
        }

    -- a lock that the thread lacks is not in H
    newly : (l H : ℕ) (names : Names) (locks : Locks) → HeldIn H names locks → locks (names l) ≡ false → held H l ≡ false
    newly l H names locks has e = go (held H l) refl
      where
        go : (b : Bool) → held H l ≡ b → held H l ≡ false
        go true h = absurd (subst T (sym (has l (subst T (sym h) tt)) ∙ e) tt)
        go false h = h

    taken-grade : (l H : ℕ) (c : Code) → held H l ≡ false → grade_of p a (locking l c) H ≡ lock_taken (grade_of p a c (add H l))
    taken-grade l H c e = ap (λ (b : Bool). cond (not b) (lock_taken (grade_of p a c (add H l))) (grade_of p a c (add H l))) e

    held-grade : (b : Bool) (g : ℕ) → cap g ≤ cond b (lock_taken g) g
    held-grade true g = lock_taken-above g
    held-grade false g = cap-le g

    -- a callee's body, at a set of names whose locks the thread has
    body-under : (m H : ℕ) (names : Names) (locks : Locks) → m < method_count p → H < entry_count p m → HeldIn H names locks
        → Under (method_at p m).k H (body_of p m) names locks
    body-under m H names locks h s has = record { few = few_names m h; set = unfold entry_count entries in s; linked = bodies m h; has = has }

    body-good : (m H : ℕ) (word : Word) → m < method_count p → H < entry_count p m → Good guards (grade_of p a (body_of p m) H) word → Good guards (a m H) word
    body-good m H word h s g =
        good-rises guards (grade_of p a (body_of p m) H) (a m H) word (le_trans (cap-le _) (le_trans (body-grade p a m H) (roots m H h s))) g

    typed : {c : Code} {names : Names} {locks : Locks} {word : Word} {done : Bool} → Does p w view c names locks word done
        → (k H : ℕ) → Under k H c names locks → Shows w locks word → Good guards (grade_of p a c H) word
    typed stopped k H u s = good_none guards _
    typed idle k H u s = good_none guards _
    typed (narrow {writing = wr} {U = U} {T0 = T0} {names = names} {locks = locks} x v g n t) k H u s =
        at-location U x H T0 wr (one guards (access x wr v g)) t.field
        (good-narrow guards (field_at p U).width wr (held H T0) x v g (has-guard k H U T0 x names locks g u.few u.set u.has t s.0))
    typed (half_wide {writing = wr} {U = U} {T0 = T0} {names = names} {locks = locks} x v g n t) k H u s =
        at-location U x H T0 wr (one guards (access x wr v g)) t.field
        (good-narrow guards (field_at p U).width wr (held H T0) x v g (has-guard k H U T0 x names locks g u.few u.set u.has t s.0))
    typed (wide {writing = wr} {U = U} {T0 = T0} {names = names} {locks = locks} x v g x' v' g' n t t') k H u s =
        at-location U x H T0 wr (alone (access x wr v g) ∷ alone (access x' wr v' g') ∷ []) t.field
        (good-wide guards (field_at p U).width wr (held H T0) (wide-width (field_at p U).width n) x v g x' v' g'
        (ap (λ (f : ℕ). (field_at p f).guard) (t.field ∙ sym t'.field))
        (has-guard k H U T0 x names locks g u.few u.set u.has t s.0)
        (has-guard k H U T0 x' names locks g' u.few u.set u.has t' s.1.0))
    typed (cut_first d) k H u s = good-rises guards _ _ _ (compose-above-first _ _) (typed d k H (part k H u u.linked.0) s)
    typed (both {locks = locks} {word = word} {word' = word'} d e) k H u s =
        good-compose guards _ _ word word' (typed d k H (part k H u u.linked.0) (shows_first w locks word word' s))
        (typed e k H (part k H u u.linked.1) (subst (λ (L : Locks). Shows w L word') (balanced p w view d refl) (shows_second w locks word word' s)))
    typed (one_way d) k H u s = good-rises guards _ _ _ (join-above-first _ _) (typed d k H (part k H u u.linked.0) s)
    typed (other d) k H u s = good-rises guards _ _ _ (join-above-second _ _) (typed d k H (part k H u u.linked.1) s)
    typed enough k H u s = good_none guards _
    typed (cut_inside d) k H u s = good-rises guards _ _ _ (closure-above _) (typed d k H (part k H u u.linked) s)
    typed (once_more {locks = locks} {word = word} {word' = word'} d e) k H u s =
        good-again guards _ word word' (typed d k H (part k H u u.linked) (shows_first w locks word word' s))
        (typed e k H u (subst (λ (L : Locks). Shows w L word') (balanced p w view d refl) (shows_second w locks word word' s)))
    typed (has_lock {l = l} {c = c} {word = word} e d) k H u s =
        good-rises guards _ _ word (held-grade (not (held H l)) (grade_of p a c (add H l))) (typed d k (add H l) (child-has k H u e) s)
    typed (takes_lock {l = l} {c = c} {names = names} {locks = locks} {word = word} e d) k H u s =
        subst (λ (g : ℕ). Good guards g (alone (acquire (names l)) ∷ (word ++ (alone (release (names l)) ∷ [])))) (sym (taken-grade l H c (newly l H names locks u.has e)))
        (good-given-back guards (lock_taken (grade_of p a c (add H l))) (names l) (alone (acquire (names l)) ∷ word) (atomic-taken _)
        (good-taken guards (grade_of p a c (add H l)) (names l) word
        (typed d k (add H l) (child-takes k H u) (shows_first w (changed locks (names l) true) word (alone (release (names l)) ∷ []) s.1))))
    typed (keeps_lock {l = l} {c = c} {names = names} {locks = locks} {word = word} e d) k H u s =
        subst (λ (g : ℕ). Good guards g (alone (acquire (names l)) ∷ word)) (sym (taken-grade l H c (newly l H names locks u.has e)))
        (good-taken guards (grade_of p a c (add H l)) (names l) word (typed d k (add H l) (child-takes k H u) s.1))
    typed (asserted {locks = locks} {word = word} d) k H u s =
        good-assert guards _ word (typed d k H (part k H u u.linked) (shows-whole w locks word s))
    typed (called {m = m} {Ts = Ts} {names = names} {locks = locks} {word = word} callee passed d) k H u s =
        good-looked m (callee_entry (method_at p m).k (a m) Ts H) callee locks word u.linked
        (λ S b has. body-good m S word u.linked b (typed d (method_at p m).k S (body-under m S callee locks u.linked b has) shown))
        (good-rises guards (a m S₀) (callee_entry (method_at p m).k (a m) Ts H) word
        (le_trans (cap-le _) (unfold entry_not_held in (entries-compared (method_at p m).k (a m) Ts H).nowhere_below))
        (body-good m S₀ word u.linked below₀ (typed d (method_at p m).k S₀ (body-under m S₀ callee locks u.linked below₀ has₀) shown)))
      where
        S₀ : ℕ
        S₀ = known (method_at p m).k Ts H

        below₀ : S₀ < entry_count p m
        below₀ = unfold entry_count in known-below (method_at p m).k Ts H

        has₀ : HeldIn S₀ callee locks
        has₀ = known-held (method_at p m).k Ts H names callee locks passed u.has

        shown : Shows w locks word
        shown = shows-looked w locks view m callee locks word s
    typed (forked thread e) k H u s = good-fork guards thread

    -- an invocation is good at each held set whose names the thread has
    pub invoked : (m H : ℕ) {names : Names} {locks : Locks} {word : Word} {done : Bool} → m < method_count p → H < entry_count p m → HeldIn H names locks
        → Does p w view (body_of p m) names locks word done → Shows w locks word → Good guards (a m H) (looked view m names locks word)
    invoked m H {names} {locks} {word} h b has d s = good-looked m (a m H) names locks word h at (at H b has)
      where
        at : (S : ℕ) → S < entry_count p m → HeldIn S names locks → Good guards (a m S) word
        at S b has = body-good m S word h b (typed d (method_at p m).k S (body-under m S names locks h b has) s)
