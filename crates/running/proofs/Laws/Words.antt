-- What a grade says of a word, and that the arithmetic of grades is right about words: at most cmpd, the word keeps the discipline and what is joined in
-- it fits; at most atomic, all of it fits around one event; at most mover, all its events move both ways. Words that were cut off are words, too.
-- Assumes nothing.
use Rattle.std.specs.Prelude.{ℕ, zero, suc, ◌≤◌, ◌<◌, Bool, ◌⊎◌, ◌≡◌}
use Rattle.std.proofs.Math.Bool.{true, false, cond}
use mathlib.Core.List.{[], ◌∷◌, ◌++◌, map, map-append}
use Rattle.std.proofs.Common.{inl, inr, ⊎_elim, sym, ◌∙◌, le_trans, lit≤}
use Rattle.std.proofs.Math.Path.{refl, ap, subst}
use native.Mathlib.Omega.{arith}
use Rattle.std.proofs.Math.Dec.{T}
use Rattle.grades.specs.Grades.{mover, atomic, cmpd, error, cap, composition, compose, closure, assert_atomic, lock_taken}
use Rattle.grades.specs.Cases.{arithmetic-cases}
use Rattle.grades.proofs.Laws.Grades.{cap-grade, compose-grows, compose-error, compose-above-first, compose-above-second, closure-above, assert-grows, assert-stays, lock_taken-above, lock_taken-atomic}
use Rattle.counting.specs.Counting.{All}
use Rattle.counting.specs.Laws.Counting.{all_append}
use Rattle.counting.specs.Laws.Tests.{lt-or-le}
use Rattle.running.specs.Machine.{Action, acquire, release, begin, Event, Word}
use Rattle.running.specs.Threads.{alone, joined_on, as_whole}
use Rattle.running.specs.Movers.{fair, moves_later, moves_earlier, Phase, wrong, apart, past, before, right, opened, onward, next, phase, Fits}

-- ---- the arithmetic, as it is used here

-- a number that counts as a grade up to error - 1 is that grade
uncapped : (a g : ℕ) → cap a ≤ g → g ≤ cmpd → a ≤ g
unfolding cap
uncapped a g h l = omega arith

-- two parts are atomic together only if one of them is a mover
pub atomic-parts : (a b : ℕ) → compose a b ≤ atomic → ((a ≤ mover) × (b ≤ atomic)) ⊎ ((a ≤ atomic) × (b ≤ mover))
atomic-parts a b h = ⊎_elim first second (lt-or-le a atomic)
  where
    one : a ≤ atomic
    one = uncapped a atomic (le_trans (compose-above-first a b) h) (lit≤ tt)

    other : b ≤ atomic
    other = uncapped b atomic (le_trans (compose-above-second a b) h) (lit≤ tt)

    first : a < atomic → ((a ≤ mover) × (b ≤ atomic)) ⊎ ((a ≤ atomic) × (b ≤ mover))
    first l = inl (omega arith, other)

    second : atomic ≤ a → ((a ≤ mover) × (b ≤ atomic)) ⊎ ((a ≤ atomic) × (b ≤ mover))
    second l = ⊎_elim
        (λ (k : b < atomic). inr (one, omega arith))
        (λ (k : atomic ≤ b). absurd (omega (arith, compose-grows atomic atomic a b l k, arithmetic-cases.P1))) (lt-or-le b atomic)

-- once more after any number of times
pub closure-absorbs : (a : ℕ) → compose a (closure a) ≤ closure a
unfolding compose composition cap closure
closure-absorbs zero = lit≤ tt
closure-absorbs (suc zero) = lit≤ tt
closure-absorbs (suc (suc zero)) = lit≤ tt
closure-absorbs (suc (suc (suc zero))) = lit≤ tt
closure-absorbs (suc (suc (suc (suc a)))) = large (suc (suc (suc (suc a)))) (omega arith)
  where
    large : (b : ℕ) → error ≤ b → compose b (closure b) ≤ closure b
    large b h = omega (arith, compose-error b (closure b), closure-above b, capped b h)
      where
        capped : (c : ℕ) → error ≤ c → error ≤ cap c
        capped c g = omega arith

pub assert-passes : (a : ℕ) → assert_atomic a ≤ cmpd → a ≤ atomic
unfolding assert_atomic cap
assert-passes a h = ⊎_elim (λ (l : a < cmpd). omega arith) (λ (l : cmpd ≤ a). absurd (omega (arith, assert-grows cmpd a l, arithmetic-cases.P9))) (lt-or-le a cmpd)

assert-same : (a : ℕ) → a ≤ atomic → assert_atomic a ≡ a
assert-same a h = assert-stays a (λ e. omega arith) ∙ cap-grade a (omega arith)

pub atomic-taken : (a : ℕ) → atomic ≤ lock_taken a
unfolding cap
atomic-taken a = ⊎_elim (λ (l : a < atomic). omega (arith, lock_taken-atomic a l)) (λ (l : atomic ≤ a). omega (arith, lock_taken-above a)) (lt-or-le a atomic)

-- ---- phases

-- among joined events: before the one that does not move later, or past it
abbrev pub inside : Phase → Bool
inside wrong = false
inside apart = false
inside past = true
inside before = true

module _ (guards : ℕ → ℕ) where
  pub phase-append : (q : Phase) (a b : Word) → phase guards q (a ++ b) ≡ phase guards (phase guards q a) b
  unfolding phase
  phase-append q [] b = refl
  phase-append q (e ∷ a) b = phase-append (next guards q e) a b

  pub next-wrong : (e : Event) → next guards wrong e ≡ wrong
  unfolding next
  next-wrong e = go (fair guards e.action)
    where
      go : (b : Bool) → cond b wrong wrong ≡ wrong
      go true = refl
      go false = refl

  pub phase-wrong : (word : Word) → phase guards wrong word ≡ wrong
  unfolding phase
  phase-wrong [] = refl
  phase-wrong (e ∷ word) = ap (λ (q : Phase). phase guards q word) (next-wrong e) ∙ phase-wrong word

  -- a word that fits starts with an event that is alone
  joined-first : (e : Event) (word : Word) → e.joined ≡ true → Fits guards (e ∷ word) → ⊥
  unfolding phase next
  joined-first e word j f =
      subst (λ (q : Phase). T (right q))
      (ap (λ (b : Bool). phase guards (cond (fair guards e.action) (onward apart b (moves_later guards e.action) (moves_earlier guards e.action)) wrong) word) j
      ∙ ap (λ (q : Phase). phase guards q word) (either-wrong (fair guards e.action)) ∙ phase-wrong word) f
    where
      either-wrong : (b : Bool) → cond b wrong wrong ≡ wrong
      either-wrong true = refl
      either-wrong false = refl

  -- so it may follow whatever is right so far
  starts-anew : (q : Phase) (word : Word) → T (right q) → Fits guards word → T (right (phase guards q word))
  unfolding phase
  starts-anew q [] r f = r
  starts-anew q (e ∷ word) r f = go e.joined refl
    where
      same : (q : Phase) → T (right q) → e.joined ≡ false → next guards q e ≡ next guards apart e
      same wrong r j = absurd r
      same apart r j = refl
      same past r j = unfold next in simp j
      same before r j = unfold next in simp j

      go : (b : Bool) → e.joined ≡ b → T (right (phase guards (next guards q e) word))
      go true j = absurd (joined-first e word j f)
      go false j = subst (λ (z : Phase). T (right (phase guards z word))) (sym (same q r j)) f

  -- ---- events that move both ways

  abbrev pub Free : Event → Type 0
  Free e = T (fair guards e.action) × T (moves_later guards e.action) × T (moves_earlier guards e.action)

  next-fair : (q : Phase) (e : Event) → T (fair guards e.action)
      → next guards q e ≡ onward q e.joined (moves_later guards e.action) (moves_earlier guards e.action)
  unfolding next
  next-fair q e = go (fair guards e.action) (onward q e.joined (moves_later guards e.action) (moves_earlier guards e.action))
    where
      go : (b : Bool) (z : Phase) → T b → cond b z wrong ≡ z
      go true z t = refl
      go false z t = absurd t

  -- joined, they leave the phase
  free-next : (q : Phase) (e : Event) → T (inside q) → Free e → next guards q (joined_on e) ≡ q
  free-next q e i f = next-fair q (joined_on e) f.0 ∙ go q (moves_later guards e.action) (moves_earlier guards e.action) i f.1 f.2
    where
      go : (q : Phase) (later earlier : Bool) → T (inside q) → T later → T earlier → onward q true later earlier ≡ q
      go wrong later earlier i l k = absurd i
      go apart later earlier i l k = absurd i
      go past later true i l k = refl
      go past later false i l k = absurd k
      go before true earlier i l k = refl
      go before false earlier i l k = absurd l

  free-phase : (q : Phase) (word : Word) → T (inside q) → All Free word → phase guards q (map joined_on word) ≡ q
  unfolding phase
  free-phase q [] i f = refl
  free-phase q (e ∷ word) i f =
      ap (λ (z : Phase). phase guards z (map joined_on word)) (free-next q e i f.0) ∙ free-phase q word i f.1

  -- ---- what a grade says of a word

  pub record Good (grade : ℕ) (word : Word) : Type 0 where
    pub fits : grade ≤ cmpd → Fits guards word
    pub around : grade ≤ atomic → T (inside (phase guards before (map joined_on word)))
    pub free : grade ≤ mover → All Free word

  pub good_none : (g : ℕ) → Good g []
  unfolding phase
  good_none g = record { fits = λ h. tt; around = λ h. tt; free = λ h. tt }

  -- a higher grade says less
  pub good-rises : (a b : ℕ) (word : Word) → cap a ≤ b → Good a word → Good b word
  good-rises a b word h g =
      record {
        fits = λ l. g.fits (uncapped a cmpd (le_trans h l) (lit≤ tt));
        around = λ l. g.around (uncapped a atomic (le_trans h l) (lit≤ tt));
        free = λ l. g.free (uncapped a mover (le_trans h l) (lit≤ tt));
      }

  -- one after the other
  pub good-compose : (a b : ℕ) (u v : Word) → Good a u → Good b v → Good (compose a b) (u ++ v)
  good-compose a b u v g k =
      record {
        fits = λ l.
            subst (λ (q : Phase). T (right q)) (sym (phase-append apart u v))
            (starts-anew (phase guards apart u) v
            (g.fits (uncapped a cmpd (le_trans (compose-above-first a b) l) (lit≤ tt)))
            (k.fits (uncapped b cmpd (le_trans (compose-above-second a b) l) (lit≤ tt))));
        around = λ l. subst (λ (q : Phase). T (inside q)) (sym (joined-append u v)) (⊎_elim first second (atomic-parts a b l));
        free = λ l. all_append Free u v
            (g.free (uncapped a mover (le_trans (compose-above-first a b) l) (lit≤ tt)))
            (k.free (uncapped b mover (le_trans (compose-above-second a b) l) (lit≤ tt)));
      }
    where
      joined-append : (u v : Word) → phase guards before (map joined_on (u ++ v)) ≡ phase guards (phase guards before (map joined_on u)) (map joined_on v)
      joined-append u v = ap (phase guards before) (map-append joined_on u v) ∙ phase-append before (map joined_on u) (map joined_on v)

      first : ((a ≤ mover) × (b ≤ atomic)) → T (inside (phase guards (phase guards before (map joined_on u)) (map joined_on v)))
      first l =
          subst (λ (q : Phase). T (inside (phase guards q (map joined_on v)))) (sym (free-phase before u tt (g.free l.0))) (k.around l.1)

      second : ((a ≤ atomic) × (b ≤ mover)) → T (inside (phase guards (phase guards before (map joined_on u)) (map joined_on v)))
      second l =
          subst (λ (q : Phase). T (inside q)) (sym (free-phase (phase guards before (map joined_on u)) v (g.around l.0) (k.free l.1))) (g.around l.0)

  -- again and again
  pub good-again : (a : ℕ) (u v : Word) → Good a u → Good (closure a) v → Good (closure a) (u ++ v)
  good-again a u v g k = good-rises (compose a (closure a)) (closure a) (u ++ v) (le_trans (cap-below (compose a (closure a))) (closure-absorbs a)) (good-compose a (closure a) u v g k)
    where
      cap-below : (a : ℕ) → cap a ≤ a
      cap-below a = unfold cap in omega arith

  -- ---- one event

  abbrev pub one : Action → Word
  one a = alone a ∷ []

  -- it is around itself, and fits if it keeps the discipline
  pub good-one : (g : ℕ) (a : Action) → (g ≤ cmpd → T (fair guards a)) → (g ≤ mover → Free (alone a)) → Good g (one a)
  unfolding phase
  good-one g a f k =
      record {
        fits = λ h. subst (λ (q : Phase). T (right q)) (sym (next-fair apart (alone a) (f h))) (either (moves_later guards a)).0;
        around = λ h. subst (λ (q : Phase). T (inside q)) (sym (next-fair before (joined_on (alone a)) (f (le_trans h (lit≤ tt))))) (either (moves_later guards a)).1;
        free = λ h. (k h, tt);
      }
    where
      either : (later : Bool) → T (right (opened later)) × T (inside (opened later))
      either true = (tt, tt)
      either false = (tt, tt)

  -- ---- a lock taken

  -- a lock is taken before the others move
  pub good-taken : (a l : ℕ) (word : Word) → Good a word → Good (lock_taken a) (alone (acquire l) ∷ word)
  unfolding phase next
  good-taken a l word g =
      record {
        fits = λ h. starts-anew before word tt (g.fits (uncapped a cmpd (le_trans (lock_taken-above a) h) (lit≤ tt)));
        around = λ h. g.around (uncapped a atomic (le_trans (lock_taken-above a) h) (lit≤ tt));
        free = λ h. absurd (omega (arith, atomic-taken a, h));
      }

  -- and given back after them
  pub good-given-back : (a l : ℕ) (word : Word) → atomic ≤ a → Good a word → Good a (word ++ one (release l))
  good-given-back a l word low g =
      record {
        fits = λ h. subst (λ (q : Phase). T (right q)) (sym (phase-append apart word (one (release l)))) (starts-anew (phase guards apart word) (one (release l)) (g.fits h) alone-fits);
        around = λ h.
            subst (λ (q : Phase). T (inside q))
            (sym (ap (phase guards before) (map-append joined_on word (one (release l))) ∙ phase-append before (map joined_on word) (map joined_on (one (release l)))))
            (last (phase guards before (map joined_on word)) (g.around h));
        free = λ h. absurd (omega arith);
      }
    where
      alone-fits : Fits guards (one (release l))
      alone-fits = unfold phase next in tt

      last : (q : Phase) → T (inside q) → T (inside (phase guards q (map joined_on (one (release l)))))
      last wrong i = absurd i
      last apart i = absurd i
      last past i = unfold phase next in tt
      last before i = unfold phase next in tt

  -- ---- looked at as a whole

  joined-twice : (word : Word) → map joined_on (map joined_on word) ≡ map joined_on word
  joined-twice [] = refl
  joined-twice (e ∷ word) = ap (λ (r : Word). joined_on e ∷ r) (joined-twice word)

  joined-whole : (word : Word) → map joined_on (as_whole word) ≡ map joined_on word
  joined-whole [] = refl
  joined-whole (e ∷ word) = ap (λ (r : Word). joined_on e ∷ r) (joined-twice word)

  free-joined : (word : Word) → All Free word → All Free (map joined_on word)
  free-joined [] f = tt
  free-joined (e ∷ word) f = (f.0, free-joined word f.1)

  free-whole : (word : Word) → All Free word → All Free (as_whole word)
  free-whole [] f = tt
  free-whole (e ∷ word) f = (f.0, free-joined word f.1)

  fits_whole : (word : Word) → Good atomic word → Fits guards (as_whole word)
  unfolding phase
  fits_whole [] g = tt
  fits_whole (e ∷ word) g = go e.joined refl
    where
      inside-right : (q : Phase) → T (inside q) → T (right q)
      inside-right wrong i = i
      inside-right apart i = tt
      inside-right past i = tt
      inside-right before i = tt

      first : e.joined ≡ false → next guards before (joined_on e) ≡ next guards apart e
      first j = unfold next in simp j

      go : (b : Bool) → e.joined ≡ b → T (right (phase guards (next guards apart e) (map joined_on word)))
      go true j = absurd (joined-first e word j (g.fits (lit≤ tt)))
      go false j =
          subst (λ (q : Phase). T (right (phase guards q (map joined_on word)))) (first j)
          (inside-right (phase guards (next guards before (joined_on e)) (map joined_on word)) (g.around (lit≤ tt)))

  -- a word that is atomic may be looked at as a whole
  pub good-whole : (g : ℕ) (word : Word) → Good g word → Good atomic word → Good g (as_whole word)
  good-whole g word k a =
      record {
        fits = λ h. fits_whole word a;
        around = λ h. subst (λ (r : Word). T (inside (phase guards before r))) (sym (joined-whole word)) (k.around h);
        free = λ h. free-whole word (k.free h);
      }

  pub good-assert : (a : ℕ) (word : Word) → Good a word → Good (assert_atomic a) (as_whole word)
  good-assert a word g = record { fits = λ h. (of h).fits h; around = λ h. (of (le_trans h (lit≤ tt))).around h; free = λ h. (of (le_trans h (lit≤ tt))).free h }
    where
      of : assert_atomic a ≤ cmpd → Good (assert_atomic a) (as_whole word)
      of h =
          let low : a ≤ atomic = assert-passes a h in
          subst (λ (b : ℕ). Good b (as_whole word)) (sym (assert-same a low))
          (good-whole a word g (good-rises a atomic word (omega (arith, cap-grade a (omega arith))) g))

  -- ---- forks

  pub good-fork : (u : ℕ) → Good atomic (one (begin u))
  good-fork u = good-one atomic (begin u) (λ h. tt) (λ h. absurd (omega arith))
