-- The phase that a thread is in after a history: how one step more changes it, and that every step of a history whose words fit keeps the discipline.
-- Assumes nothing.
use Rattle.std.specs.Prelude.{ℕ, Bool, true, false, cond, ◌⊎◌, ◌≡◌}
use mathlib.Core.List.{[], ◌∷◌, ◌++◌}
use Rattle.std.proofs.Common.{inl, inr, ap, ◌∙◌, subst, eq-eqb, ne_eqb}
use Rattle.std.proofs.Math.Path.{refl}
use Rattle.std.proofs.Math.Decide.{ℕ_discrete}
use Rattle.std.proofs.Math.Dec.{T}
use Rattle.counting.specs.Counting.{All}
use Rattle.running.specs.Machine.{Event, Step, Word, History, word_of}
use Rattle.running.specs.Movers.{fair, moves_later, moves_earlier, Phase, wrong, apart, past, before, right, onward, next, phase, Fits}

-- ---- words

word-here : (t : ℕ) (x : Step) (h : History) → x.thread ≡ t → word_of t (x ∷ h) ≡ word_of t h ++ (x.event ∷ [])
unfolding word_of
word-here t x h e = ap (λ (b : Bool). cond b (word_of t h ++ (x.event ∷ [])) (word_of t h)) (eq-eqb x.thread t e)

word-there : (t : ℕ) (x : Step) (h : History) → (x.thread ≡ t → ⊥) → word_of t (x ∷ h) ≡ word_of t h
unfolding word_of
word-there t x h n = ap (λ (b : Bool). cond b (word_of t h ++ (x.event ∷ [])) (word_of t h)) (ne_eqb x.thread t n)

-- ---- one event more

abbrev pub is_before : Phase → Bool
is_before wrong = false
is_before apart = false
is_before past = false
is_before before = true

abbrev pub is_past : Phase → Bool
is_past wrong = false
is_past apart = false
is_past past = true
is_past before = false

-- what is right after an event was right before it
onward-right : (q : Phase) (joined later earlier : Bool) → T (right (onward q joined later earlier)) → T (right q)
onward-right wrong joined later earlier r = r
onward-right apart joined later earlier r = tt
onward-right past joined later earlier r = tt
onward-right before joined later earlier r = tt

opened-later : (later : Bool) → T (is_before (cond later before past)) → T later
opened-later true b = tt
opened-later false b = b

past-not-before : (earlier : Bool) → T (is_before (cond earlier past wrong)) → ⊥
past-not-before true b = b
past-not-before false b = b

past-earlier : (earlier : Bool) → T (right (cond earlier past wrong)) → T earlier
past-earlier true r = tt
past-earlier false r = r

onward-later : (q : Phase) (joined later earlier : Bool) → T (is_before (onward q joined later earlier)) → T later
onward-later wrong joined later earlier b = absurd b
onward-later apart false later earlier b = opened-later later b
onward-later apart true later earlier b = absurd b
onward-later past false later earlier b = opened-later later b
onward-later past true later earlier b = absurd (past-not-before earlier b)
onward-later before false later earlier b = opened-later later b
onward-later before true later earlier b = opened-later later b

onward-joined : (q : Phase) (joined later earlier : Bool) → joined ≡ true → T (is_before (onward q joined later earlier)) → T (is_before q)
onward-joined wrong joined later earlier j b = b
onward-joined apart joined later earlier j b =
    subst (λ (c : Bool). T (is_before (onward apart c later earlier))) j b
onward-joined past joined later earlier j b =
    past-not-before earlier (subst (λ (c : Bool). T (is_before (onward past c later earlier))) j b)
onward-joined before joined later earlier j b = tt

onward-cases : (q : Phase) (joined later earlier : Bool) → joined ≡ true → T (right (onward q joined later earlier))
    → T (is_before q) ⊎ (T (is_past q) × T earlier)
onward-cases wrong joined later earlier j r = absurd r
onward-cases apart joined later earlier j r = absurd (subst (λ (c : Bool). T (right (onward apart c later earlier))) j r)
onward-cases past joined later earlier j r =
    inr (tt, past-earlier earlier (subst (λ (c : Bool). T (right (onward past c later earlier))) j r))
onward-cases before joined later earlier j r = inl tt

-- what passes at a choice whose other branch is wrong
fair-right : (fair : Bool) (q : Phase) → T (right (cond fair q wrong)) → T fair × T (right q)
fair-right true q r = (tt, r)
fair-right false q r = absurd r

fair-before : (fair : Bool) (q : Phase) → T (is_before (cond fair q wrong)) → T (is_before q)
fair-before true q b = b
fair-before false q b = absurd b

-- ---- one step more

module _ (guards : ℕ → ℕ) where
  -- the phase that thread t is in after a history
  abbrev pub phase_of : (t : ℕ) → History → Phase
  phase_of t h = phase guards apart (word_of t h)

  phase-last : (q : Phase) (word : Word) (e : Event) → phase guards q (word ++ (e ∷ [])) ≡ next guards (phase guards q word) e
  unfolding phase
  phase-last q [] e = refl
  phase-last q (x ∷ word) e = phase-last (next guards q x) word e

  pub phase-here : (t : ℕ) (x : Step) (h : History) → x.thread ≡ t → phase_of t (x ∷ h) ≡ next guards (phase_of t h) x.event
  phase-here t x h e = ap (phase guards apart) (word-here t x h e) ∙ phase-last apart (word_of t h) x.event

  pub phase-there : (t : ℕ) (x : Step) (h : History) → (x.thread ≡ t → ⊥) → phase_of t (x ∷ h) ≡ phase_of t h
  phase-there t x h n = ap (phase guards apart) (word-there t x h n)

  -- before any step no thread is past anything
  pub none_before : (t : ℕ) → T (is_before (phase_of t [])) → ⊥
  unfolding word_of phase
  none_before t b = b

  pub none-past : (t : ℕ) → T (is_past (phase_of t [])) → ⊥
  unfolding word_of phase
  none-past t b = b

  next-right : (q : Phase) (e : Event) → T (right (next guards q e)) → T (fair guards e.action) × T (right q)
  unfolding next
  next-right q e r =
      let on = onward q e.joined (moves_later guards e.action) (moves_earlier guards e.action) in
      let f : T (fair guards e.action) × T (right on) = fair-right (fair guards e.action) on r in
      (f.0, onward-right q e.joined (moves_later guards e.action) (moves_earlier guards e.action) f.1)

  next-later : (q : Phase) (e : Event) → T (is_before (next guards q e)) → T (moves_later guards e.action)
  unfolding next
  next-later q e b =
      onward-later q e.joined (moves_later guards e.action) (moves_earlier guards e.action)
      (fair-before (fair guards e.action) _ b)

  next-joined : (q : Phase) (e : Event) → e.joined ≡ true → T (is_before (next guards q e)) → T (is_before q)
  unfolding next
  next-joined q e j b =
      onward-joined q e.joined (moves_later guards e.action) (moves_earlier guards e.action) j
      (fair-before (fair guards e.action) _ b)

  next-cases : (q : Phase) (e : Event) → e.joined ≡ true → T (right (next guards q e)) → T (is_before q) ⊎ (T (is_past q) × T (moves_earlier guards e.action))
  unfolding next
  next-cases q e j r =
      onward-cases q e.joined (moves_later guards e.action) (moves_earlier guards e.action) j
      (fair-right (fair guards e.action) _ r).1

  -- the latest step of a thread that is still before the one: it moves later, and if it is joined the thread was before the one already
  pub latest-later : (t : ℕ) (x : Step) (h : History) → x.thread ≡ t → T (is_before (phase_of t (x ∷ h))) → T (moves_later guards x.event.action)
  latest-later t x h e b =
      next-later (phase_of t h) x.event (subst (λ (q : Phase). T (is_before q)) (phase-here t x h e) b)

  pub latest-joined : (t : ℕ) (x : Step) (h : History) → x.thread ≡ t → x.event.joined ≡ true → T (is_before (phase_of t (x ∷ h))) → T (is_before (phase_of t h))
  latest-joined t x h e j b =
      next-joined (phase_of t h) x.event j (subst (λ (q : Phase). T (is_before q)) (phase-here t x h e) b)

  -- a joined step that fits comes before the one, or past it and moves earlier
  pub latest-cases : (x : Step) (h : History) → x.event.joined ≡ true → Fits guards (word_of x.thread (x ∷ h))
      → T (is_before (phase_of x.thread h)) ⊎ (T (is_past (phase_of x.thread h)) × T (moves_earlier guards x.event.action))
  latest-cases x h j r =
      next-cases (phase_of x.thread h) x.event j (subst (λ (q : Phase). T (right q)) (phase-here x.thread x h refl) r)

  -- ---- every step keeps the discipline

  abbrev pub FairStep : Step → Type 0
  FairStep x = T (fair guards x.event.action)

  pub fits-latest : (x : Step) (h : History) → Fits guards (word_of x.thread (x ∷ h)) → FairStep x
  fits-latest x h r =
      (next-right (phase_of x.thread h) x.event (subst (λ (q : Phase). T (right q)) (phase-here x.thread x h refl) r)).0

  pub fits-earlier : (x : Step) (h : History) (t : ℕ) → Fits guards (word_of t (x ∷ h)) → Fits guards (word_of t h)
  fits-earlier x h t r = go (ℕ_discrete x.thread t)
    where
      go : Dec (x.thread ≡ t) → Fits guards (word_of t h)
      go (yes e) = (next-right (phase_of t h) x.event (subst (λ (q : Phase). T (right q)) (phase-here t x h e) r)).1
      go (no n) = subst (λ (q : Phase). T (right q)) (phase-there t x h n) r

  pub fits-fair : (h : History) → ((t : ℕ) → Fits guards (word_of t h)) → All FairStep h
  fits-fair [] f = tt
  fits-fair (x ∷ h) f = (fits-latest x h (f x.thread), fits-fair h (λ t. fits-earlier x h t (f t)))
