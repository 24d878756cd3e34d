-- A thread's joined steps, if all of them move later, are put on top of a history, with the step that they are joined to. It knows no grade.
-- Assumes nothing.
use Rattle.std.specs.Prelude.{ℕ, Bool, true, false, [], ◌∷◌, ◌≡◌, refl, T}
use Rattle.std.proofs.Common.{sym, ap, ◌∙◌, subst}
use Rattle.std.proofs.Math.Decide.{ℕ_discrete}
use Rattle.counting.specs.Counting.{All}
use Rattle.running.specs.Machine.{World, State, Event, Step, Word, History, Possible, LatestBy, Serial}
use Rattle.running.specs.Movers.{Phase, fair, moves_later}
use Rattle.running.proofs.Laws.Exchange.{true-not-false}
use Rattle.running.proofs.Laws.Phases.{is_before, phase_of, phase-there, none_before, latest-later, latest-joined, FairStep}
use Rattle.running.proofs.Laws.Replacing.{Replaces, replaces-itself, replaces-then, replaces-more, swap-later}

-- ---- a block: events of one thread, the latest first

abbrev step_of : (t : ℕ) → Event → Step
step_of t e = record { thread = t; event = e }

-- a block on top of a history
abbrev on_top : (t : ℕ) → (block : Word) → (rest : History) → History
on_top t [] rest = rest
on_top t (e ∷ block) rest = step_of t e ∷ on_top t block rest

-- its first event is alone
abbrev Whole : (block : Word) → Type 0
Whole [] = ⊥
Whole (e ∷ []) = e.joined ≡ false
Whole (e ∷ d ∷ block) = Whole (d ∷ block)

whole-more : (e : Event) (block : Word) → Whole block → Whole (e ∷ block)
whole-more e [] b = absurd b
whole-more e (d ∷ block) b = b

whole-serial : (t : ℕ) (block : Word) (rest : History) → Whole block → Serial rest → Serial (on_top t block rest)
whole-serial t [] rest b r = r
whole-serial t (e ∷ []) rest b r = (r, λ j. absurd (true-not-false (sym j ∙ b)))
whole-serial t (e ∷ d ∷ block) rest b r = (whole-serial t (d ∷ block) rest b r, λ j. refl)

whole-latest : (t : ℕ) (block : Word) (rest : History) → Whole block → LatestBy t (on_top t block rest)
whole-latest t [] rest b = absurd b
whole-latest t (e ∷ block) rest b = refl

-- ---- lifting

module _ (w : World) (guards : ℕ → ℕ) (s : State) where
  record Later (e : Event) : Type 0 where
    fairly : T (fair guards e.action)
    moves : T (moves_later guards e.action)

  -- another thread's step goes under a block that moves later
  under : (t : ℕ) (x : Step) (block : Word) (rest : History) → (t ≡ x.thread → ⊥) → FairStep guards x → All Later block
      → Possible w s (x ∷ on_top t block rest) → Replaces w s (on_top t block (x ∷ rest)) (x ∷ on_top t block rest)
  under t x [] rest n f ls p = replaces-itself w s (x ∷ rest) p
  under t x (e ∷ block) rest n f ls p =
      let q : Replaces w s (step_of t e ∷ x ∷ on_top t block rest) (x ∷ step_of t e ∷ on_top t block rest)
      = swap-later w s guards (step_of t e) x (on_top t block rest) n ls.0.fairly f ls.0.moves p in
      replaces-then w s (on_top t (e ∷ block) (x ∷ rest)) (step_of t e ∷ x ∷ on_top t block rest) (x ∷ on_top t (e ∷ block) rest)
      (replaces-more w s (step_of t e) (on_top t block (x ∷ rest)) (x ∷ on_top t block rest) q.possible.1
      (under t x block rest n f ls.1 q.possible.0))
      q

  -- h with the latest block of thread t on top
  record Block (t : ℕ) (h : History) : Type 0 where
    block : Word
    rest : History
    replaces : Replaces w s (on_top t block rest) h
    whole : Whole block
    laters : All Later block
    serial : Serial rest
    -- what other threads' steps come directly after stays
    latest : (u : ℕ) → (u ≡ t → ⊥) → LatestBy u h → LatestBy u rest

  block-other : (t : ℕ) (x : Step) (h : History) → (x.thread ≡ t → ⊥) → FairStep guards x → Possible w s (x ∷ h) → Serial (x ∷ h) → Block t h → Block t (x ∷ h)
  block-other t x h n f p r k =
      let more : Replaces w s (x ∷ on_top t k.block k.rest) (x ∷ h)
      = replaces-more w s x (on_top t k.block k.rest) h p.1 k.replaces in
      record {
        block = k.block;
        rest = x ∷ k.rest;
        replaces =
            replaces-then w s (on_top t k.block (x ∷ k.rest)) (x ∷ on_top t k.block k.rest) (x ∷ h)
            (under t x k.block k.rest (λ e. n (sym e)) f k.laters more.possible) more;
        whole = k.whole;
        laters = k.laters;
        serial = (k.serial, λ j. k.latest x.thread n (r.1 j));
        latest = λ u d l. l;
      }

  block-alone : (t : ℕ) (e : Event) (h : History) → e.joined ≡ false → Later e → Possible w s (step_of t e ∷ h) → Serial h → Block t (step_of t e ∷ h)
  block-alone t e h j l p r =
      record {
        block = e ∷ [];
        rest = h;
        replaces = replaces-itself w s (step_of t e ∷ h) p;
        whole = j;
        laters = (l, tt);
        serial = r;
        latest = λ u n q. absurd (n (sym q));
      }

  block-joined : (t : ℕ) (e : Event) (h : History) → Later e → Possible w s (step_of t e ∷ h) → Block t h → Block t (step_of t e ∷ h)
  block-joined t e h l p k =
      record {
        block = e ∷ k.block;
        rest = k.rest;
        replaces = replaces-more w s (step_of t e) (on_top t k.block k.rest) h p.1 k.replaces;
        whole = whole-more e k.block k.whole;
        laters = (l, k.laters);
        serial = k.serial;
        latest = λ u n q. absurd (n (sym q));
      }

  step_is : (t : ℕ) (x : Step) → x.thread ≡ t → step_of t x.event ≡ x
  step_is t x e = ap (λ (u : ℕ). step_of u x.event) (sym e)

  block-own : (t : ℕ) (x : Step) (h : History) → x.thread ≡ t → FairStep guards x → T (is_before (phase_of guards t (x ∷ h)))
      → Possible w s (x ∷ h) → Serial h → (T (is_before (phase_of guards t h)) → Block t h) → Block t (x ∷ h)
  block-own t x h e f b p r ih =
      subst (λ (y : Step). Block t (y ∷ h)) (step_is t x e) (go x.event.joined refl)
    where
      later : Later x.event
      later = record { fairly = f; moves = latest-later guards t x h e b }

      can : Possible w s (step_of t x.event ∷ h)
      can = subst (λ (y : Step). Possible w s (y ∷ h)) (sym (step_is t x e)) p

      go : (j : Bool) → x.event.joined ≡ j → Block t (step_of t x.event ∷ h)
      go true j = block-joined t x.event h later can (ih (latest-joined guards t x h e j b))
      go false j = block-alone t x.event h j later can r

  lift-block : (t : ℕ) (h : History) → All (FairStep guards) h → T (is_before (phase_of guards t h)) → Possible w s h → Serial h → Block t h
  lift-block t [] fs b p r = absurd (none_before guards t b)
  lift-block t (x ∷ h) fs b p r = go (ℕ_discrete x.thread t) (λ c. lift-block t h fs.1 c p.0 r.0)
    where
      go : Dec (x.thread ≡ t) → (T (is_before (phase_of guards t h)) → Block t h) → Block t (x ∷ h)
      go (yes e) ih = block-own t x h e fs.0 b p r.0 ih
      go (no n) ih = block-other t x h n fs.0 p r (ih (subst (λ (q : Phase). T (is_before q)) (phase-there guards t x h n) b))

  -- a serial history in the place of h, with thread t's step on top
  pub record Lifted (t : ℕ) (h : History) : Type 0 where
    pub other : History
    pub replaces : Replaces w s other h
    pub serial : Serial other
    pub latest : LatestBy t other

  pub lift : (t : ℕ) (h : History) → All (FairStep guards) h → T (is_before (phase_of guards t h)) → Possible w s h → Serial h → Lifted t h
  lift t h fs b p r =
      let k = lift-block t h fs b p r in
      record {
        other = on_top t k.block k.rest;
        replaces = k.replaces;
        serial = whole-serial t k.block k.rest k.whole k.serial;
        latest = whole-latest t k.block k.rest k.whole;
      }
