-- A possible history whose words fit is serialised: the joined events of each thread can be put together. It knows no grade.
-- Assumes nothing.
use Rattle.std.specs.Prelude.{ℕ, Bool, true, false, [], ◌∷◌, ◌⊎◌, ◌≡◌, refl, T}
use Rattle.std.proofs.Common.{inl, inr, sym, ap, ◌∙◌, subst}
use Rattle.counting.specs.Counting.{All}
use Rattle.running.specs.Machine.{World, State, Can, Step, History, final, Possible, word_of, LatestBy, Serial}
use Rattle.running.specs.Movers.{Phase, apart, moves_earlier, phase, Fits}
use Rattle.running.specs.Runs.{Serialised}
use Rattle.running.proofs.Laws.Exchange.{true-not-false}
use Rattle.running.proofs.Laws.Phases.{is_before, is_past, phase_of, latest-cases, FairStep, fits-latest, fits-earlier, fits-fair}
use Rattle.running.proofs.Laws.Replacing.{Replaces, replaces-itself, replaces-then, replaces-more}
use Rattle.running.proofs.Laws.Lifting.{Lifted, lift}
use Rattle.running.proofs.Laws.Sinking.{Sunk, sink}

module _ (w : World) (s : State) where
  serialised : (h other : History) → Replaces w s other h → Serial other → Serialised w s h
  serialised h other q r = record { other = other; possible = q.possible; words = q.words; state = q.state; serial = r }

  replaced : (h : History) (k : Serialised w s h) → Replaces w s k.other h
  replaced h k = record { possible = k.possible; words = k.words; state = k.state }

  -- a step more, on top of a history in which it comes directly after what it is joined to
  on-top : (x : Step) (h other : History) → Can w x.thread x.event.action (final w s h) → Replaces w s other h → Serial other
      → (x.event.joined ≡ true → LatestBy x.thread other) → Serialised w s (x ∷ h)
  on-top x h other c q r l = serialised (x ∷ h) (x ∷ other) (replaces-more w s x other h c q) (r, l)

  module _ (guards : ℕ → ℕ) where
    -- a step more, over a history that is serialised
    one_more : (x : Step) (h : History) → Possible w s (x ∷ h) → ((t : ℕ) → Fits guards (word_of t (x ∷ h))) → Serialised w s h → Serialised w s (x ∷ h)
    one_more x h p f k = go x.event.joined refl
      where
        same : (t : ℕ) → phase_of guards t h ≡ phase_of guards t k.other
        same t = ap (phase guards apart) (sym (k.words t))

        fairs : All (FairStep guards) k.other
        fairs = fits-fair guards k.other (λ t. subst (Fits guards) (sym (k.words t)) (fits-earlier guards x h t (f t)))

        top : Replaces w s (x ∷ k.other) (x ∷ h)
        top = replaces-more w s x k.other h p.1 (replaced h k)

        -- before the one: what the step is joined to is lifted to it
        lifted : T (is_before (phase_of guards x.thread h)) → Serialised w s (x ∷ h)
        lifted b =
            let up : Lifted w guards s x.thread k.other
            = lift w guards s x.thread k.other fairs (subst (λ (q : Phase). T (is_before q)) (same x.thread) b) k.possible k.serial in
            on-top x h up.other p.1 (replaces-then w s up.other k.other h up.replaces (replaced h k)) up.serial (λ j. up.latest)

        -- past it: the step sinks to what it is joined to
        sunk : T (is_past (phase_of guards x.thread h)) → T (moves_earlier guards x.event.action) → Serialised w s (x ∷ h)
        sunk b m =
            let down : Sunk w guards s x k.other
            = sink w guards s x k.other m (fits-latest guards x h (f x.thread)) fairs
            (subst (λ (q : Phase). T (is_past q)) (same x.thread) b) top.possible k.serial in
            serialised (x ∷ h) down.other (replaces-then w s down.other (x ∷ k.other) (x ∷ h) down.replaces top) down.serial

        joined : T (is_before (phase_of guards x.thread h)) ⊎ (T (is_past (phase_of guards x.thread h)) × T (moves_earlier guards x.event.action))
            → Serialised w s (x ∷ h)
        joined (inl b) = lifted b
        joined (inr c) = sunk c.0 c.1

        go : (j : Bool) → x.event.joined ≡ j → Serialised w s (x ∷ h)
        go true j = joined (latest-cases guards x h j (f x.thread))
        go false j = on-top x h k.other p.1 (replaced h k) k.serial (λ e. absurd (true-not-false (sym e ∙ j)))

pub reduce : (w : World) (guards : ℕ → ℕ) (s : State) (h : History) → Possible w s h → ((t : ℕ) → Fits guards (word_of t h)) → Serialised w s h
reduce w guards s [] p f = serialised w s [] [] (replaces-itself w s [] tt) tt
reduce w guards s (x ∷ h) p f = one_more w s guards x h p f (reduce w guards s h p.0 (λ t. fits-earlier guards x h t (f t)))
