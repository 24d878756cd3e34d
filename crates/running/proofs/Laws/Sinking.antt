-- A joined step that moves earlier is put directly after its thread's step before it. It knows no grade.
-- Assumes nothing.
use Rattle.std.specs.Prelude.{ℕ, ◌≡◌}
use Rattle.std.proofs.Math.Bool.{true}
use mathlib.Core.List.{[], ◌∷◌}
use Rattle.std.proofs.Common.{sym, ◌∙◌}
use Rattle.std.proofs.Math.Path.{subst}
use Rattle.std.proofs.Math.Decide.{ℕ_discrete}
use Rattle.std.proofs.Math.Dec.{T}
use Rattle.counting.specs.Counting.{All}
use Rattle.running.specs.Machine.{World, State, Step, History, final, Possible, LatestBy, Serial}
use Rattle.running.specs.Movers.{Phase, moves_earlier}
use Rattle.running.proofs.Laws.Exchange.{begun_kept}
use Rattle.running.proofs.Laws.Phases.{is_past, phase_of, phase-there, none-past, FairStep}
use Rattle.running.proofs.Laws.Replacing.{Replaces, replaces-itself, replaces-then, replaces-more, swap-earlier}

module _ (w : World) (guards : ℕ → ℕ) (s : State) where
  -- a thread with a step in a possible history has begun
  past-begun : (t : ℕ) (h : History) → T (is_past (phase_of guards t h)) → Possible w s h → (final w s h).begun t ≡ true
  unfolding final
  past-begun t [] b p = absurd (none-past guards t b)
  past-begun t (x ∷ h) b p = begun_kept w x.thread x.event.action (final w s h) t (go (ℕ_discrete x.thread t) (λ c. past-begun t h c p.0))
    where
      go : Dec (x.thread ≡ t) → (T (is_past (phase_of guards t h)) → (final w s h).begun t ≡ true) → (final w s h).begun t ≡ true
      go (yes e) ih = subst (λ (u : ℕ). (final w s h).begun u ≡ true) e p.1.begun
      go (no n) ih = ih (subst (λ (q : Phase). T (is_past q)) (phase-there guards t x h n) b)

  -- the step x, put somewhere into h
  pub record Sunk (x : Step) (h : History) : Type 0 where
    pub other : History
    pub replaces : Replaces w s other (x ∷ h)
    pub serial : Serial other
    -- the step is on top only over a step of its own thread
    pub latest : (u : ℕ) → (u ≡ x.thread → ⊥) → LatestBy u h → LatestBy u other

  pub sink : (x : Step) (h : History) → T (moves_earlier guards x.event.action) → FairStep guards x → All (FairStep guards) h
      → T (is_past (phase_of guards x.thread h)) → Possible w s (x ∷ h) → Serial h → Sunk x h
  sink x [] m f fs b p r = absurd (none-past guards x.thread b)
  sink x (y ∷ h) m f fs b p r = go (ℕ_discrete y.thread x.thread) (λ c q. sink x h m f fs.1 c q r.0)
    where
      over : Replaces w s (y ∷ x ∷ h) (x ∷ y ∷ h) → (k : Sunk x h) → Replaces w s (y ∷ k.other) (x ∷ y ∷ h)
      over q k =
          replaces-then w s (y ∷ k.other) (y ∷ x ∷ h) (x ∷ y ∷ h) (replaces-more w s y k.other (x ∷ h) q.possible.1 k.replaces) q

      go : Dec (y.thread ≡ x.thread) → (T (is_past (phase_of guards x.thread h)) → Possible w s (x ∷ h) → Sunk x h) → Sunk x (y ∷ h)
      go (yes e) ih =
          record {
            other = x ∷ y ∷ h;
            replaces = replaces-itself w s (x ∷ y ∷ h) p;
            serial = (r, λ j. e);
            latest = λ u n l. absurd (n (sym l ∙ e));
          }
      go (no n) ih =
          let c : T (is_past (phase_of guards x.thread h))
          = subst (λ (q : Phase). T (is_past q)) (phase-there guards x.thread y h n) b in
          let q : Replaces w s (y ∷ x ∷ h) (x ∷ y ∷ h)
          = swap-earlier w s guards y x h n fs.0 f m (past-begun x.thread h c p.0.0) p in
          let k = ih c q.possible.0 in
          record {
            other = y ∷ k.other;
            replaces = over q k;
            serial = (k.serial, λ j. k.latest y.thread n (r.1 j));
            latest = λ u d l. l;
          }
