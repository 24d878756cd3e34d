-- One history in the place of another: it is possible too, each thread does the same in it, and it ends in the same state. It knows no grade.
-- Assumes nothing.
use Rattle.std.specs.Prelude.{ℕ, Bool, true, false, cond, [], ◌∷◌, ◌++◌, ◌≡◌, refl, T, eqb}
use Rattle.std.proofs.Common.{sym, ◌∙◌, eqb-true}
use Rattle.std.proofs.Math.Path.{ap, subst}
use Rattle.running.specs.Machine.{World, State, Can, after, Event, Step, Word, History, final, Possible, word_of}
use Rattle.running.specs.Movers.{moves_later, moves_earlier}
use Rattle.running.proofs.Laws.Exchange.{Exchanged, exchange-later, exchange-earlier}
use Rattle.running.proofs.Laws.Phases.{FairStep}

pub record Replaces (w : World) (s : State) (other h : History) : Type 0 where
  pub possible : Possible w s other
  pub words : (t : ℕ) → word_of t other ≡ word_of t h
  pub state : final w s other ≡ final w s h

-- ---- words

-- a step more, over two histories with one word
word_more : (t : ℕ) (x : Step) (other h : History) → word_of t other ≡ word_of t h → word_of t (x ∷ other) ≡ word_of t (x ∷ h)
unfolding word_of
word_more t x other h e = ap (λ (word : Word). cond (eqb x.thread t) (word ++ (x.event ∷ [])) word) e

word-choices : (p q : Bool) (a b : Event) (word : Word) → (p ≡ true → q ≡ true → ⊥)
    → cond p (cond q (word ++ (b ∷ [])) word ++ (a ∷ [])) (cond q (word ++ (b ∷ [])) word)
    ≡ cond q (cond p (word ++ (a ∷ [])) word ++ (b ∷ [])) (cond p (word ++ (a ∷ [])) word)
word-choices true true a b word n = absurd (n refl refl)
word-choices true false a b word n = refl
word-choices false true a b word n = refl
word-choices false false a b word n = refl

-- the order of two threads' steps is in no thread's word
word-swap : (t : ℕ) (a b : Step) (h : History) → (a.thread ≡ b.thread → ⊥) → word_of t (a ∷ b ∷ h) ≡ word_of t (b ∷ a ∷ h)
unfolding word_of
word-swap t a b h n =
    word-choices (eqb a.thread t) (eqb b.thread t) a.event b.event (word_of t h)
    (λ p q. n (eqb-true a.thread t p ∙ sym (eqb-true b.thread t q)))

-- ---- replacing

module _ (w : World) (s : State) where
  pub replaces-itself : (h : History) → Possible w s h → Replaces w s h h
  replaces-itself h p = record { possible = p; words = λ t. refl; state = refl }

  pub replaces-then : (a b c : History) → Replaces w s a b → Replaces w s b c → Replaces w s a c
  replaces-then a b c r q = record { possible = r.possible; words = λ t. r.words t ∙ q.words t; state = r.state ∙ q.state }

  pub replaces-more : (x : Step) (other h : History) → Can w x.thread x.event.action (final w s h) → Replaces w s other h
      → Replaces w s (x ∷ other) (x ∷ h)
  unfolding final
  replaces-more x other h c r =
      record {
        possible = (r.possible, subst (Can w x.thread x.event.action) (sym r.state) c);
        words = λ t. word_more t x other h (r.words t);
        state = ap (after w x.thread x.event.action) r.state;
      }

  -- two steps that are exchanged
  module _ (guards : ℕ → ℕ) where
    exchanged : (a b : Step) (h : History) → (a.thread ≡ b.thread → ⊥) → Possible w s h
        → Exchanged w guards a.thread b.thread a.event.action b.event.action (final w s h) → Replaces w s (a ∷ b ∷ h) (b ∷ a ∷ h)
    unfolding final
    exchanged a b h n p e = record { possible = ((p, e.first), e.second); words = λ t. word-swap t a b h n; state = e.same }

    pub swap-later : (a b : Step) (h : History) → (a.thread ≡ b.thread → ⊥) → FairStep guards a → FairStep guards b → T (moves_later guards a.event.action)
        → Possible w s (b ∷ a ∷ h) → Replaces w s (a ∷ b ∷ h) (b ∷ a ∷ h)
    unfolding final
    swap-later a b h n fa fb m p =
        exchanged a b h n p.0.0
        (exchange-later w guards a.thread b.thread a.event.action b.event.action (final w s h) n fa fb m p.0.1 p.1)

    pub swap-earlier : (a b : Step) (h : History) → (a.thread ≡ b.thread → ⊥) → FairStep guards a → FairStep guards b → T (moves_earlier guards b.event.action)
        → (final w s h).begun b.thread ≡ true → Possible w s (b ∷ a ∷ h) → Replaces w s (a ∷ b ∷ h) (b ∷ a ∷ h)
    unfolding final
    swap-earlier a b h n fa fb m begun p =
        exchanged a b h n p.0.0
        (exchange-earlier w guards a.thread b.thread a.event.action b.event.action (final w s h) n fa fb m begun p.0.1 p.1)
