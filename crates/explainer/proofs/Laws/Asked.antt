-- What is asked, as the code finds it, is what is promised.
-- Assumes nothing.
use Rattle.std.specs.Prelude.{ℕ, suc, ◌≤◌, ◌<◌, Bool, true, false, not, cond, ◌&&◌, ◌≡◌, T, leb, length, Option, Some, None, Ok, Err}
use mathlib.Core.List.{List, [], ◌∷◌, map}
use Rattle.std.proofs.Math.Path.{refl, sym, ap, subst}
use Rattle.std.proofs.Common.{◌∙◌, arith, lt-ltb, le-ltb, le-leb}
use Rattle.std.proofs.lemmas.Bool.{lt-leb}
use Rattle.std.proofs.Math.Dec.{ltb}
use Rattle.frames.specs.Program.{Program, method_at}
use Rattle.meaning.specs.Meaning.{Assignment, root_of}
use Rattle.meaning.specs.Lowest.{method_count, entry_count, is_entry, is_declared, rounds, lowest}
use Rattle.meaning.specs.Constraints.{Entry}
use Rattle.meaning.proofs.Laws.Rounds.{lowest-after}
use Rattle.meaning.proofs.Laws.Lowest.{entry-method, entry_set}
use Rattle.reasons.specs.Steps as steps
use Rattle.reasons.specs.Steps.{tables_before, first_place, root_place, chain_from, declared_step, reason}
use Rattle.solver.specs.Flat.{program_in}
use Rattle.explainer.specs.declared.asked.Refusal.TheVariants.{NoEntry, TooShort}
use Rattle.explainer.specs.declared.places.Place.{Place}
use Rattle.explainer.specs.declared.walk.Walk.{Walk}
use Rattle.explainer.specs.Explain.{Reason, step_of, steps_of, reason_by}
use Rattle.explainer.specs.Code.Lower.{Ready, lower_length}
use Rattle.explainer.specs.Code.Places.{place_of, PlaceIn, AtRoot, HasBeen}
use Rattle.explainer.specs.Code.Walk.{Entered}
use Rattle.explainer.specs.Code.Asked.{StartsAt}
use Rattle.explainer.proofs.Laws.Walk.{asked-chain, chain-here, some-round}

-- ---- what is asked for exists, or not

module _ (p : Program) (m H : ℕ) where
  pub no-method : method_count p ≤ m → false ≡ is_entry p m H
  unfolding is_entry
  no-method h = sym (ap (λ (b : Bool). b && ltb H (entry_count p m)) (le-ltb m (method_count p) h))

  pub set_tested : (sets : ℕ) → m < method_count p → sets ≡ entry_count p m → ltb H sets ≡ is_entry p m H
  unfolding is_entry
  set_tested sets h e = ap (λ (n : ℕ). ltb H n) e ∙ sym (ap (λ (b : Bool). b && ltb H (entry_count p m)) (lt-ltb m (method_count p) h))

  pub entry-there : is_entry p m H ≡ true → Entry p m H
  entry-there e = record { method = entry-method p m H (subst T (sym e) tt); set = entry_set p m H (subst T (sym e) tt) }

module _ (p : Program) (m H room : ℕ) where
  unfoldable answered : Bool → Reason
  answered there = cond there (cond (leb (length (steps_of p m H)) room) (Ok (length (steps_of p m H))) (Err (TooShort (length (steps_of p m H))))) (Err NoEntry)

  pub no-entry : is_entry p m H ≡ false → Err NoEntry ≡ reason_by p m H room
  unfolding reason_by answered
  no-entry e = sym (ap answered e)

  module _ (is-there : is_entry p m H ≡ true) (count : ℕ) (is : count ≡ length (steps_of p m H)) where
    there : reason_by p m H room ≡ cond (leb (length (steps_of p m H)) room) (Ok (length (steps_of p m H))) (Err (TooShort (length (steps_of p m H))))
    unfolding reason_by answered
    there = ap answered is-there

    pub too_short : room < count → Err (TooShort count) ≡ reason_by p m H room
    too_short h =
        ap (λ (n : ℕ). Err (TooShort n)) is
        ∙ sym (there ∙ ap (λ (b : Bool). cond b (Ok (length (steps_of p m H))) (Err (TooShort (length (steps_of p m H))))) (lt-leb (length (steps_of p m H)) room (subst (λ (n : ℕ). room < n) is h)))

    pub all-given : count ≤ room → Ok count ≡ reason_by p m H room
    all-given h =
        ap Ok is
        ∙ sym (there ∙ ap (λ (b : Bool). cond b (Ok (length (steps_of p m H))) (Err (TooShort (length (steps_of p m H))))) (le-leb (length (steps_of p m H)) room (subst (λ (n : ℕ). n ≤ room) is h)))

-- ---- where the reason starts

module _ (t noted : List ℕ) (ready : Ready t noted) (m H : ℕ) (entry : Entry (program_in t) m H) where
  pub starts-declared : (at : Place) → is_declared (program_in t) m ≡ true → AtRoot t m H 0 at → StartsAt t noted m H (record { at = at; entered = false })
  unfolding steps_of reason
  starts-declared at d root =
      record {
        going =
            record {
              ready = ready;
              asking = λ _.
                  record {
                    read = ready.read;
                    entry = subst (λ (x : steps.Place). Entry (program_in t) x.method x.set) (sym root.place) entry;
                    root = subst (λ (x : steps.Place). x.node ≡ root_of (method_at (program_in t) x.method)) (sym root.place) refl;
                  };
              placed = λ n. absurd (n (ap (λ (x : steps.Place). x.round) root.place));
            };
        chain =
            asked-chain t at (ap (λ (x : steps.Place). x.round) root.place)
            ∙ ap (λ (x : steps.Place). map step_of (declared_step (program_in t) x.method x.set ∷ [])) root.place
            ∙ ap (λ (b : Bool). map step_of (cond b (declared_step (program_in t) m H ∷ []) (chain_from (program_in t) (first_place (program_in t) m H)))) (sym d);
        entered = refl;
      }

  -- the grade of the entry is what it was after the last round
  pub final-been : (grade : ℕ) → T (not (is_declared (program_in t) m)) → grade ≡ tables_before (program_in t) (suc (rounds (program_in t))) m H → HasBeen (program_in t) m H grade
  unfolding tables_before
  final-been grade u e =
      record { entry = entry; undeclared = u; round = rounds (program_in t); within = omega arith; has = sym e; stays = λ _. refl }

  pub starts-undeclared : (at : Place) (grade : ℕ) → is_declared (program_in t) m ≡ false → grade ≡ tables_before (program_in t) (suc (rounds (program_in t))) m H
      → place_of at ≡ root_place (program_in t) m H grade → PlaceIn t at → StartsAt t noted m H (record { at = at; entered = false })
  unfolding steps_of reason tables_before first_place
  starts-undeclared at grade d e place placed =
      let final : grade ≡ lowest (program_in t) m H = e ∙ sym (ap (λ (a : Assignment). a m H) (lowest-after (program_in t))) in
      record {
        going = record { ready = ready; asking = λ z. absurd (some-round t noted ready at placed z); placed = λ _. placed };
        chain =
            chain-here t noted ready at placed
            ∙ ap (λ (x : steps.Place). map step_of (chain_from (program_in t) x)) (place ∙ ap (root_place (program_in t) m H) final)
            ∙ ap (λ (b : Bool). map step_of (cond b (declared_step (program_in t) m H ∷ []) (chain_from (program_in t) (root_place (program_in t) m H (lowest (program_in t) m H))))) (sym d);
        entered = refl;
      }

-- a walk that has not been entered asks nothing of the grades of nodes
pub not_entered : (t lower : List ℕ) (walk : Walk) → walk.entered ≡ false → length lower ≡ lower_length → Entered t walk lower
not_entered t lower walk not e = record { size = e; known = λ b. absurd (subst T not b) }

-- ---- what the solver finds

-- what is no value is none
pub none-left : {A : Type 0} (o : Option A) → ((x : A) → o ≡ Some x → ⊥) → o ≡ None
none-left None n = refl
none-left (Some x) n = absurd (n x refl)
