-- What is known of a reason, proved of every program that a text gives: `Reason` says it.
-- Assumes nothing.
use Rattle.std.specs.Prelude.{ℕ, ◌-◌, ◌+◌, ◌*◌, ◌≤◌, Bool, not, ◌≡◌}
use Rattle.std.proofs.Math.Bool.{true, false, cond}
use mathlib.Core.List.{List, [], ◌∷◌}
use Rattle.std.proofs.Math.Path.{refl, sym, subst}
use Rattle.std.proofs.Common.{ap, ◌∙◌, le_refl, le_trans, arith}
use Rattle.std.proofs.Math.Dec.{T}
use Rattle.std.proofs.Math.ListN.{length}
use Rattle.counting.specs.Counting.{All}
use Rattle.frames.specs.Layout.{layout}
use Rattle.frames.specs.Program.{Program}
use Rattle.frames.specs.WellFormed.{WellFormed}
use Rattle.meaning.specs.Meaning.{Assignment, root_table}
use Rattle.meaning.specs.Lowest.{is_declared, rounds, lowest}
use Rattle.meaning.specs.Constraints.{Entry}
use Rattle.meaning.proofs.Laws.Rounds.{lowest-after}
use Rattle.reasons.specs.Steps.{Step, Place, tables_before, grade_at, root_place, first_place, step_at, Chain, last, on, open_nodes, chain_from, declared_step, reason, body_place, body_reason}
use Rattle.reasons.specs.Reason.{First, ChainIs, FirstStep, ReasonIs, DeclaredIs, BodyStep, BodyIs, Reasons}
use Rattle.reasons.proofs.Laws.Rises.{declared-stays, first-at-least-one, first_round_lem, first-final, first-grade}
use Rattle.reasons.proofs.Laws.Turns.{PlaceFits}
use Rattle.reasons.proofs.Laws.Bound.{most-from-root, few-open}
use Rattle.reasons.proofs.Laws.Ends.{some-nodes, root_below, root-fits, chain-permitted, chain_length, chain-within, chain-undeclared, chain-is}

first_of : (P : Step → Type 0) (p : Program) {at : Place} {steps : List Step} → Chain p at steps → P (step_at p at) → First P steps
first_of P p (last at e) h = h
first_of P p (on at to steps e c) h = h

-- ---- an undeclared method

pub undeclared-reason : (p : Program) (m H : ℕ) → T (not (is_declared p m)) → reason p m H ≡ chain_from p (first_place p m H)
unfolding reason
undeclared-reason p m H u = go (is_declared p m) u
  where
    go : (b : Bool) → T (not b) → cond b (declared_step p m H ∷ []) (chain_from p (first_place p m H)) ≡ chain_from p (first_place p m H)
    go true t = absurd t
    go false t = refl

pub first_fits : (p : Program) → WellFormed p → (m H : ℕ) → Entry p m H → PlaceFits p (first_place p m H)
unfolding first_place
first_fits p w m H e = root-fits p w m H (lowest p m H) e

first_step : (p : Program) (m H : ℕ) → Entry p m H → T (not (is_declared p m)) → FirstStep p m H (step_at p (first_place p m H))
unfolding step_at first_place root_place
first_step p m H e u =
    record {
      method = refl;
      node = refl;
      set = refl;
      grade = first-grade p m H e u;
      from = first-at-least-one p m H (lowest p m H);
      final = (first-final p m H).has;
      earliest = λ n h s. (first_round_lem p n m H (lowest p m H) h s).no_later;
    }

reason-length : (p : Program) → WellFormed p → (m H : ℕ) → Entry p m H → T (not (is_declared p m)) → length (chain_from p (first_place p m H)) ≤ 2 * open_nodes p
reason-length p w m H e u =
    le_trans (chain_length p w (chain-permitted p w (first_place p m H) (first_fits p w m H e)) (first_fits p w m H e))
    (unfold first_place in most-from-root p m H (lowest p m H) e u (some-nodes p w m e.method) (unfold first_place in first-grade p m H e u))

pub reason-is : (p : Program) → WellFormed p → (m H : ℕ) → Entry p m H → T (not (is_declared p m)) → ReasonIs p m H
reason-is p w m H e u =
    let same = undeclared-reason p m H u in
    let steps = reason-length p w m H e u in
    record {
      chain = subst (ChainIs p (first_place p m H)) (sym same) (chain-is p w (first_place p m H) (first_fits p w m H e));
      first = subst (First (FirstStep p m H)) (sym same)
          (first_of (FirstStep p m H) p (chain-permitted p w (first_place p m H) (first_fits p w m H e)) (first_step p m H e u));
      undeclared = subst (All (λ s. T (not (is_declared p s.method)))) (sym same)
          (chain-undeclared p w (chain-permitted p w (first_place p m H) (first_fits p w m H e)) (first_fits p w m H e) (unfold first_place root_place in u));
      within = subst (λ (l : List Step). length l ≤ 2 * open_nodes p) (sym same) steps;
      most = subst (λ (l : List Step). length l ≤ 2 * (layout.grades * (layout.most_nodes - 1) + 1)) (sym same) (omega (arith, few-open p w));
    }

-- ---- a declared method

pub declared-is : (p : Program) (m H : ℕ) → Entry p m H → T (is_declared p m) → DeclaredIs p m H
declared-is p m H e d =
    record {
      one = unfold reason in go (is_declared p m) d;
      grade = sym (ap (λ (a : Assignment). a m H) (lowest-after p) ∙ declared-stays p (rounds p) m H e d);
    }
  where
    go : (b : Bool) → T b → cond b (declared_step p m H ∷ []) (chain_from p (first_place p m H)) ≡ declared_step p m H ∷ []
    go true t = refl
    go false t = absurd t

pub body-fits : (p : Program) → WellFormed p → (m H : ℕ) → Entry p m H → PlaceFits p (body_place p m H)
unfolding body_place
body-fits p w m H e =
    record {
      method = e.method;
      node = root_below p w m e.method;
      set = e.set;
      round = omega arith;
      no_later = le_refl _;
    }

pub body-grade : (p : Program) (m H : ℕ) → grade_at p (body_place p m H) ≡ root_table p (lowest p) m H
unfolding grade_at body_place tables_before root_table
body-grade p m H = ap (λ (a : Assignment). root_table p a m H) (sym (lowest-after p))

pub body_is : (p : Program) → WellFormed p → (m H : ℕ) → Entry p m H → BodyIs p m H
unfolding body_reason
body_is p w m H e =
    let permitted = chain-permitted p w (body_place p m H) (body-fits p w m H e) in
    record {
      chain = chain-is p w (body_place p m H) (body-fits p w m H e);
      first = first_of (BodyStep p m H) p permitted body-step;
      within = chain-within p w (body_place p m H) (body-fits p w m H e);
    }
  where
    body-step : BodyStep p m H (step_at p (body_place p m H))
    body-step = unfold step_at body_place in record { method = refl; node = refl; set = refl; grade = unfold body_place in body-grade p m H }

pub reasons : (p : Program) → WellFormed p → Reasons p
reasons p w = record { undeclared = reason-is p w; declared = declared-is p; bodies = body_is p w }
