-- The reason of a refused text, as the code finds it, is what is promised.
-- Assumes nothing.
use Rattle.std.specs.Prelude.{ℕ, suc, ◌/◌, ◌≤◌, ◌<◌, Bool, true, false, ◌≡◌, refl, eqb, Option}
use Rattle.std.proofs.Math.Bool.{cond}
use mathlib.Core.List.{List, [], map}
use Rattle.std.proofs.Math.Path.{sym, ap, ap₂}
use Rattle.std.proofs.Common.{◌∙◌, subst, arith, le-leb, eq-eqb, ne_eqb}
use Rattle.std.proofs.lemmas.Bool.{lt-leb}
use Rattle.std.proofs.Math.ListN.{length, get_or-eq_default}
use Rattle.frames.specs.Frames.{methods_in}
use Rattle.frames.specs.Tables.{cell}
use Rattle.frames.specs.Program.{Node, Method, Program, no_method, plain_node, method_at, node_at}
use Rattle.meaning.specs.Meaning.{root_of}
use Rattle.meaning.specs.Lowest.{is_entry, rounds}
use Rattle.meaning.specs.Constraints.{Entry, named_method}
use Rattle.reasons.specs.Steps as steps
use Rattle.reasons.specs.Steps.{chain_from, body_place, body_reason}
use Rattle.reasons.proofs.Laws.Turns.{PlaceFits}
use Rattle.reasons.proofs.Laws.Reason.{body-fits}
use Rattle.solver.specs.Flat.{program_in}
use Rattle.solver.specs.Laws.Views.{method-past}
use Rattle.explainer.specs.declared.places.Place.{Place}
use Rattle.explainer.specs.declared.walk.Step.{Step}
use Rattle.explainer.specs.Explain.{step_of, steps_of, bytes_of, bytes_over}
use Rattle.explainer.specs.Broken.{chain_about, broken_steps, bytes_broken}
use Rattle.explainer.specs.Code.Lower.{Ready}
use Rattle.explainer.specs.Code.Places.{place_of, PlaceIn, AtRoot}
use Rattle.explainer.specs.declared.asked.Chain.{Chain}
use Rattle.explainer.specs.Code.Asked.{Along, Gives}
use Rattle.explainer.specs.Code.Broken.{GivesAny}
use Rattle.explainer.proofs.Laws.Walk.{chain-here, some-round}

-- ---- a method's root in the lowest tables

module _ (t noted : List ℕ) (ready : Ready t noted) (m H : ℕ) (entry : Entry (program_in t) m H) where
  module _ (round : ℕ) (at : Place) (root : AtRoot t m H round at) (e : round ≡ suc (rounds (program_in t))) where
    pub body-found : place_of at ≡ body_place (program_in t) m H
    unfolding body_place
    body-found = root.place ∙ (λ i. record { method = m; node = root_of (method_at (program_in t) m); set = H; round = e i })

    pub body-in : PlaceIn t at
    body-in =
        record { fits = subst (PlaceFits (program_in t)) (sym body-found) (body-fits (program_in t) ready.read.well_formed m H entry); first = root.first }

  pub along-body : (at : Place) → place_of at ≡ body_place (program_in t) m H → PlaceIn t at → Along t noted (map step_of (body_reason (program_in t) m H)) (record { at = at; entered = false })
  unfolding body_reason
  along-body at place placed =
      record {
        going = record { ready = ready; asking = λ z. absurd (some-round t noted ready at placed z); placed = λ _. placed };
        chain = chain-here t noted ready at placed ∙ ap (λ (x : steps.Place). map step_of (chain_from (program_in t) x)) place;
        entered = refl;
      }

-- ---- what a constraint is about

module _ (t : List ℕ) (m n : ℕ) where
  pub no-method-named : methods_in (cell t) ≤ m → 0 ≡ named_method (program_in t) m n
  unfolding named_method node_at no_method plain_node
  no-method-named h = sym (ap (λ (x : Method). (node_at x n).U) (method-past t m h))

  pub no-node-named : length (method_at (program_in t) m).nodes ≤ n → 0 ≡ named_method (program_in t) m n
  unfolding named_method node_at plain_node
  no-node-named h = sym (ap (λ (x : Node). x.U) (get_or-eq_default (method_at (program_in t) m).nodes plain_node h))

module _ (p : Program) (m kind H : ℕ) where
  pub no-about : is_entry p m H ≡ false → chain_about p m kind H ≡ []
  unfolding chain_about
  no-about e = ap (λ (b : Bool). cond b (cond (eqb kind 1) (map step_of (body_reason p m H)) (steps_of p m H)) []) e

  pub body-about : is_entry p m H ≡ true → kind ≡ 1 → chain_about p m kind H ≡ map step_of (body_reason p m H)
  unfolding chain_about
  body-about e k = ap₂ (λ (a b : Bool). cond a (cond b (map step_of (body_reason p m H)) (steps_of p m H)) []) e (eq-eqb kind 1 k)

  pub entry-about : is_entry p m H ≡ true → (kind ≡ 1 → ⊥) → chain_about p m kind H ≡ steps_of p m H
  unfolding chain_about
  entry-about e k = ap₂ (λ (a b : Bool). cond a (cond b (map step_of (body_reason p m H)) (steps_of p m H)) []) e (ne_eqb kind 1 k)

-- ---- what is given

-- all of the same steps
pub gives-same : (t noted : List ℕ) (chain : Chain) (steps others : List Step) → steps ≡ others → Gives t noted steps chain → Gives t noted others chain
gives-same t noted chain steps others e = subst (λ (l : List Step). Gives t noted l chain) e

pub any-same : (t noted : List ℕ) (chain : Option Chain) (steps others : List Step) → steps ≡ others → GivesAny t noted steps chain → GivesAny t noted others chain
any-same t noted chain steps others e = subst (λ (l : List Step). GivesAny t noted l chain) e

-- ---- the bytes

module _ (text from : List ℕ) where
  pub no_room : length from / 8 < length (broken_steps text) → from ≡ bytes_broken text from
  unfolding bytes_broken
  no_room h =
      sym (ap (λ (b : Bool). cond b (bytes_over (broken_steps text) from) from) (lt-leb (length (broken_steps text)) (length from / 8) h))

  pub all-put : length (broken_steps text) ≤ length from / 8 → bytes_over (broken_steps text) from ≡ bytes_broken text from
  unfolding bytes_broken
  all-put h =
      sym (ap (λ (b : Bool). cond b (bytes_over (broken_steps text) from) from) (le-leb (length (broken_steps text)) (length from / 8) h))

  -- where there is no step nothing is put
  pub none-put : [] ≡ broken_steps text → from ≡ bytes_broken text from
  unfolding bytes_of
  none-put e = ap (λ (s : List Step). bytes_over s from) e ∙ all-put (subst (λ (s : List Step). length s ≤ length from / 8) e (omega arith))
