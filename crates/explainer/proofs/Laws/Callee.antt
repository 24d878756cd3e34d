-- Which of a callee's held sets a call can meet, name by name.
-- Assumes nothing.
use Rattle.std.specs.Prelude.{ℕ, zero, suc, ◌+◌, ◌*◌, ◌/◌, ◌%◌, ◌^◌, ◌≤◌, ◌<◌, Bool, true, false, not, cond, ◌&&◌, ◌||◌, List, [], ◌∷◌, map, ◌⊎◌, ◌≡◌, refl, Option, Some, None, MatchOption, unwrap_or, IsTrue, ◌↔◌, length, get_or, take}
use Rattle.std.proofs.Math.Path.{sym}
use Rattle.std.proofs.Common.{inl, inr, ap, ap₂, ◌∙◌, subst, arith, eq-eqb, ne_eqb, pow-suc}
use Rattle.std.proofs.Math.Decide.{dec_lt, ℕ_discrete}
use Rattle.std.proofs.Math.Dec.{T, eqb, eqb→eq, not_T}
use Rattle.counting.specs.Counting.{member, together}
use Rattle.counting.specs.Laws.Counting.{first-unique}
use Rattle.counting.specs.Laws.Tests.{and-false, both_left, both_right, both_of}
use Rattle.grades.specs.HeldSets.{held, no_name, packed}
use Rattle.grades.proofs.Laws.HeldSets.{held_first, held_next}
use Rattle.frames.specs.Program.{Node, Program, method_at}
use Rattle.meaning.specs.Meaning.{Assignment, allowed, choices, matching, callee_entry}
use Rattle.meaning.specs.Lowest.{entry_count}
use Rattle.meaning.proofs.Laws.Calls.{entries-few}
use Rattle.reasons.specs.Steps.{callee_set}
use Rattle.reasons.proofs.Laws.Calls.{Attained, match-attained, match-below, largest-least}
use Rattle.explainer.specs.declared.callee.Entry.{Entry}
use Rattle.explainer.proofs.Laws.Picks.{passed}
use Rattle.explainer.specs.Code.Callee.{agrees, Meets, BestAt, Best}

-- ---- one name more

-- a set is its first bit and the rest
split-eqb : (b : Bool) (S x : ℕ) → eqb S (cond b 1 0 + x * 2) ≡ (eqb (S % 2) (cond b 1 0) && eqb (S / 2) x)
split-eqb b S x = go b (ℕ_discrete S (cond b 1 0 + x * 2)) (ℕ_discrete (S % 2) (cond b 1 0)) (ℕ_discrete (S / 2) x)
  where
    go : (b : Bool) → Dec (S ≡ cond b 1 0 + x * 2) → Dec (S % 2 ≡ cond b 1 0) → Dec (S / 2 ≡ x) → eqb S (cond b 1 0 + x * 2) ≡ (eqb (S % 2) (cond b 1 0) && eqb (S / 2) x)
    go b (yes e) (yes f) (yes g) = rw (eq-eqb S (cond b 1 0 + x * 2) e) (rw (eq-eqb (S % 2) (cond b 1 0) f) (rw (eq-eqb (S / 2) x g) refl))
    go true (yes e) (yes f) (no g) = absurd (g (omega arith))
    go false (yes e) (yes f) (no g) = absurd (g (omega arith))
    go true (yes e) (no f) _ = absurd (f (omega arith))
    go false (yes e) (no f) _ = absurd (f (omega arith))
    go true (no e) (yes f) (yes g) = absurd (e (omega arith))
    go false (no e) (yes f) (yes g) = absurd (e (omega arith))
    go b (no e) (yes f) (no g) = rw (ne_eqb S (cond b 1 0 + x * 2) e) (rw (eq-eqb (S % 2) (cond b 1 0) f) (rw (ne_eqb (S / 2) x g) refl))
    go b (no e) (no f) _ = rw (ne_eqb S (cond b 1 0 + x * 2) e) (rw (ne_eqb (S % 2) (cond b 1 0) f) refl)

apart : (p q r : Bool) → ((p && q) || (p && r)) ≡ (p && (q || r))
apart true q r = refl
apart false q r = refl

one_more : (b : Bool) (S : ℕ) (chosen : List (List Bool))
    → member S (map packed (together (λ c. map (λ a. a ∷ c) (b ∷ [])) chosen)) ≡ (eqb (S % 2) (cond b 1 0) && member (S / 2) (map packed chosen))
unfolding member packed
one_more b S [] = sym (and-false (eqb (S % 2) (cond b 1 0)) false refl)
one_more b S (c ∷ chosen) =
    ap₂ ◌||◌ (split-eqb b S (packed c)) (one_more b S chosen) ∙ apart (eqb (S % 2) (cond b 1 0)) (eqb (S / 2) (packed c)) (member (S / 2) (map packed chosen))

-- of the two first bits a set has one
either-bit : (S : ℕ) (q r : Bool) → ((eqb (S % 2) 0 && q) || ((eqb (S % 2) 1 && q) || r)) ≡ (q || r)
either-bit S q r = go (ℕ_discrete (S % 2) 0) q r
  where
    go : Dec (S % 2 ≡ 0) → (q r : Bool) → ((eqb (S % 2) 0 && q) || ((eqb (S % 2) 1 && q) || r)) ≡ (q || r)
    go (yes e) true r = rw e refl
    go (yes e) false r = rw e refl
    go (no e) q r =
        let one : S % 2 ≡ 1 = omega arith in rw one refl

two-more : (S : ℕ) (chosen : List (List Bool))
    → member S (map packed (together (λ c. map (λ a. a ∷ c) (false ∷ true ∷ [])) chosen)) ≡ member (S / 2) (map packed chosen)
unfolding member packed
two-more S [] = refl
two-more S (c ∷ chosen) =
    ap₂ ◌||◌ (split-eqb false S (packed c)) (ap₂ ◌||◌ (split-eqb true S (packed c)) (two-more S chosen))
    ∙ either-bit S (eqb (S / 2) (packed c)) (member (S / 2) (map packed chosen))

-- ---- the names of a call

bit-agrees : (b : Bool) (S : ℕ) → eqb (S % 2) (cond b 1 0) ≡ cond b (held S 0) (not (held S 0))
bit-agrees true S = sym (held_first S)
bit-agrees false S = go (ℕ_discrete (S % 2) 0) ∙ ap not (sym (held_first S))
  where
    go : Dec (S % 2 ≡ 0) → eqb (S % 2) 0 ≡ not (eqb (S % 2) 1)
    go (yes e) = rw e refl
    go (no e) = let one : S % 2 ≡ 1 = omega arith in rw one refl

matching-more : (t : ℕ) (names : List ℕ) (H S : ℕ) → member S (matching (t ∷ names) H) ≡ (agrees H S 0 t && member (S / 2) (matching names H))
unfolding matching choices allowed agrees
matching-more t names H S = go (eqb t no_name)
  where
    go : (b : Bool)
        → member S (map packed (together (λ c. map (λ a. a ∷ c) (cond b (false ∷ true ∷ []) (held H t ∷ []))) (choices (map (allowed H) names))))
        ≡ (cond b true (cond (held H t) (held S 0) (not (held S 0))) && member (S / 2) (map packed (choices (map (allowed H) names))))
    go true = two-more S (choices (map (allowed H) names))
    go false =
        one_more (held H t) S (choices (map (allowed H) names))
        ∙ ap (λ (b : Bool). (b && member (S / 2) (map packed (choices (map (allowed H) names))))) (bit-agrees (held H t) S)

agrees-next : (H S i t : ℕ) → agrees H S (suc i) t ≡ agrees H (S / 2) i t
unfolding agrees
agrees-next H S i t = ap (λ (b : Bool). cond (eqb t no_name) true (cond (held H t) b (not b))) (held_next S i)

half-less : (k S : ℕ) → S < 2 ^ suc k → S / 2 < 2 ^ k
half-less k S h = omega (arith, pow-suc 2 k)

-- a set matches exactly if it agrees with each name
pub matching-of : (k : ℕ) (names : List ℕ) (H S : ℕ) → S < 2 ^ k → k ≤ length names → ((i : ℕ) → i < k → T (agrees H S i (get_or names i 0)))
    → T (member S (matching (take k names) H))
unfolding matching choices packed member
matching-of zero names H S h l all = let none : S ≡ 0 = omega arith in rw none tt
matching-of (suc k) [] H S h l all = absurd (omega arith)
matching-of (suc k) (t ∷ names) H S h l all =
    subst T (sym (matching-more t (take k names) H S))
    (both_of (agrees H S 0 t) (member (S / 2) (matching (take k names) H)) (all 0 (omega arith))
    (matching-of k names H (S / 2) (half-less k S h) (omega arith) (λ i g. subst T (agrees-next H S i (get_or names i 0)) (all (suc i) (omega arith)))))

pub matching-at : (k : ℕ) (names : List ℕ) (H S : ℕ) → k ≤ length names → T (member S (matching (take k names) H)) → (i : ℕ) → i < k → T (agrees H S i (get_or names i 0))
matching-at zero names H S l m i g = absurd (omega arith)
matching-at (suc k) [] H S l m i g = absurd (omega arith)
matching-at (suc k) (t ∷ names) H S l m zero g =
    both_left (agrees H S 0 t) (member (S / 2) (matching (take k names) H)) (subst T (matching-more t (take k names) H S) m)
matching-at (suc k) (t ∷ names) H S l m (suc i) g =
    subst T (sym (agrees-next H S i (get_or names i 0)))
    (matching-at k names H (S / 2) (omega arith)
    (both_right (agrees H S 0 t) (member (S / 2) (matching (take k names) H)) (subst T (matching-more t (take k names) H S) m)) i (omega arith))

pub matching_iff : (k : ℕ) (names : List ℕ) (H S : ℕ) → S < 2 ^ k → k ≤ length names → (r : Bool)
    → (IsTrue r ↔ ((i : ℕ) → i < k → IsTrue (agrees H S i (get_or names i 0)))) → r ≡ member S (matching (take k names) H)
matching_iff k names H S h l true each =
    sym (passed (member S (matching (take k names) H)) (matching-of k names H S h l (λ i g. subst T (sym (each.0 refl i g)) tt)))
matching_iff k names H S h l false each = go (member S (matching (take k names) H)) refl
  where
    go : (b : Bool) → member S (matching (take k names) H) ≡ b → false ≡ b
    go true e = each.1 (λ i g. passed (agrees H S i (get_or names i 0)) (matching-at k names H S l (subst T (sym e) tt) i g))
    go false e = refl

-- ---- the lowest among the largest

module _ (table : ℕ → ℕ) (names : List ℕ) (k H : ℕ) where
  pub best-start : Best table names k H 0 None
  best-start S h m = absurd (omega arith)

  -- the next set does not match
  pub best-passed : (b : ℕ) (r : Option Entry) → Best table names k H b r → (Meets names k H b → ⊥) → Best table names k H (b + 1) r
  best-passed b None none not = λ S h m. last S h m (dec_lt S b)
    where
      last : (S : ℕ) → S < b + 1 → Meets names k H S → Dec (S < b) → ⊥
      last S h m (yes l) = none S l m
      last S h m (no l) = let same : S ≡ b = omega arith in not (subst (Meets names k H) same m)
  best-passed b (Some e) best not =
      record { within = omega (arith, best.within); found = best.found; is = best.is; largest = λ S h m. last S h m (dec_lt S b); lowest = best.lowest }
    where
      last : (S : ℕ) → S < b + 1 → Meets names k H S → Dec (S < b) → table S ≤ e.grade
      last S h m (yes l) = best.largest S l m
      last S h m (no l) = let same : S ≡ b = omega arith in absurd (not (subst (Meets names k H) same m))

  -- it matches, and is no larger
  pub best-kept : (b grade set : ℕ) → BestAt table names k H b grade set → table b ≤ grade → BestAt table names k H (b + 1) grade set
  best-kept b grade set best less =
      record { within = omega (arith, best.within); found = best.found; is = best.is; largest = λ S h m. last S h m (dec_lt S b); lowest = best.lowest }
    where
      last : (S : ℕ) → S < b + 1 → Meets names k H S → Dec (S < b) → table S ≤ grade
      last S h m (yes l) = best.largest S l m
      last S h m (no l) = let same : S ≡ b = omega arith in omega (arith, ap table same)

  -- it matches, and is the first or larger
  pub best-taken : (b : ℕ) → Meets names k H b → ((S : ℕ) → S < b → Meets names k H S → table S < table b) → BestAt table names k H (b + 1) (table b) b
  best-taken b meets more =
      record { within = omega arith; found = meets; is = refl; largest = λ S h m. last S h (λ g. more S g m) (dec_lt S b); lowest = more }
    where
      last : (S : ℕ) → S < b + 1 → (S < b → table S < table b) → Dec (S < b) → table S ≤ table b
      last S h less (yes l) = omega (arith, less l)
      last S h less (no l) = let same : S ≡ b = omega arith in omega (arith, ap table same)

  -- one set more, which the call can meet
  pub best-more : (b v : ℕ) (best : Option Entry) (r : Entry) → v ≡ table b → Best table names k H b best → Meets names k H b
      → MatchOption best (r ≡ record { grade = v; set = b }) (λ e. ((v ≤ e.grade) × (r ≡ e)) ⊎ ((e.grade < v) × (r ≡ record { grade = v; set = b })))
      → BestAt table names k H (b + 1) r.grade r.set
  best-more b v best r is so_far meets = go best so_far
    where
      first : r ≡ record { grade = v; set = b } → ((S : ℕ) → S < b → Meets names k H S → table S < table b) → BestAt table names k H (b + 1) r.grade r.set
      first e more =
          subst (λ (x : Entry). BestAt table names k H (b + 1) x.grade x.set) (sym e)
          (subst (λ (g : ℕ). BestAt table names k H (b + 1) g b) (sym is) (best-taken b meets more))

      go : (best : Option Entry) → Best table names k H b best
          → MatchOption best (r ≡ record { grade = v; set = b }) (λ e. ((v ≤ e.grade) × (r ≡ e)) ⊎ ((e.grade < v) × (r ≡ record { grade = v; set = b })))
          → BestAt table names k H (b + 1) r.grade r.set
      go None none e = first e (λ S h m. absurd (none S h m))
      go (Some e) best (inl kept) =
          subst (λ (x : Entry). BestAt table names k H (b + 1) x.grade x.set) (sym kept.1) (best-kept b e.grade e.set best (omega (arith, kept.0)))
      go (Some e) best (inr taken) = first taken.1 (λ S h m. omega (arith, best.largest S h m, taken.0))

-- a call can meet one of the callee's sets
module _ (p : Program) (a : Assignment) (node : Node) (H : ℕ) where
  it : Attained (a node.U) (matching (take (method_at p node.U).k node.names) H)
  it = match-attained (a node.U) (take (method_at p node.U).k node.names) H

  it-below : it.set < entry_count p node.U
  unfolding entry_count
  it-below = entries-few (method_at p node.U).k node.names it.set (match-below (take (method_at p node.U).k node.names) H it.set it.among)

  pub met : (r : Option Entry) (d : Entry) → Best (a node.U) node.names (method_at p node.U).k H (entry_count p node.U) r
      → BestAt (a node.U) node.names (method_at p node.U).k H (entry_count p node.U) (unwrap_or r d).grade (unwrap_or r d).set
  met None d none = absurd (none it.set it-below it.among)
  met (Some e) d best = best

-- all sets looked at: the entry is the call's own part, and the set the one that it goes to
module _ (p : Program) (a : Assignment) (node : Node) (H : ℕ) (grade set : ℕ)
    (best : BestAt (a node.U) node.names (method_at p node.U).k H (entry_count p node.U) grade set) where
  abbrev sets : List ℕ
  sets = matching (take (method_at p node.U).k node.names) H

  pub set_found : set < entry_count p node.U
  set_found = best.within

  pub grade-found : grade ≡ callee_entry (method_at p node.U).k (a node.U) node.names H
  unfolding callee_entry
  grade-found =
      let one = it p a node H in
      omega (arith, best.largest one.set (it-below p a node H) one.among, one.largest, best.is, largest-least (a node.U) sets set best.found)

  pub callee-found : set ≡ callee_set p a node H grade
  unfolding callee_set
  callee-found =
      sym (first-unique (entry_count p node.U) (λ S. member S sets && eqb (a node.U S) grade) set best.within
      (both_of (member set sets) (eqb (a node.U set) grade) best.found (subst T (sym (eq-eqb (a node.U set) grade best.is)) tt))
      (λ j l. not_T (member j sets && eqb (a node.U j) grade) (λ both. less j l (both_left (member j sets) (eqb (a node.U j) grade) both) (both_right (member j sets) (eqb (a node.U j) grade) both))))
    where
      less : (j : ℕ) → j < set → T (member j sets) → T (eqb (a node.U j) grade) → ⊥
      less j l m e = omega (arith, best.lowest j l m, eqb→eq (a node.U j) grade e)
