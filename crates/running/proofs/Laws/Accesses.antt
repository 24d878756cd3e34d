-- An access has the grade that the rules give it: what an access of a field does is good at the field's grade, if the thread has the guard wherever the
-- rules count it as held.
-- Assumes nothing.
use Rattle.std.specs.Prelude.{ℕ, zero, suc, ◌≤◌, ◌<◌, Bool, true, false, [], ◌∷◌, ◌≡◌, refl, T, eqb}
use Rattle.std.proofs.Common.{ap, subst, arith}
use Rattle.std.proofs.Math.Dec.{lit≤}
use Rattle.grades.specs.Grades.{mover, atomic, cmpd, cap, composition, compose}
use Rattle.grades.specs.Access.{unprotected, guarded, read_access, write_access, access as access_grade}
use Rattle.frames.specs.Links.{guard_uses}
use Rattle.running.specs.Machine.{Action, access}
use Rattle.running.specs.Threads.{alone}
use Rattle.running.specs.Movers.{keeps, undisturbed, fair}
use Rattle.running.proofs.Laws.Words.{Free, Good, one, good-one, good-compose}

-- below error, an access keeps the discipline
grade-keeps : (width guard : ℕ) (writing counts has : Bool) → (guard_uses guard ≡ true → T counts → T has) → access_grade width guard writing counts ≤ cmpd → T (keeps guard writing has)
unfolding access_grade read_access write_access guarded keeps
grade-keeps w zero true counts has f h = absurd (omega arith)
grade-keeps w zero false counts has f h = tt
grade-keeps w (suc zero) true true has f h = f refl tt
grade-keeps w (suc zero) true false has f h = absurd (omega arith)
grade-keeps w (suc zero) false true has f h = f refl tt
grade-keeps w (suc zero) false false has f h = absurd (omega arith)
grade-keeps w (suc (suc zero)) true true has f h = f refl tt
grade-keeps w (suc (suc zero)) true false has f h = absurd (omega arith)
grade-keeps w (suc (suc zero)) false counts has f h = tt
grade-keeps w (suc (suc (suc zero))) writing counts has f h = tt
grade-keeps w (suc (suc (suc (suc g)))) true counts has f h = absurd (omega arith)
grade-keeps w (suc (suc (suc (suc g)))) false counts has f h = absurd (omega arith)

-- an access that is not counted as without protection is one that nobody can disturb
grade-undisturbed : (width guard : ℕ) (writing counts has : Bool) → (guard_uses guard ≡ true → T counts → T has) → access_grade width guard writing counts < unprotected width
    → access_grade width guard writing counts ≤ cmpd → T (undisturbed guard writing has)
unfolding access_grade read_access write_access guarded undisturbed
grade-undisturbed w zero true counts has f l h = absurd (omega arith)
grade-undisturbed w zero false counts has f l h = tt
grade-undisturbed w (suc zero) true true has f l h = f refl tt
grade-undisturbed w (suc zero) true false has f l h = absurd (omega arith)
grade-undisturbed w (suc zero) false true has f l h = f refl tt
grade-undisturbed w (suc zero) false false has f l h = absurd (omega arith)
grade-undisturbed w (suc (suc zero)) true true has f l h = absurd (omega arith)
grade-undisturbed w (suc (suc zero)) true false has f l h = absurd (omega arith)
grade-undisturbed w (suc (suc zero)) false true has f l h = f refl tt
grade-undisturbed w (suc (suc zero)) false false has f l h = absurd (omega arith)
grade-undisturbed w (suc (suc (suc zero))) true counts has f l h = absurd (omega arith)
grade-undisturbed w (suc (suc (suc zero))) false counts has f l h = absurd (omega arith)
grade-undisturbed w (suc (suc (suc (suc g)))) true counts has f l h = absurd (omega arith)
grade-undisturbed w (suc (suc (suc (suc g)))) false counts has f l h = absurd (omega arith)

atomic-unprotected : (w : ℕ) → atomic ≤ unprotected w
unfolding unprotected
atomic-unprotected zero = lit≤ tt
atomic-unprotected (suc zero) = lit≤ tt
atomic-unprotected (suc (suc w)) = lit≤ tt

cmpd-unprotected : (w : ℕ) → eqb w 0 ≡ false → cmpd ≤ unprotected w
unfolding unprotected
cmpd-unprotected zero e = absurd (subst T e tt)
cmpd-unprotected (suc zero) e = lit≤ tt
cmpd-unprotected (suc (suc w)) e = lit≤ tt

module _ (guards : ℕ → ℕ) (width : ℕ) (writing counts : Bool) where
  -- the grade of an access of location x
  abbrev grade_at : (x : ℕ) → ℕ
  grade_at x = access_grade width (guards x) writing counts

  -- what an access of x shows: the thread has the guard, if there is one, wherever the rules count it as held
  abbrev pub Shown : (x : ℕ) (has : Bool) → Type 0
  Shown x has = guard_uses (guards x) ≡ true → T counts → T has

  fair-access : (x v : ℕ) (has : Bool) → Shown x has → grade_at x ≤ cmpd → T (fair guards (access x writing v has))
  fair-access x v has f = grade-keeps width (guards x) writing counts has f

  free-access : (x v : ℕ) (has : Bool) → Shown x has → grade_at x < unprotected width → grade_at x ≤ cmpd → Free guards (alone (access x writing v has))
  free-access x v has f l h =
      let u : T (undisturbed (guards x) writing has) = grade-undisturbed width (guards x) writing counts has f l h in
      (fair-access x v has f h, u, u)

  -- one location
  pub good-narrow : (x v : ℕ) (has : Bool) → Shown x has → Good guards (grade_at x) (one guards (access x writing v has))
  good-narrow x v has f =
      good-one guards (grade_at x) (access x writing v has) (fair-access x v has f)
      (λ h. free-access x v has f (omega (arith, h, atomic-unprotected width)) (omega (arith, h)))

  -- two locations of one guard, of a wide field
  pub good-wide : eqb width 0 ≡ false → (x v : ℕ) (has : Bool) (x' v' : ℕ) (has' : Bool) → guards x ≡ guards x' → Shown x has → Shown x' has'
      → Good guards (grade_at x) (alone (access x writing v has) ∷ alone (access x' writing v' has') ∷ [])
  good-wide e x v has x' v' has' same f f' =
      record {
        fits = λ h. (two cmpd (λ k. (fair-access x v has f h, second h)) (λ k. absurd (omega arith))).fits (three h);
        around = λ h. (two mover (λ k. (fair-access x v has f (omega arith), second (omega arith))) (λ k. both-free h)).around (one-mover h);
        free = λ h. ((both-free (omega arith)).0, ((both-free (omega arith)).1, tt));
      }
    where
      a : Action
      a = access x writing v has

      b : Action
      b = access x' writing v' has'

      same-grade : grade_at x ≡ grade_at x'
      same-grade = ap (λ (g : ℕ). access_grade width g writing counts) same

      second : grade_at x ≤ cmpd → T (fair guards b)
      second h = fair-access x' v' has' f' (omega (arith, h, same-grade))

      both-free : grade_at x ≤ atomic → Free guards (alone a) × Free guards (alone b)
      both-free h = (
        free-access x v has f (omega (arith, h, cmpd-unprotected width e)) (omega (arith, h)),
        free-access x' v' has' f' (omega (arith, h, same-grade, cmpd-unprotected width e)) (omega (arith, h, same-grade)),
      )

      two : (g : ℕ) → (g ≤ cmpd → T (fair guards a) × T (fair guards b)) → (g ≤ mover → Free guards (alone a) × Free guards (alone b))
          → Good guards (compose g g) (alone a ∷ alone b ∷ [])
      two g f k = good-compose guards g g (one guards a) (one guards b) (good-one guards g a (λ h. (f h).0) (λ h. (k h).0)) (good-one guards g b (λ h. (f h).1) (λ h. (k h).1))

      three : grade_at x ≤ cmpd → compose cmpd cmpd ≤ cmpd
      three h = unfold compose composition cap in lit≤ tt

      one-mover : grade_at x ≤ atomic → compose mover mover ≤ atomic
      one-mover h = unfold compose composition cap in lit≤ tt
