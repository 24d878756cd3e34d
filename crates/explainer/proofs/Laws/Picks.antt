-- A part picked by its number is the one that the rules pick.
-- Assumes nothing.
use Rattle.std.specs.Prelude.{ℕ, zero, suc, ◌≤◌, ◌<◌, Bool, true, false, not, cond, List, [], ◌∷◌, ◌≡◌, Option, Some, None, MatchOption, T, ltb, length, get_or, take}
use Rattle.std.proofs.Math.Path.{refl}
use Rattle.std.proofs.Common.{sym, ap, ap₂, ◌∙◌, subst, arith, lt-ltb, le-ltb, eq-eqb, ne_eqb}
use Rattle.std.proofs.Math.Decide.{dec_lt, ℕ_discrete}
use Rattle.std.proofs.Math.Seq.{length-take-le}
use Rattle.std.proofs.lemmas.List.{get_or-take}
use Rattle.std.proofs.Math.Dec.{eqb}
use Rattle.counting.specs.Counting.{first}
use Rattle.counting.specs.Laws.Counting.{first-unique, first-none, first-same}
use Rattle.grades.specs.Grades.{atomic, cmpd}
use Rattle.meaning.specs.Meaning.{Part, own}
use Rattle.reasons.specs.Steps as steps
use Rattle.reasons.specs.Steps.{picked, none, or_else, first_part, last_atomic, pick_of}
use Rattle.explainer.specs.declared.picks.Pick.{Pick}
use Rattle.explainer.specs.Code.Picks.{LastOf, NoneOf, PickedAt, same, twice, nothing, part_at, pick_in}

-- ---- a search over a list, and the same by numbers

differs : (a b : ℕ) → (a ≡ b → ⊥) → T (not (eqb a b))
differs a b n = subst (λ (x : Bool). T (not x)) (sym (ne_eqb a b n)) tt

-- the first number at which a list has a value
pub first_of : (xs : List ℕ) (v : ℕ) (r : Option ℕ)
    → MatchOption r ((k : ℕ) → k < length xs → get_or xs k 0 ≡ v → ⊥) (λ i. (i < length xs) × (get_or xs i 0 ≡ v) × ((k : ℕ) → k < i → get_or xs k 0 ≡ v → ⊥))
    → MatchOption r (length xs ≤ first (length xs) (λ i. eqb (get_or xs i 0) v)) (λ i. (i ≡ first (length xs) (λ i. eqb (get_or xs i 0) v)) × (i < length xs))
first_of xs v None never =
    let all = first-none (length xs) (λ i. eqb (get_or xs i 0) v) (λ k l. ne_eqb (get_or xs k 0) v (never k l)) in omega arith
first_of xs v (Some i) here = (
  sym (first-unique (length xs) (λ i. eqb (get_or xs i 0) v) i here.0 (subst T (sym (eq-eqb (get_or xs i 0) v here.1)) tt) (λ k l. differs (get_or xs k 0) v (here.2 k l))),
  here.0,
)

-- ---- the same tests over other grades that are the same

module _ (f g : ℕ → ℕ) (w w' n : ℕ) (e : w ≡ w') (h : (i : ℕ) → i < n → f i ≡ g i) where
  tests : first n (λ i. eqb (f i) w) ≡ first n (λ i. eqb (g i) w')
  tests = first-same n (λ i. eqb (f i) w) (λ i. eqb (g i) w') (λ i l. ap₂ eqb (h i l) e)

  fails : (i : ℕ) → i < n → T (not (eqb (f i) atomic)) → T (not (eqb (g i) atomic))
  fails i l = subst (λ (x : ℕ). T (not (eqb x atomic))) (h i l)

  pub picked_same : {r : Option Pick} → PickedAt w f n r → PickedAt w' g n r
  picked_same (same q x l) = same q (x ∙ tests) l
  picked_same (twice q x y l) =
      twice q (subst (λ (m : ℕ). n ≤ m) tests x) (sym e ∙ y)
      (record { bound = l.bound; passes = subst (λ (x : ℕ). T (eqb x atomic)) (h q l.bound) l.passes; later = λ j b c. fails j c (l.later j b c) })
  picked_same (nothing x y) = nothing (subst (λ (m : ℕ). n ≤ m) tests x) (λ z j l. fails j l (y (e ∙ z) j l))

-- the first of some grades
pub picked_taken : (w : ℕ) (gs : List ℕ) (n : ℕ) (r : Option Pick) → n ≤ length gs
    → PickedAt w (λ i. get_or (take n gs) i 0) (length (take n gs)) r → PickedAt w (λ i. get_or gs i 0) n r
picked_taken w gs n r h is =
    let size = length-take-le n gs h in
    picked_same (λ i. get_or (take n gs) i 0) (λ i. get_or gs i 0) w w n refl (λ i l. get_or-take n gs i 0 l)
    (subst (λ (m : ℕ). PickedAt w (λ i. get_or (take n gs) i 0) m r) size is)

-- ---- by the rules

-- a part by its number, none past the last
unfoldable by_number : List Part → (i added : ℕ) → steps.Pick
by_number parts i added = cond (ltb i (length parts)) (picked (part_at parts i) added) none

ltb-suc : (a b : ℕ) → ltb (suc a) (suc b) ≡ ltb a b
ltb-suc a b = go (dec_lt a b)
  where
    go : Dec (a < b) → ltb (suc a) (suc b) ≡ ltb a b
    go (yes h) = lt-ltb (suc a) (suc b) (omega arith) ∙ sym (lt-ltb a b h)
    go (no h) = le-ltb (suc a) (suc b) (omega arith) ∙ sym (le-ltb a b (omega arith))

first-by-number : (grade : Part → ℕ) (g : ℕ) (parts : List Part)
    → first_part grade g parts ≡ by_number parts (first (length parts) (λ i. eqb (grade (part_at parts i)) g)) 0
unfolding first_part by_number part_at first
first-by-number grade g [] = refl
first-by-number grade g (x ∷ parts) =
    go (first (length parts) (λ i. eqb (grade (get_or parts i (own 0))) g)) (eqb (grade x) g) (first-by-number grade g parts)
  where
    go : (later : ℕ) (b : Bool) → first_part grade g parts ≡ cond (ltb later (length parts)) (picked (get_or parts later (own 0)) 0) none
        → cond b (picked x 0) (first_part grade g parts)
        ≡ cond (ltb (cond b zero (suc later)) (suc (length parts))) (picked (get_or (x ∷ parts) (cond b zero (suc later)) (own 0)) 0) none
    go later true rest = rw (lt-ltb 0 (suc (length parts)) (omega arith)) refl
    go later false rest = rest ∙ ap (λ (b : Bool). cond b (picked (get_or parts later (own 0)) 0) none) (sym (ltb-suc later (length parts)))

-- the last of a list without its first
tail-last : (n : ℕ) (f : ℕ → Bool) (r : ℕ) → LastOf (suc n) f (suc r) → LastOf n (λ i. f (suc i)) r
tail-last n f r l =
    record { bound = omega (arith, l.bound); passes = l.passes; later = λ j h k. l.later (suc j) (omega arith) (omega arith) }

failed : (b : Bool) → T (not b) → b ≡ false
failed true t = absurd t
failed false t = refl

pub passed : (b : Bool) → T b → b ≡ true
passed true t = refl
passed false t = absurd t

-- no part has the whole's grade
not_there : (whole : ℕ) (grade : Part → ℕ) (parts : List Part) → length parts ≤ first (length parts) (λ i. eqb (grade (part_at parts i)) whole)
    → first_part grade whole parts ≡ none
not_there whole grade parts h =
    first-by-number grade whole parts
    ∙ (unfold by_number in rw (le-ltb (first (length parts) (λ i. eqb (grade (part_at parts i)) whole)) (length parts) h) refl)

none_atomic : (grade : Part → ℕ) (parts : List Part) → NoneOf (length parts) (λ i. eqb (grade (part_at parts i)) atomic) → last_atomic grade parts ≡ none
unfolding last_atomic part_at
none_atomic grade [] never = refl
none_atomic grade (x ∷ parts) never =
    rw (none_atomic grade parts (λ j l. never (suc j) (omega arith)))
    (ap (λ (b : Bool). cond b (picked x 8) none) (failed (eqb (grade x) atomic) (never 0 (omega arith))))

last-by-number : (grade : Part → ℕ) (parts : List Part) (r : ℕ) → LastOf (length parts) (λ i. eqb (grade (part_at parts i)) atomic) r
    → last_atomic grade parts ≡ picked (part_at parts r) 8
unfolding last_atomic part_at
last-by-number grade [] r l = absurd (omega (arith, l.bound))
last-by-number grade (x ∷ parts) zero l =
    rw (none_atomic grade parts (λ j k. l.later (suc j) (omega arith) (omega arith)))
    (ap (λ (b : Bool). cond b (picked x 8) none) (passed (eqb (grade x) atomic) l.passes))
last-by-number grade (x ∷ parts) (suc r) l =
    rw (last-by-number grade parts r (tail-last (length parts) (λ i. eqb (grade (get_or (x ∷ parts) i (own 0))) atomic) r l)) refl

-- "The next step is the first part whose grade equals the step's own. Where the whole is 3 and no part is, it is the last part of
-- grade 2": by numbers
pub pick-by-number : (whole : ℕ) (grade : Part → ℕ) (parts : List Part) (r : Option Pick)
    → PickedAt whole (λ i. grade (part_at parts i)) (length parts) r → pick_of whole grade parts ≡ pick_in parts r
unfolding pick_of
pick-by-number whole grade parts r (same part e h) =
    ap (λ (k : steps.Pick). or_else k (cond (eqb whole cmpd) (last_atomic grade parts) none)) (first-by-number grade whole parts ∙ ap (λ (i : ℕ). by_number parts i 0) (sym e) ∙ found)
  where
    found : by_number parts part 0 ≡ picked (part_at parts part) 0
    found = unfold by_number in rw (lt-ltb part (length parts) h) refl
pick-by-number whole grade parts r (twice part h e l) =
    ap (λ (k : steps.Pick). or_else k (cond (eqb whole cmpd) (last_atomic grade parts) none)) (not_there whole grade parts h)
    ∙ ap (λ (b : Bool). cond b (last_atomic grade parts) none) (eq-eqb whole cmpd e)
    ∙ last-by-number grade parts part l
pick-by-number whole grade parts r (nothing h n) =
    ap (λ (k : steps.Pick). or_else k (cond (eqb whole cmpd) (last_atomic grade parts) none)) (not_there whole grade parts h) ∙ go (ℕ_discrete whole cmpd)
  where
    go : Dec (whole ≡ cmpd) → cond (eqb whole cmpd) (last_atomic grade parts) none ≡ none
    go (yes e) = ap (λ (b : Bool). cond b (last_atomic grade parts) none) (eq-eqb whole cmpd e) ∙ none_atomic grade parts (n e)
    go (no e) = ap (λ (b : Bool). cond b (last_atomic grade parts) none) (ne_eqb whole cmpd e)
