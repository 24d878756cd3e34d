-- The laws of the grades' arithmetic (the article's theorem 3). They hold of all numbers, since a number over 4 counts as 4. One test,
-- computed over all triples of grades, carries every law; above this file nobody opens the composition table.
-- Assumes nothing.
use Rattle.std.specs.Prelude.{ℕ, ◌≤◌, ◌<◌, Bool, true, false, ◌&&◌, ◌||◌, List, [], ◌∷◌, ◌≡◌, T, leb, ltb, eqb}
use Rattle.std.proofs.Common.{sym, ap, ◌∙◌, subst, le_trans, arith, ne_eqb, le-ltb, leb→le, eqb→eq}
use Rattle.counting.specs.Counting.{every}
use Rattle.counting.specs.Laws.Tests.{both_left, both_right}
use Rattle.counting.specs.Laws.Counting.{every-at}
use Rattle.grades.specs.Grades.{cap, composition, compose, join, closure, assert_atomic, lock_taken, atomic, cmpd, error}

-- ---- a number counts as its grade

pub cap-grade : (a : ℕ) → a ≤ error → cap a ≡ a
unfolding cap
cap-grade a h = omega arith

pub cap-error : (a : ℕ) → cap a ≤ error
unfolding cap
cap-error a = omega arith

pub cap-le : (a : ℕ) → cap a ≤ a
unfolding cap
cap-le a = omega arith

pub cap-grows : (a b : ℕ) → a ≤ b → cap a ≤ cap b
unfolding cap
cap-grows a b h = omega arith

pub cap-cap : (a : ℕ) → cap (cap a) ≡ cap a
cap-cap a = cap-grade (cap a) (cap-error a)

cap-below : (a : ℕ) → cap a < 5
cap-below a = omega (arith, cap-error a)

compose-capˡ : (a b : ℕ) → compose (cap a) b ≡ compose a b
unfolding compose
compose-capˡ a b = rw cap-cap

compose-capʳ : (a b : ℕ) → compose a (cap b) ≡ compose a b
unfolding compose
compose-capʳ a b = rw cap-cap

join-capˡ : (a b : ℕ) → join (cap a) b ≡ join a b
unfolding join
join-capˡ a b = rw cap-cap

join-capʳ : (a b : ℕ) → join a (cap b) ≡ join a b
unfolding join
join-capʳ a b = rw cap-cap

closure-cap : (a : ℕ) → closure (cap a) ≡ closure a
unfolding closure
closure-cap a = rw cap-cap

assert-cap : (a : ℕ) → assert_atomic (cap a) ≡ assert_atomic a
unfolding assert_atomic
assert-cap a = rw cap-cap

lock_taken-cap : (a : ℕ) → lock_taken (cap a) ≡ lock_taken a
unfolding lock_taken
lock_taken-cap a = rw cap-cap

-- ---- the laws at three numbers, and the test of them all

-- a claim about two numbers, its test and its meaning
data Claim : Type 0 where
  equal : ℕ → ℕ → Claim
  at_most : ℕ → ℕ → Claim

passes : List Claim → Bool
passes [] = true
passes (equal m n ∷ cs) = eqb m n && passes cs
passes (at_most m n ∷ cs) = leb m n && passes cs

abbrev Hold : List Claim → Type 0
Hold [] = Unit {0}
Hold (equal m n ∷ cs) = (m ≡ n) × Hold cs
Hold (at_most m n ∷ cs) = (m ≤ n) × Hold cs

-- claims that pass their tests hold: the lemma that turns the test into each law
hold : (cs : List Claim) → T (passes cs) → Hold cs
unfolding passes
hold [] t = tt
hold (equal m n ∷ cs) t = (eqb→eq m n (both_left (eqb m n) (passes cs) t), hold cs (both_right (eqb m n) (passes cs) t))
hold (at_most m n ∷ cs) t = (leb→le m n (both_left (leb m n) (passes cs) t), hold cs (both_right (leb m n) (passes cs) t))

abbrev claims : ℕ → ℕ → ℕ → List Claim
claims a b c =
    at_most (compose a b) error
    ∷ equal (compose (compose a b) c) (compose a (compose b c))
    ∷ equal (compose 0 a) (cap a)
    ∷ equal (compose a 0) (cap a)
    ∷ at_most (cap a) (compose a b)
    ∷ at_most (cap b) (compose a b)
    ∷ equal (compose (join a b) c) (join (compose a c) (compose b c))
    ∷ equal (compose c (join a b)) (join (compose c a) (compose c b))
    ∷ at_most (closure a) error
    ∷ at_most (cap a) (closure a)
    ∷ equal (closure (closure a)) (closure a)
    ∷ equal (closure (join a b)) (join (closure a) (closure b))
    ∷ at_most (assert_atomic a) error
    ∷ equal (assert_atomic (join a b)) (join (assert_atomic a) (assert_atomic b))
    ∷ at_most (lock_taken a) error
    ∷ at_most (cap a) (lock_taken a)
    ∷ equal (lock_taken (join a b)) (join (lock_taken a) (lock_taken b))
    ∷ equal (join (join a b) c) (join a (join b c))
    ∷ []

-- the test of all claims at all triples of grades, the whole table with them
computed : T (every 5 (λ a. every 5 (λ b. every 5 (λ c. passes (claims a b c)))))
unfolding every passes compose composition cap join closure assert_atomic lock_taken
computed = tt

claims-cap : (a b c : ℕ) → claims (cap a) (cap b) (cap c) ≡ claims a b c
claims-cap a b c =
    simp (compose-capˡ, compose-capʳ, join-capˡ, join-capʳ, closure-cap, assert-cap, lock_taken-cap, cap-cap)

claims-hold : (a b c : ℕ) → Hold (claims a b c)
claims-hold a b c =
    subst Hold (claims-cap a b c)
    (hold (claims (cap a) (cap b) (cap c))
    (every-at 5 (λ z. passes (claims (cap a) (cap b) z))
    (every-at 5 (λ y. every 5 (λ z. passes (claims (cap a) y z)))
    (every-at 5 (λ x. every 5 (λ y. every 5 (λ z. passes (claims x y z)))) computed (cap a) (cap-below a))
    (cap b) (cap-below b))
    (cap c) (cap-below c)))

-- ---- each law

pub compose-error : (a b : ℕ) → compose a b ≤ error
compose-error a b = (claims-hold a b 0).0

pub compose-assoc : (a b c : ℕ) → compose (compose a b) c ≡ compose a (compose b c)
compose-assoc a b c = (claims-hold a b c).1.0

pub const-compose : (a : ℕ) → compose 0 a ≡ cap a
const-compose a = (claims-hold a 0 0).1.1.0

pub compose-const : (a : ℕ) → compose a 0 ≡ cap a
compose-const a = (claims-hold a 0 0).1.1.1.0

pub compose-above-first : (a b : ℕ) → cap a ≤ compose a b
compose-above-first a b = (claims-hold a b 0).1.1.1.1.0

pub compose-above-second : (a b : ℕ) → cap b ≤ compose a b
compose-above-second a b = (claims-hold a b 0).1.1.1.1.1.0

pub compose-join-first : (a b c : ℕ) → compose (join a b) c ≡ join (compose a c) (compose b c)
compose-join-first a b c = (claims-hold a b c).1.1.1.1.1.1.0

pub compose-join-second : (a b c : ℕ) → compose c (join a b) ≡ join (compose c a) (compose c b)
compose-join-second a b c = (claims-hold a b c).1.1.1.1.1.1.1.0

pub closure-error : (a : ℕ) → closure a ≤ error
closure-error a = (claims-hold a 0 0).1.1.1.1.1.1.1.1.0

pub closure-above : (a : ℕ) → cap a ≤ closure a
closure-above a = (claims-hold a 0 0).1.1.1.1.1.1.1.1.1.0

pub closure-closure : (a : ℕ) → closure (closure a) ≡ closure a
closure-closure a = (claims-hold a 0 0).1.1.1.1.1.1.1.1.1.1.0

pub closure-join : (a b : ℕ) → closure (join a b) ≡ join (closure a) (closure b)
closure-join a b = (claims-hold a b 0).1.1.1.1.1.1.1.1.1.1.1.0

pub assert-error : (a : ℕ) → assert_atomic a ≤ error
assert-error a = (claims-hold a 0 0).1.1.1.1.1.1.1.1.1.1.1.1.0

pub assert-join : (a b : ℕ) → assert_atomic (join a b) ≡ join (assert_atomic a) (assert_atomic b)
assert-join a b = (claims-hold a b 0).1.1.1.1.1.1.1.1.1.1.1.1.1.0

pub lock_taken-error : (a : ℕ) → lock_taken a ≤ error
lock_taken-error a = (claims-hold a 0 0).1.1.1.1.1.1.1.1.1.1.1.1.1.1.0

pub lock_taken-above : (a : ℕ) → cap a ≤ lock_taken a
lock_taken-above a = (claims-hold a 0 0).1.1.1.1.1.1.1.1.1.1.1.1.1.1.1.0

pub lock_taken-join : (a b : ℕ) → lock_taken (join a b) ≡ join (lock_taken a) (lock_taken b)
lock_taken-join a b = (claims-hold a b 0).1.1.1.1.1.1.1.1.1.1.1.1.1.1.1.1.0

-- ---- the join

pub join-error : (a b : ℕ) → join a b ≤ error
unfolding join cap
join-error a b = omega arith

pub join-comm : (a b : ℕ) → join a b ≡ join b a
unfolding join cap
join-comm a b = omega arith

pub join-assoc : (a b c : ℕ) → join (join a b) c ≡ join a (join b c)
join-assoc a b c = (claims-hold a b c).1.1.1.1.1.1.1.1.1.1.1.1.1.1.1.1.1.0

pub join-self : (a : ℕ) → join a a ≡ cap a
unfolding join cap
join-self a = omega arith

pub join-above-first : (a b : ℕ) → cap a ≤ join a b
unfolding join cap
join-above-first a b = omega arith

pub join-above-second : (a b : ℕ) → cap b ≤ join a b
unfolding join cap
join-above-second a b = omega arith

-- the join is the lowest that is nowhere below the two
pub join-lowest : (a b c : ℕ) → cap a ≤ c → cap b ≤ c → join a b ≤ c
unfolding join cap
join-lowest a b c h g = omega arith

pub join-grows : (a b a' b' : ℕ) → a ≤ a' → b ≤ b' → join a b ≤ join a' b'
unfolding join cap
join-grows a b a' b' h g = omega arith

pub join-larger : (a b : ℕ) → a ≤ b → join a b ≡ cap b
unfolding join cap
join-larger a b h = omega arith

-- ---- what spreads over the join grows

grows : (f : ℕ → ℕ) → ((a : ℕ) → f (cap a) ≡ f a) → ((a : ℕ) → f a ≤ error)
    → ((a b : ℕ) → f (join a b) ≡ join (f a) (f b)) → (a b : ℕ) → a ≤ b → f a ≤ f b
grows f f-cap f-error f-join a b h =
    let larger : join (f a) (f b) ≡ f b = sym (f-join a b) ∙ ap f (join-larger a b h) ∙ f-cap b in
    omega (arith, join-above-first (f a) (f b), cap-grade (f a) (f-error a))

compose-grows-first : (a a' b : ℕ) → a ≤ a' → compose a b ≤ compose a' b
compose-grows-first a a' b =
    grows (λ x. compose x b) (λ x. compose-capˡ x b) (λ x. compose-error x b) (λ x y. compose-join-first x y b) a a'

compose-grows-second : (a b b' : ℕ) → b ≤ b' → compose a b ≤ compose a b'
compose-grows-second a b b' =
    grows (compose a) (compose-capʳ a) (compose-error a) (λ x y. compose-join-second x y a) b b'

pub compose-grows : (a b a' b' : ℕ) → a ≤ a' → b ≤ b' → compose a b ≤ compose a' b'
compose-grows a b a' b' h g = le_trans (compose-grows-first a a' b h) (compose-grows-second a' b b' g)

pub closure-grows : (a b : ℕ) → a ≤ b → closure a ≤ closure b
closure-grows = grows closure closure-cap closure-error closure-join

pub assert-grows : (a b : ℕ) → a ≤ b → assert_atomic a ≤ assert_atomic b
assert-grows = grows assert_atomic assert-cap assert-error assert-join

pub lock_taken-grows : (a b : ℕ) → a ≤ b → lock_taken a ≤ lock_taken b
lock_taken-grows = grows lock_taken lock_taken-cap lock_taken-error lock_taken-join

-- ---- where the operations on one grade leave it

-- f leaves a number's grade where no exception is made for it
stays : (f : ℕ → ℕ) (exception : ℕ → Bool) → ((a : ℕ) → f (cap a) ≡ f a)
    → T (every 5 (λ x. (exception x || eqb (f x) x))) → (a : ℕ) → exception (cap a) ≡ false → f a ≡ cap a
stays f exception f-cap t a e =
    sym (f-cap a)
    ∙ eqb→eq (f (cap a)) (cap a)
    (subst (λ (b : Bool). T (b || eqb (f (cap a)) (cap a))) e
    (every-at 5 (λ x. (exception x || eqb (f x) x)) t (cap a) (cap-below a)))

pub closure-stays : (a : ℕ) → (a ≡ atomic → ⊥) → closure a ≡ cap a
unfolding every closure cap
closure-stays a h = stays closure (λ x. eqb x atomic) closure-cap tt a (ne_eqb (cap a) atomic (λ e. h (omega arith)))

pub assert-stays : (a : ℕ) → (a ≡ cmpd → ⊥) → assert_atomic a ≡ cap a
unfolding every assert_atomic cap
assert-stays a h = stays assert_atomic (λ x. eqb x cmpd) assert-cap tt a (ne_eqb (cap a) cmpd (λ e. h (omega arith)))

pub lock_taken-stays : (a : ℕ) → atomic ≤ a → lock_taken a ≡ cap a
unfolding every lock_taken cap
lock_taken-stays a h = stays lock_taken (λ x. ltb x atomic) lock_taken-cap tt a (le-ltb (cap a) atomic (omega arith))

pub lock_taken-atomic : (a : ℕ) → a < atomic → lock_taken a ≡ atomic
unfolding every lock_taken cap
lock_taken-atomic a h = eqb→eq (lock_taken a) atomic (every-at 2 (λ x. eqb (lock_taken x) atomic) tt a h)
