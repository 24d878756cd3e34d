-- Two steps, one after the other, of different threads can change places if the first moves later or the second moves earlier. It knows no grade.
-- Assumes nothing.
use Rattle.std.specs.Prelude.{ℕ, zero, suc, Bool, true, false, not, cond, ◌≡◌, refl, T, eqb}
use Rattle.std.proofs.Common.{sym, ap, ◌∙◌, subst, arith, eqb-true, eq-eqb, ne_eqb}
use Rattle.std.proofs.Math.Path.{fun_ext}
use Rattle.std.proofs.Math.Decide.{ℕ_discrete}
use Rattle.running.specs.Machine.{World, own, State, holds, changed, Action, acquire, release, access, begin, Needs, Can, after}
use Rattle.running.specs.Movers.{keeps, undisturbed, fair, moves_later, moves_earlier}

-- ---- a function changed at one place

changed-same : {A : Type 0} (f : ℕ → A) (i : ℕ) (v : A) (j : ℕ) → j ≡ i → changed f i v j ≡ v
unfolding changed
changed-same {A} f i v j e = ap (λ (b : Bool). cond b v (f j)) (eq-eqb j i e)

changed-other : {A : Type 0} (f : ℕ → A) (i : ℕ) (v : A) (j : ℕ) → (j ≡ i → ⊥) → changed f i v j ≡ f j
unfolding changed
changed-other {A} f i v j n = ap (λ (b : Bool). cond b v (f j)) (ne_eqb j i n)

-- two choices, of which at most one is made, in either order
cond-swap : {A : Type 0} (p q : Bool) (a b c : A) → (p ≡ true → q ≡ true → ⊥) → cond p a (cond q b c) ≡ cond q b (cond p a c)
cond-swap true true a b c n = absurd (n refl refl)
cond-swap true false a b c n = refl
cond-swap false true a b c n = refl
cond-swap false false a b c n = refl

changed-swap : {A : Type 0} (f : ℕ → A) (i j : ℕ) (a b : A) → (i ≡ j → ⊥) → changed (changed f j b) i a ≡ changed (changed f i a) j b
unfolding changed
changed-swap f i j a b n =
    fun_ext (λ k. cond-swap (eqb k i) (eqb k j) a b (f k) (λ p q. n (sym (eqb-true k i p) ∙ eqb-true k j q)))

-- ---- what an action changes, part by part: at most one place of each part of the state

data Put (A : Type 0) : Type 0 where
  keep : Put A
  put : (place : ℕ) (value : A) → Put A

abbrev apply : {A : Type 0} → Put A → (ℕ → A) → ℕ → A
apply keep f = f
apply (put i v) f = changed f i v

-- it leaves place j alone
abbrev Clear : {A : Type 0} → Put A → (j : ℕ) → Type 0
Clear keep j = Unit {0}
Clear (put i v) j = j ≡ i → ⊥

abbrev Disjoint : {A : Type 0} → (p q : Put A) → Type 0
Disjoint keep q = Unit {0}
Disjoint (put i v) q = Clear q i

apply-clear : {A : Type 0} (p : Put A) (f : ℕ → A) (j : ℕ) → Clear p j → apply p f j ≡ f j
apply-clear keep f j c = refl
apply-clear (put i v) f j c = changed-other f i v j c

apply-swap : {A : Type 0} (p q : Put A) (f : ℕ → A) → Disjoint p q → apply p (apply q f) ≡ apply q (apply p f)
apply-swap keep q f d = refl
apply-swap (put i a) keep f d = refl
apply-swap (put i a) (put j b) f d = changed-swap f i j a b d

disjoint-sym : {A : Type 0} (p q : Put A) → Disjoint p q → Disjoint q p
disjoint-sym keep keep d = tt
disjoint-sym keep (put j b) d = tt
disjoint-sym (put i a) keep d = tt
disjoint-sym (put i a) (put j b) d = λ e. d (sym e)

abbrev turn_of : World → (thread : ℕ) → Action → Put ℕ
turn_of w t (acquire l) = put l (suc t)
turn_of w t (release l) = put l 0
turn_of w t (access x writing v g) = keep
turn_of w t (begin u) = put (own w u) (suc u)

abbrev write_of : Action → Put ℕ
write_of (acquire l) = keep
write_of (release l) = keep
write_of (access x true v g) = put x v
write_of (access x false v g) = keep
write_of (begin u) = keep

abbrev start_of : Action → Put Bool
start_of (acquire l) = keep
start_of (release l) = keep
start_of (access x writing v g) = keep
start_of (begin u) = put u true

abbrev moved : World → (thread : ℕ) → Action → State → State
moved w t a s = record { holder = apply (turn_of w t a) s.holder; heap = apply (write_of a) s.heap; begun = apply (start_of a) s.begun }

after-moved : (w : World) (t : ℕ) (a : Action) (s : State) → after w t a s ≡ moved w t a s
after-moved w t (acquire l) s = refl
after-moved w t (release l) s = refl
after-moved w t (access x true v g) s = refl
after-moved w t (access x false v g) s = refl
after-moved w t (begin u) s = refl

-- ---- steps that touch different places

-- of two accesses of one location none writes
abbrev Quiet : (x y : Action) → Type 0
Quiet (access i p a g) (access j q b h) = i ≡ j → (p ≡ false) × (q ≡ false)
Quiet (access i p a g) (acquire l) = Unit {0}
Quiet (access i p a g) (release l) = Unit {0}
Quiet (access i p a g) (begin v) = Unit {0}
Quiet (acquire l) y = Unit {0}
Quiet (release l) y = Unit {0}
Quiet (begin v) y = Unit {0}

pub true-not-false : true ≡ false → ⊥
true-not-false e = subst T e tt

passes : (b : Bool) → T b → b ≡ true
passes true t = refl
passes false t = absurd t

not-passes : (b : Bool) → T (not b) → b ≡ false
not-passes true t = absurd t
not-passes false t = refl

-- an action that is quiet with an access of a location does not write it
quiet-clear : (i : ℕ) (p : Bool) (a : ℕ) (g : Bool) (y : Action) → Quiet (access i p a g) y → Clear (write_of y) i
quiet-clear i p a g (acquire l) q = tt
quiet-clear i p a g (release l) q = tt
quiet-clear i p a g (access j true b h) q = λ e. true-not-false (q e).1
quiet-clear i p a g (access j false b h) q = tt
quiet-clear i p a g (begin v) q = tt

quiet-disjoint : (x y : Action) → Quiet x y → Disjoint (write_of x) (write_of y)
quiet-disjoint (acquire l) y q = tt
quiet-disjoint (release l) y q = tt
quiet-disjoint (access i true a g) y q = quiet-clear i true a g y q
quiet-disjoint (access i false a g) y q = tt
quiet-disjoint (begin v) y q = tt

quiet-sym : (x y : Action) → Quiet x y → Quiet y x
quiet-sym (acquire l) (acquire m) q = tt
quiet-sym (acquire l) (release m) q = tt
quiet-sym (acquire l) (access j p b h) q = tt
quiet-sym (acquire l) (begin v) q = tt
quiet-sym (release l) (acquire m) q = tt
quiet-sym (release l) (release m) q = tt
quiet-sym (release l) (access j p b h) q = tt
quiet-sym (release l) (begin v) q = tt
quiet-sym (access i p a g) (acquire m) q = tt
quiet-sym (access i p a g) (release m) q = tt
quiet-sym (access i p a g) (access j r b h) q = λ e. ((q (sym e)).1, (q (sym e)).0)
quiet-sym (access i p a g) (begin v) q = tt
quiet-sym (begin u) (acquire m) q = tt
quiet-sym (begin u) (release m) q = tt
quiet-sym (begin u) (access j p b h) q = tt
quiet-sym (begin u) (begin v) q = tt

record Apart (w : World) (t u : ℕ) (x y : Action) : Type 0 where
  turns : Disjoint (turn_of w t x) (turn_of w u y)
  quiet : Quiet x y
  starts : Disjoint (start_of x) (start_of y)

apart-sym : (w : World) (t u : ℕ) (x y : Action) → Apart w t u x y → Apart w u t y x
apart-sym w t u x y a =
    record {
      turns = disjoint-sym (turn_of w t x) (turn_of w u y) a.turns;
      quiet = quiet-sym x y a.quiet;
      starts = disjoint-sym (start_of x) (start_of y) a.starts;
    }

-- ---- what an action sees

-- a second state shows the action what the first does
abbrev Sees : World → (thread : ℕ) → Action → (s s' : State) → Type 0
Sees w u (acquire l) s s' = s'.holder l ≡ s.holder l
Sees w u (release l) s s' = s'.holder l ≡ s.holder l
Sees w u (access x true v g) s s' = holds s' u (w.guard x) ≡ holds s u (w.guard x)
Sees w u (access x false v g) s s' = (holds s' u (w.guard x) ≡ holds s u (w.guard x)) × (s'.heap x ≡ s.heap x)
Sees w u (begin v) s s' = (s'.begun v ≡ s.begun v) × (s'.holder (own w v) ≡ s.holder (own w v))

needs-there : (w : World) (u : ℕ) (y : Action) (s s' : State) → Sees w u y s s' → Needs w u y s → Needs w u y s'
needs-there w u (acquire l) s s' e n = e ∙ n
needs-there w u (release l) s s' e n = rw (← e) at n
needs-there w u (access x true v g) s s' e n = n ∙ sym e
needs-there w u (access x false v g) s s' e n = (n.0 ∙ sym e.0, rw (← e.1) at n.1)
needs-there w u (begin v) s s' e n = (e.0 ∙ n.0, e.1 ∙ n.1)

needs-back : (w : World) (u : ℕ) (y : Action) (s s' : State) → Sees w u y s s' → Needs w u y s' → Needs w u y s
needs-back w u (acquire l) s s' e n = sym e ∙ n
needs-back w u (release l) s s' e n = rw e at n
needs-back w u (access x true v g) s s' e n = n ∙ e
needs-back w u (access x false v g) s s' e n = (n.0 ∙ e.0, rw e.1 at n.1)
needs-back w u (begin v) s s' e n = (sym e.0 ∙ n.0, sym e.1 ∙ n.1)

-- a turn of a lock from one holder to another, neither of whom is u, changes nothing for u
turn_holds : (f : ℕ → ℕ) (l from to m u : ℕ) → f l ≡ from → (from ≡ suc u → ⊥) → (to ≡ suc u → ⊥) → eqb (changed f l to m) (suc u) ≡ eqb (f m) (suc u)
turn_holds f l from to m u e p q = go (ℕ_discrete m l)
  where
    go : Dec (m ≡ l) → eqb (changed f l to m) (suc u) ≡ eqb (f m) (suc u)
    go (yes d) =
        ne_eqb (changed f l to m) (suc u) (λ h. q (sym (changed-same f l to m d) ∙ h))
        ∙ sym (ne_eqb (f m) (suc u) (λ h. p (sym e ∙ sym (ap f d) ∙ h)))
    go (no d) = ap (λ (k : ℕ). eqb k (suc u)) (changed-other f l to m d)

-- a thread that has begun is not one that has yet to begin
begun-apart : (s : State) (u v : ℕ) → s.begun u ≡ true → s.begun v ≡ false → v ≡ u → ⊥
begun-apart s u v b n e = true-not-false (sym b ∙ ap s.begun (sym e) ∙ n)

suc_apart : (t u : ℕ) → (t ≡ u → ⊥) → suc t ≡ suc u → ⊥
suc_apart t u n e = n (omega arith)

zero-apart : (u : ℕ) → 0 ≡ suc u → ⊥
zero-apart u e = omega arith

holds_kept : (w : World) (t u : ℕ) (x : Action) (s : State) (m : ℕ) → (t ≡ u → ⊥) → s.begun u ≡ true → Needs w t x s
    → holds (moved w t x s) u m ≡ holds s u m
holds_kept w t u (acquire l) s m d b n = turn_holds s.holder l 0 (suc t) m u n (zero-apart u) (suc_apart t u d)
holds_kept w t u (release l) s m d b n = turn_holds s.holder l (suc t) 0 m u n (suc_apart t u d) (zero-apart u)
holds_kept w t u (access x p v g) s m d b n = refl
holds_kept w t u (begin v) s m d b n =
    turn_holds s.holder (own w v) 0 (suc v) m u n.1 (zero-apart u) (suc_apart v u (begun-apart s u v b n.0))

sees-moved : (w : World) (t u : ℕ) (x y : Action) (s : State) → (t ≡ u → ⊥) → s.begun u ≡ true → Needs w t x s → Apart w u t y x
    → Sees w u y s (moved w t x s)
sees-moved w t u x (acquire l) s d b n a = apply-clear (turn_of w t x) s.holder l a.turns
sees-moved w t u x (release l) s d b n a = apply-clear (turn_of w t x) s.holder l a.turns
sees-moved w t u x (access i true v g) s d b n a = holds_kept w t u x s (w.guard i) d b n
sees-moved w t u x (access i false v g) s d b n a =
    (holds_kept w t u x s (w.guard i) d b n, apply-clear (write_of x) s.heap i (quiet-clear i false v g x a.quiet))
sees-moved w t u x (begin v) s d b n a =
    (apply-clear (start_of x) s.begun v a.starts, apply-clear (turn_of w t x) s.holder (own w v) a.turns)

sees-after : (w : World) (t u : ℕ) (x y : Action) (s : State) → (t ≡ u → ⊥) → s.begun u ≡ true → Needs w t x s → Apart w u t y x
    → Sees w u y s (after w t x s)
sees-after w t u x y s d b n a = subst (Sees w u y s) (sym (after-moved w t x s)) (sees-moved w t u x y s d b n a)

-- a thread that has begun has begun for good
pub begun_kept : (w : World) (t : ℕ) (x : Action) (s : State) (u : ℕ) → s.begun u ≡ true → (after w t x s).begun u ≡ true
begun_kept w t (acquire l) s u b = b
begun_kept w t (release l) s u b = b
begun_kept w t (access i true v g) s u b = b
begun_kept w t (access i false v g) s u b = b
begun_kept w t (begin v) s u b = go (ℕ_discrete u v)
  where
    go : Dec (u ≡ v) → changed s.begun v true u ≡ true
    go (yes e) = changed-same s.begun v true u e
    go (no n) = changed-other s.begun v true u n ∙ b

moved-swap : (w : World) (t u : ℕ) (x y : Action) (s : State) → Apart w t u x y → moved w t x (moved w u y s) ≡ moved w u y (moved w t x s)
moved-swap w t u x y s a =
    λ i. record {
      holder = apply-swap (turn_of w t x) (turn_of w u y) s.holder a.turns i;
      heap = apply-swap (write_of x) (write_of y) s.heap (quiet-disjoint x y a.quiet) i;
      begun = apply-swap (start_of x) (start_of y) s.begun a.starts i;
    }

after-swap : (w : World) (t u : ℕ) (x y : Action) (s : State) → Apart w t u x y → after w t x (after w u y s) ≡ after w u y (after w t x s)
after-swap w t u x y s a =
    after-moved w t x (after w u y s) ∙ ap (moved w t x) (after-moved w u y s) ∙ moved-swap w t u x y s a
    ∙ ap (moved w u y) (sym (after-moved w t x s)) ∙ sym (after-moved w u y (after w t x s))

-- ---- two turns of one lock

-- after a turn the lock has the holder that it was turned to, and nobody else can turn it on
turn-clash : (f : ℕ → ℕ) (l to m holder : ℕ) → changed f l to m ≡ holder → (to ≡ holder → ⊥) → l ≡ m → ⊥
turn-clash f l to m holder h n e = n (sym (changed-same f l to m (sym e)) ∙ h)

-- after a thread has taken a lock no other does anything with it
acquire-turns : (w : World) (t u l : ℕ) (y : Action) (s : State) → (t ≡ u → ⊥) → Needs w u y (after w t (acquire l) s) → Clear (turn_of w u y) l
acquire-turns w t u l (acquire m) s d n = turn-clash s.holder l (suc t) m 0 n (λ e. zero-apart t (sym e))
acquire-turns w t u l (release m) s d n = turn-clash s.holder l (suc t) m (suc u) n (suc_apart t u d)
acquire-turns w t u l (access i p v g) s d n = tt
acquire-turns w t u l (begin v) s d n = turn-clash s.holder l (suc t) (own w v) 0 n.1 (λ e. zero-apart t (sym e))

-- before a thread gives a lock back no other does anything with it
release-turns : (w : World) (t u : ℕ) (x : Action) (m : ℕ) (s : State) → (t ≡ u → ⊥) → s.begun u ≡ true → Needs w t x s
    → Needs w u (release m) (after w t x s) → Disjoint (turn_of w t x) (turn_of w u (release m))
release-turns w t u (acquire l) m s d b n k = turn-clash s.holder l (suc t) m (suc u) k (suc_apart t u d)
release-turns w t u (release l) m s d b n k = turn-clash s.holder l 0 m (suc u) k (zero-apart u)
release-turns w t u (access i p v g) m s d b n k = tt
release-turns w t u (begin v) m s d b n k =
    turn-clash s.holder (own w v) (suc v) m (suc u) k (suc_apart v u (begun-apart s u v b n.0))

-- ---- two accesses of one location

-- both keep the discipline and one is undisturbed: then both have the guard, or none writes
none-writes : (guard : ℕ) (p g q h : Bool) → T (keeps guard p g) → T (keeps guard q h) → T (undisturbed guard p g) → (g ≡ true → h ≡ true → ⊥)
    → (p ≡ false) × (q ≡ false)
unfolding keeps undisturbed
none-writes zero p g q h k l m n = (not-passes p k, not-passes q l)
none-writes (suc zero) p g q h k l m n = absurd (n (passes g k) (passes h l))
none-writes (suc (suc zero)) true g q h k l m n = absurd m
none-writes (suc (suc zero)) false g true h k l m n = absurd (n (passes g m) (passes h l))
none-writes (suc (suc zero)) false g false h k l m n = (refl, refl)
none-writes (suc (suc (suc zero))) p g q h k l m n = absurd m
none-writes (suc (suc (suc (suc guard)))) p g q h k l m n = absurd m

flag-of : (w : World) (t i : ℕ) (p : Bool) (v : ℕ) (g : Bool) (s : State) → Needs w t (access i p v g) s → g ≡ holds s t (w.guard i)
flag-of w t i true v g s n = n
flag-of w t i false v g s n = n.0

-- two threads do not hold one lock
one-holder : (s : State) (t u l : ℕ) → (t ≡ u → ⊥) → holds s t l ≡ true → holds s u l ≡ true → ⊥
one-holder s t u l d p q = suc_apart t u d (sym (eqb-true (s.holder l) (suc t) p) ∙ eqb-true (s.holder l) (suc u) q)

access-holds : (w : World) (t i : ℕ) (p : Bool) (v : ℕ) (g : Bool) (s : State) (u l : ℕ) → holds (after w t (access i p v g) s) u l ≡ holds s u l
access-holds w t i true v g s u l = refl
access-holds w t i false v g s u l = refl

-- two accesses of one location by two threads, one right after the other, do not both have the guard
not-both : (w : World) (t u i j : ℕ) (p : Bool) (a : ℕ) (g q : Bool) (b : ℕ) (h : Bool) (s : State) → (t ≡ u → ⊥) → Needs w t (access i p a g) s
    → Needs w u (access j q b h) (after w t (access i p a g) s) → i ≡ j → g ≡ true → h ≡ true → ⊥
not-both w t u i j p a g q b h s d n k e gt ht =
    one-holder s t u (w.guard i) d (sym (flag-of w t i p a g s n) ∙ gt)
    (ap (λ (l : ℕ). holds s u (w.guard l)) e ∙ sym (access-holds w t i p a g s u (w.guard j))
    ∙ sym (flag-of w u j q b h (after w t (access i p a g) s) k) ∙ ht)

-- ---- the exchange

module _ (w : World) (guards : ℕ → ℕ) where
  pub record Exchanged (t u : ℕ) (x y : Action) (s : State) : Type 0 where
    pub first : Can w u y s
    pub second : Can w t x (after w u y s)
    pub same : after w t x (after w u y s) ≡ after w u y (after w t x s)

  exchange-apart : (t u : ℕ) (x y : Action) (s : State) → (t ≡ u → ⊥) → Apart w t u x y → s.begun u ≡ true → Can w t x s → Can w u y (after w t x s)
      → Exchanged t u x y s
  exchange-apart t u x y s d a b c k =
      let needs : Needs w u y s
      = needs-back w u y s (after w t x s) (sees-after w t u x y s d b c.needs (apart-sym w t u x y a)) k.needs in
      record {
        first = record { begun = b; needs = needs };
        second =
            record {
              begun = begun_kept w u y s t c.begun;
              needs =
                  needs-there w t x s (after w u y s) (sees-after w u t y x s (λ e. d (sym e)) c.begun needs a) c.needs;
            };
        same = after-swap w t u x y s a;
      }

  -- of two accesses, one of which is undisturbed, none writes if they are of one location
  quiet-first : (t u i : ℕ) (p : Bool) (a : ℕ) (g : Bool) (y : Action) (s : State) → (t ≡ u → ⊥) → T (fair guards (access i p a g)) → T (fair guards y)
      → T (undisturbed (guards i) p g) → Needs w t (access i p a g) s → Needs w u y (after w t (access i p a g) s) → Quiet (access i p a g) y
  quiet-first t u i p a g (acquire l) s d fx fy m n k = tt
  quiet-first t u i p a g (release l) s d fx fy m n k = tt
  quiet-first t u i p a g (access j q b h) s d fx fy m n k = λ e.
      none-writes (guards i) p g q h fx (subst (λ (l : ℕ). T (keeps (guards l) q h)) (sym e) fy) m (not-both w t u i j p a g q b h s d n k e)
  quiet-first t u i p a g (begin v) s d fx fy m n k = tt

  quiet-second : (t u : ℕ) (x : Action) (j : ℕ) (q : Bool) (b : ℕ) (h : Bool) (s : State) → (t ≡ u → ⊥) → T (fair guards x) → T (fair guards (access j q b h))
      → T (undisturbed (guards j) q h) → Needs w t x s → Needs w u (access j q b h) (after w t x s) → Quiet x (access j q b h)
  quiet-second t u (acquire l) j q b h s d fx fy m n k = tt
  quiet-second t u (release l) j q b h s d fx fy m n k = tt
  quiet-second t u (access i p a g) j q b h s d fx fy m n k = λ e.
      let none : (q ≡ false) × (p ≡ false)
      = none-writes (guards j) q h p g fy (subst (λ (l : ℕ). T (keeps (guards l) p g)) e fx) m
      (λ ht gt. not-both w t u i j p a g q b h s d n k e gt ht) in
      (none.1, none.0)
  quiet-second t u (begin v) j q b h s d fx fy m n k = tt

  later-apart : (t u : ℕ) (x y : Action) (s : State) → (t ≡ u → ⊥) → T (fair guards x) → T (fair guards y) → T (moves_later guards x) → Needs w t x s
      → Needs w u y (after w t x s) → Apart w t u x y
  later-apart t u (acquire l) y s d fx fy m n k = record { turns = acquire-turns w t u l y s d k; quiet = tt; starts = tt }
  later-apart t u (release l) y s d fx fy m n k = absurd m
  later-apart t u (access i p a g) y s d fx fy m n k =
      record { turns = tt; quiet = quiet-first t u i p a g y s d fx fy m n k; starts = tt }
  later-apart t u (begin v) y s d fx fy m n k = absurd m

  earlier-apart : (t u : ℕ) (x y : Action) (s : State) → (t ≡ u → ⊥) → T (fair guards x) → T (fair guards y) → T (moves_earlier guards y)
      → s.begun u ≡ true → Needs w t x s → Needs w u y (after w t x s) → Apart w t u x y
  earlier-apart t u x (acquire l) s d fx fy m b n k = absurd m
  earlier-apart t u x (release l) s d fx fy m b n k =
      record {
        turns = release-turns w t u x l s d b n k;
        quiet = quiet-sym (release l) x tt;
        starts = disjoint-sym keep (start_of x) tt;
      }
  earlier-apart t u x (access j q v h) s d fx fy m b n k =
      record {
        turns = disjoint-sym keep (turn_of w t x) tt;
        quiet = quiet-second t u x j q v h s d fx fy m n k;
        starts = disjoint-sym keep (start_of x) tt;
      }
  earlier-apart t u x (begin v) s d fx fy m b n k = absurd m

  -- a step that moves later begins no thread
  later-begun : (t u : ℕ) (x : Action) (s : State) → T (moves_later guards x) → (after w t x s).begun u ≡ true → s.begun u ≡ true
  later-begun t u (acquire l) s m b = b
  later-begun t u (release l) s m b = absurd m
  later-begun t u (access i true v g) s m b = b
  later-begun t u (access i false v g) s m b = b
  later-begun t u (begin v) s m b = absurd m

  pub exchange-later : (t u : ℕ) (x y : Action) (s : State) → (t ≡ u → ⊥) → T (fair guards x) → T (fair guards y) → T (moves_later guards x)
      → Can w t x s → Can w u y (after w t x s) → Exchanged t u x y s
  exchange-later t u x y s d fx fy m c k =
      exchange-apart t u x y s d (later-apart t u x y s d fx fy m c.needs k.needs) (later-begun t u x s m k.begun) c k

  pub exchange-earlier : (t u : ℕ) (x y : Action) (s : State) → (t ≡ u → ⊥) → T (fair guards x) → T (fair guards y) → T (moves_earlier guards y)
      → s.begun u ≡ true → Can w t x s → Can w u y (after w t x s) → Exchanged t u x y s
  exchange-earlier t u x y s d fx fy m b c k =
      exchange-apart t u x y s d (earlier-apart t u x y s d fx fy m b c.needs k.needs) b c k
