-- How many steps are left at a place. A chain's rounds fall from call to call, and an entry and a grade decide the round: so each entry is entered at
-- most once with each grade. The grade stays, but for one step from 3 to 2. Within one visit node numbers fall.
-- Assumes nothing.
use Rattle.std.specs.Prelude.{ℕ, zero, suc, pred, ◌+◌, ◌-◌, ◌*◌, ◌^◌, ◌≤◌, ◌<◌, Bool, true, false, not, cond, ◌≡◌, refl, T, eqb, ltb, length}
use Rattle.std.proofs.Common.{sym, subst, le_refl, mul-le-mul_right, not-suc-le-zero, arith, le-ltb, ltb→lt, lt→ltb}
use Rattle.std.proofs.Math.Path.{ap}
use Rattle.std.proofs.Math.Pow.{pow_mono}
use Rattle.std.proofs.Math.Decide.{ℕ_discrete}
use Rattle.counting.specs.Counting.{total}
use Rattle.counting.specs.Laws.Tests.{cond_yes, cond_no, cond-grows, cond-most}
use Rattle.counting.specs.Laws.Counting.{total-grows}
use Rattle.grades.specs.Grades.{atomic, cmpd}
use Rattle.grades.specs.HeldSets.{entries}
use Rattle.frames.specs.Layout.{layout}
use Rattle.frames.specs.Program.{Program, method_at}
use Rattle.frames.specs.WellFormed.{WellFormed}
use Rattle.meaning.specs.Meaning.{root_of}
use Rattle.meaning.specs.Lowest.{method_count, entry_count, is_declared}
use Rattle.meaning.specs.Constraints.{Entry}
use Rattle.reasons.specs.Steps.{Place, grade_at, first_round, root_place, open_nodes, most_steps}

-- ---- sums

-- a sum of which each part is at most c
total-most : (n c : ℕ) (f : ℕ → ℕ) → ((i : ℕ) → i < n → f i ≤ c) → total n f ≤ n * c
total-most zero c f h = omega arith
total-most (suc n) c f h = omega (arith, h n (le_refl (suc n)), total-most n c f (λ i l. h i (omega arith)))

-- a sum no part of which falls, and one gains c
total-gains : (n c : ℕ) (f g : ℕ → ℕ) → ((i : ℕ) → i < n → f i ≤ g i) → (i : ℕ) → i < n → c + f i ≤ g i → c + total n f ≤ total n g
total-gains zero c f g h i l s = absurd (not-suc-le-zero l)
total-gains (suc n) c f g h i l s =
    go (ℕ_discrete i n) (λ k. total-gains n c f g (λ j q. h j (omega arith)) i k s) (total-grows n f g (λ j q. h j (omega arith))) (h n (le_refl (suc n)))
  where
    go : Dec (i ≡ n) → (i < n → c + total n f ≤ total n g) → total n f ≤ total n g → f n ≤ g n → c + total (suc n) f ≤ total (suc n) g
    go (yes e) ih q r = omega (arith, subst (λ (j : ℕ). c + f j ≤ g j) e s)
    go (no m) ih q r = omega (arith, ih (omega arith))

-- ---- the visits ahead

-- the nodes of an entry that got grade g before round r
unfoldable pub nodes_ahead : Program → (g r m S : ℕ) → ℕ
nodes_ahead p g r m S = cond (ltb (first_round p m S g) r) (length (method_at p m).nodes) 0

-- the nodes of all undeclared entries that got grade g before round r
unfoldable pub ahead : Program → (g r : ℕ) → ℕ
ahead p g r = total (method_count p) (λ m. cond (is_declared p m) 0 (total (entry_count p m) (nodes_ahead p g r m)))

-- what got the grade before a round got it before each later one
ahead-grows : (x r r' n : ℕ) → r ≤ r' → cond (ltb x r) n 0 ≤ cond (ltb x r') n 0
ahead-grows x r r' n h =
    cond-most (ltb x r) _ _ _ (λ t. omega (arith, cond_yes (ltb x r') n 0 (lt→ltb x r' (omega (arith, ltb→lt x r t))))) (λ t. omega arith)

ahead-gains : (x r n : ℕ) → x < r → n + cond (ltb x x) n 0 ≤ cond (ltb x r) n 0
ahead-gains x r n h =
    omega (
      arith,
      cond_yes (ltb x r) n 0 (lt→ltb x r h),
      cond_no (ltb x x) n 0 (subst (λ (b : Bool). T (not b)) (sym (le-ltb x x (le_refl x))) tt),
    )

pub ahead-open : (p : Program) (g r : ℕ) → ahead p g r ≤ open_nodes p
unfolding ahead open_nodes nodes_ahead
ahead-open p g r =
    total-grows (method_count p) _ _
    (λ m l. cond-grows (is_declared p m) _ _ _ _ (le_refl 0)
    (total-most (entry_count p m) (length (method_at p m).nodes) _ (λ S k. cond-most (ltb (first_round p m S g) r) _ _ _ (λ t. le_refl _) (λ t. omega arith))))

-- to enter an entry takes its nodes off what is ahead
pub ahead-enters : (p : Program) (g r m S : ℕ) → Entry p m S → T (not (is_declared p m)) → first_round p m S g < r
    → length (method_at p m).nodes + ahead p g (first_round p m S g) ≤ ahead p g r
unfolding ahead
ahead-enters p g r m S e u h =
    total-gains (method_count p) (length (method_at p m).nodes) _ _
    (λ i l. cond-grows (is_declared p i) _ _ _ _ (le_refl 0) (total-grows (entry_count p i) _ _ (λ F k. sooner i F)))
    m e.method
    (gains (is_declared p m) u (length (method_at p m).nodes) _ _
    (total-gains (entry_count p m) (length (method_at p m).nodes) _ _ (λ F k. sooner m F) S e.set this))
  where
    sooner : (i F : ℕ) → nodes_ahead p g (first_round p m S g) i F ≤ nodes_ahead p g r i F
    sooner i F = unfold nodes_ahead in ahead-grows (first_round p i F g) (first_round p m S g) r _ (omega arith)

    this : length (method_at p m).nodes + nodes_ahead p g (first_round p m S g) m S ≤ nodes_ahead p g r m S
    this = unfold nodes_ahead in ahead-gains (first_round p m S g) r _ h

    gains : (d : Bool) → T (not d) → (c x y : ℕ) → c + x ≤ y → c + cond d 0 x ≤ cond d 0 y
    gains true t c x y k = absurd t
    gains false t c x y k = k

-- ---- the steps left

-- a chain of grade 3 may go on with 2, once
unfoldable pub spare : Program → (g : ℕ) → ℕ
spare p g = cond (eqb g cmpd) (open_nodes p) 0

-- at node n, of grade g, in round r
abbrev pub left_at : Program → (n g r : ℕ) → ℕ
left_at p n g r = suc n + (ahead p g r + spare p g)

unfoldable pub steps_left : Program → Place → ℕ
steps_left p at = left_at p at.node (grade_at p at) at.round

pub spare-open : (p : Program) (g : ℕ) → spare p g ≤ open_nodes p
unfolding spare
spare-open p g = cond-most (eqb g cmpd) _ _ _ (λ t. le_refl _) (λ t. omega arith)

pub spare-cmpd : (p : Program) → spare p cmpd ≡ open_nodes p
unfolding spare
spare-cmpd p = refl

pub spare-atomic : (p : Program) → spare p atomic ≡ 0
unfolding spare
spare-atomic p = refl

-- "more steps than any chain from a place has"
pub most-steps : (p : Program) (at : Place) → steps_left p at ≤ most_steps p at
unfolding steps_left most_steps
most-steps p at = omega (arith, ahead-open p (grade_at p at) at.round, spare-open p (grade_at p at))

-- from a root in the round at which its entry got the grade
pub most-from-root : (p : Program) (m H g : ℕ) → Entry p m H → T (not (is_declared p m)) → 1 ≤ length (method_at p m).nodes
    → grade_at p (root_place p m H g) ≡ g → steps_left p (root_place p m H g) ≤ 2 * open_nodes p
unfolding steps_left root_place root_of
most-from-root p m H g e u n s =
    subst (λ (x : ℕ). left_at p (pred (length (method_at p m).nodes)) x (first_round p m H g) ≤ 2 * open_nodes p) (sym s)
    (omega (
      arith,
      ahead-enters p g (suc (first_round p m H g)) m H e u (le_refl _),
      ahead-open p g (suc (first_round p m H g)),
      spare-open p g,
    ))

-- ---- in a program that a text gives

-- a sum over 0 and more, of which the part at 0 is at most another's, and each later one at most 16 times another's
sixteenfold : (n : ℕ) (f g : ℕ → ℕ) → f 0 ≤ g 0 → ((i : ℕ) → i < suc n → f i ≤ 16 * g i) → total (suc n) f + 15 * g 0 ≤ 16 * total (suc n) g
sixteenfold zero f g h k = omega arith
sixteenfold (suc n) f g h k = omega (arith, k (suc n) (le_refl _), sixteenfold n f g h (λ i l. k i (omega arith)))

-- 1,024 nodes, of which main, with one entry, has one at least; other methods have 16 entries at most
pub few-open : (p : Program) → WellFormed p → open_nodes p ≤ layout.grades * (layout.most_nodes - 1) + 1
unfolding open_nodes method_count
few-open p w = go (length p.methods) refl
  where
    nodes : ℕ → ℕ
    nodes m = length (method_at p m).nodes

    open-nodes : ℕ → ℕ
    open-nodes m = cond (is_declared p m) 0 (entry_count p m * length (method_at p m).nodes)

    most : (m : ℕ) → m < length p.methods → open-nodes m ≤ 16 * nodes m
    most m l =
        cond-most (is_declared p m) _ _ _ (λ t. omega arith)
        (λ t. mul-le-mul_right (nodes m) (unfold entry_count entries in pow_mono (w.methods m l).names))

    main : 0 < length p.methods → open-nodes 0 ≤ nodes 0
    main l =
        cond-most (is_declared p 0) _ _ _ (λ t. omega arith)
        (λ t. subst (λ (k : ℕ). k * nodes 0 ≤ nodes 0) (sym one) (omega arith))
      where
        one : entry_count p 0 ≡ 1
        one = unfold entry_count entries in ap (λ (k : ℕ). 2 ^ k) ((w.methods 0 l).main refl)

    go : (n : ℕ) → length p.methods ≡ n → total n open-nodes ≤ layout.grades * (layout.most_nodes - 1) + 1
    go zero e = omega arith
    go (suc n) e =
        let some : 0 < length p.methods = omega arith in
        let few : total (suc n) nodes ≤ 1024 = subst (λ (c : ℕ). total c nodes ≤ 1024) e w.few_nodes in
        omega (arith, sixteenfold n open-nodes nodes (main some) (λ i l. most i (omega arith)), (w.methods 0 some).some_nodes)
