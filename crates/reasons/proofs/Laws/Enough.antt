-- A chain carries its grade up: `Enough` says it.
-- Assumes nothing.
use Rattle.std.specs.Prelude.{ℕ, ◌+◌, ◌≤◌, ◌<◌, not, ◌⊎◌, ◌≡◌, refl, T}
use mathlib.Core.List.{List, [], ◌∷◌, ◌++◌}
use Rattle.std.proofs.Common.{inl, inr, sym, le_trans, arith}
use Rattle.std.proofs.Math.Path.{subst}
use Rattle.std.proofs.Math.Decide.{dec_lt}
use Rattle.counting.specs.Counting.{member, All}
use Rattle.counting.specs.Laws.Counting.{all_left, all_right, all_append}
use Rattle.grades.specs.Grades.{atomic, cmpd, error}
use Rattle.grades.proofs.Laws.Grades.{cap-grade, cap-grows}
use Rattle.frames.specs.Program.{Program, method_at}
use Rattle.frames.specs.WellFormed.{WellFormed}
use Rattle.meaning.specs.Meaning.{Assignment, root_of, root_table}
use Rattle.meaning.specs.Lowest.{is_declared, declared_table, lowest}
use Rattle.meaning.specs.Constraints.{Entry}
use Rattle.meaning.proofs.Laws.Meaning.{meaning-error}
use Rattle.reasons.specs.Steps.{Step, Place, node_here, grade_at, root_place, first_place, callee_place, Next, ends, goes_on, Turn, turn_at, step_at, Chain, last, on, reason, body_place}
use Rattle.reasons.specs.Reason.{Accounts, equal, twice, First, Linked, child, callee, child_of_two, callee_of_two, ends_chain}
use Rattle.reasons.specs.Enough.{grade_in, child_grade_in, AboveEntry, AboveDeclared, MeetsEntered, NoEight, Whole, Enough, behind_first, EnoughBody, AllEnough}
use Rattle.reasons.proofs.Laws.Rises.{first-grade}
use Rattle.reasons.proofs.Laws.Turns.{PlaceFits, grade_under, child_place, set_called, Called, TurnIs, plain, to_child, to_callee, at_access, at_fork, at_lock, at_assert, at_declared, turn_is}
use Rattle.reasons.proofs.Laws.Ends.{callee-grade, declared-entry, Ending, Moves, moves-at, onward}
use Rattle.reasons.proofs.Laws.Reason.{first_fits, reason-is, body-fits, body-grade, body_is}

grade-error : (p : Program) (at : Place) → grade_at p at ≤ error
unfolding grade_at
grade-error p at = meaning-error p _ _ _ _

-- a rule that counts 8 in is not below 8
no-eight : (rule : ℕ) {whole part added : ℕ} → rule + added < 8 → Accounts whole part added → part ≡ whole
no-eight rule h (equal e) = e
no-eight rule h (twice d e) = absurd (omega arith)

-- ---- one step

-- what carries a step's grade up, in tables b: at the end, the declared entry, if it ends at one; else the next step's grade, and the callee's constraint
abbrev CarriesUp : Program → Assignment → Place → (rule : ℕ) → Next → Type 0
CarriesUp p b at rule ends =
    (rule ≡ 6 → ⊥) → (rule ≡ 7 → declared_table p (node_here p at).U (set_called p at (grade_at p at)) ≤ b (node_here p at).U (set_called p at (grade_at p at)))
    → grade_at p at ≤ grade_under p b at
CarriesUp p b at rule (goes_on to) =
    grade_at p to ≤ grade_under p b to → (to.node ≡ root_of (method_at p to.method) → root_table p b to.method to.set ≤ b to.method to.set)
    → grade_at p at ≤ grade_under p b at

-- an entry that is not below the grade
entry-carries : (p : Program) (b : Assignment) (at : Place) (g : ℕ) → Called p at g → g ≡ grade_at p at → g ≤ b (node_here p at).U (set_called p at g)
    → grade_at p at ≤ grade_under p b at
entry-carries p b at g c e h = omega (arith, cap-grows _ _ h, cap-grade g (subst (λ (x : ℕ). x ≤ error) (sym e) (grade-error p at)), c.carries b)

carries-up : (p : Program) (w : WellFormed p) (b : Assignment) (at : Place) (f : PlaceFits p at) (t : Turn) → TurnIs p at t → t.rule < 8 → CarriesUp p b at t.rule t.next
carries-up p w b at f t (plain o e) l = λ a d. omega (arith, e)
carries-up p w b at f t (to_child n S added k s up x) l = λ h m. omega (arith, up b, no-eight 1 l x)
carries-up p w b at f t (to_callee g added o u c x) l = λ h m.
    entry-carries p b at g c (no-eight 2 l x)
    (subst (λ (y : ℕ). y ≤ b (node_here p at).U (set_called p at g)) (callee-grade p w at f g u c) (le_trans h (unfold callee_place root_place root_table in m refl)))
carries-up p w b at f t (at_access writing added o up x) l = λ a d. omega (arith, up b, no-eight 3 l x)
carries-up p w b at f t (at_fork added o up x) l = λ a d. omega (arith, up b, no-eight 4 l x)
carries-up p w b at f t (at_lock o h k up e) l = λ a d. omega (arith, up b)
carries-up p w b at f t (at_assert o s up e) l = λ a d. absurd (a refl)
carries-up p w b at f t (at_declared g added o d c x) l = λ a h.
    let same : g ≡ grade_at p at = no-eight 7 l x in
    entry-carries p b at g c same
    (subst (λ (y : ℕ). y ≤ b (node_here p at).U (set_called p at g)) (declared-entry p at g d c)
    (subst (λ (y : ℕ). declared_table p (node_here p at).U (set_called p at y) ≤ b (node_here p at).U (set_called p at y)) (sym same) (h (omega arith))))

carries-at : (p : Program) → WellFormed p → (b : Assignment) (at : Place) → PlaceFits p at → (turn_at p at).rule < 8
    → CarriesUp p b at (turn_at p at).rule (turn_at p at).next
carries-at p w b at f l = carries-up p w b at f (turn_at p at) (turn_is p w at f) l

-- ---- the whole chain

-- the first step's constraint, of a chain
entered : (p : Program) (b : Assignment) {at : Place} {steps : List Step} → Chain p at steps → All (MeetsEntered p b) steps
    → at.node ≡ root_of (method_at p at.method) → root_table p b at.method at.set ≤ b at.method at.set
unfolding step_at
entered p b (last at e) h = h.0
entered p b (on at to steps e c) h = h.0

pub chain-carries : (p : Program) → WellFormed p → (b : Assignment) {at : Place} {steps : List Step} → Chain p at steps → PlaceFits p at
    → Whole steps → All (AboveDeclared p b) steps → All (MeetsEntered p b) (behind_first steps) → grade_at p at ≤ grade_under p b at
unfolding step_at node_here
chain-carries p w b (last at e) f h d m =
    let up : CarriesUp p b at (turn_at p at).rule ends = subst (CarriesUp p b at (turn_at p at).rule) e (carries-at p w b at f h.no_eight.0) in
    up h.no_assert.0 d.0
chain-carries p w b (on at to steps e c) f h d m =
    let next = onward p w at to f e in
    let up : CarriesUp p b at (turn_at p at).rule (goes_on to) = subst (CarriesUp p b at (turn_at p at).rule) e (carries-at p w b at f h.no_eight.0) in
    up (chain-carries p w b c next.fits (record { no_eight = h.no_eight.1; no_assert = h.no_assert.1 }) d.1 (later c m)) (entered p b c m)
  where
    later : {at : Place} {steps : List Step} → Chain p at steps → All (MeetsEntered p b) steps → All (MeetsEntered p b) (behind_first steps)
    later (last at e) k = k.1
    later (on at to steps e c) k = k.1

-- ---- grades up to 2

-- where 8 is added the whole is 3, and at an assert that turned 3 into 4 it is 4
abbrev LowRule : Program → Place → (rule : ℕ) → Next → Type 0
LowRule p at rule ends = (rule < 8) × (rule ≡ 6 → ⊥)
LowRule p at rule (goes_on to) = (rule < 8) × (rule ≡ 6 → ⊥) × (grade_at p to ≤ atomic)

low-equal : {whole part added : ℕ} → whole ≤ atomic → Accounts whole part added → (added ≡ 0) × (part ≤ atomic)
low-equal h (equal e) = (refl, omega arith)
low-equal h (twice d e) = absurd (omega arith)

low-rule : (p : Program) (w : WellFormed p) (at : Place) (f : PlaceFits p at) → grade_at p at ≤ atomic → (t : Turn) → TurnIs p at t → LowRule p at t.rule t.next
low-rule p w at f h t (plain o e) = (omega arith, λ a. omega arith)
low-rule p w at f h t (to_child n S added k s up x) =
    let y = low-equal h x in
    (omega (arith, y.0), λ a. omega (arith, y.0), y.1)
low-rule p w at f h t (to_callee g added o u c x) =
    let y = low-equal h x in
    (omega (arith, y.0), λ a. omega (arith, y.0), omega (arith, y.1, callee-grade p w at f g u c))
low-rule p w at f h t (at_access writing added o up x) = let y = low-equal h x in (omega (arith, y.0), λ a. omega (arith, y.0))
low-rule p w at f h t (at_fork added o up x) = let y = low-equal h x in (omega (arith, y.0), λ a. omega (arith, y.0))
low-rule p w at f h t (at_lock o q k up e) = (omega arith, λ a. omega arith)
low-rule p w at f h t (at_assert o s up e) = absurd (omega (arith, e))
low-rule p w at f h t (at_declared g added o d c x) = let y = low-equal h x in (omega (arith, y.0), λ a. omega (arith, y.0))

pub low-whole : (p : Program) → WellFormed p → {at : Place} {steps : List Step} → Chain p at steps → PlaceFits p at → grade_at p at ≤ atomic → Whole steps
unfolding step_at
low-whole p w (last at e) f h =
    let low : LowRule p at (turn_at p at).rule ends = subst (LowRule p at (turn_at p at).rule) e (low-rule p w at f h (turn_at p at) (turn_is p w at f)) in
    record { no_eight = (low.0, tt); no_assert = (low.1, tt) }
low-whole p w (on at to steps e c) f h =
    let low : LowRule p at (turn_at p at).rule (goes_on to) = subst (LowRule p at (turn_at p at).rule) e (low-rule p w at f h (turn_at p at) (turn_is p w at f)) in
    let next = onward p w at to f e in
    let rest = low-whole p w c next.fits low.2 in
    record { no_eight = (low.0, rest.no_eight); no_assert = (low.1, rest.no_assert) }

-- ---- a chain taken apart

head_of : (p : Program) {at : Place} {t : Step} {steps : List Step} → Chain p at (t ∷ steps) → t ≡ step_at p at
head_of p (last at e) = refl
head_of p (on at to steps e c) = refl

-- where the steps behind the first start
record Behind (p : Program) (at : Place) (steps : List Step) : Type 0 where
  to : Place
  next : (turn_at p at).next ≡ goes_on to
  chain : Chain p to steps

behind-of : (p : Program) {at : Place} {t u : Step} {steps : List Step} → Chain p at (t ∷ u ∷ steps) → Behind p at (u ∷ steps)
behind-of p (on at to steps e c) = record { to = to; next = e; chain = c }

-- the place at which a step stands
record StandsAt (p : Program) (s : Step) (steps : List Step) : Type 0 where
  at : Place
  fits : PlaceFits p at
  chain : Chain p at (s ∷ steps)

module _ (p : Program) (w : WellFormed p) where
  stands : (before : List Step) {behind : List Step} {s : Step} {at : Place} → Chain p at (before ++ (s ∷ behind)) → PlaceFits p at → StandsAt p s behind
  stands [] {at = at} c f = record { at = at; fits = f; chain = c }
  stands (t ∷ []) {at = at} c f = let b = behind-of p c in record { at = b.to; fits = (onward p w at b.to f b.next).fits; chain = b.chain }
  stands (t ∷ u ∷ before) {at = at} c f = let b = behind-of p c in stands (u ∷ before) b.chain (onward p w at b.to f b.next).fits

  module _ (b : Assignment) where
    -- a step whose next step carries its grade
    carries-step : {at : Place} {t u : Step} {steps : List Step} → Chain p at (t ∷ u ∷ steps) → PlaceFits p at → t.rule < 8 → MeetsEntered p b u
        → ((to : Place) → Chain p to (u ∷ steps) → PlaceFits p to → grade_at p to ≤ grade_under p b to) → grade_at p at ≤ grade_under p b at
    unfolding step_at
    carries-step {at = at} {u = u} c f l m ih =
        let next = behind-of p c in
        let fits = (onward p w at next.to f next.next).fits in
        let rule : (turn_at p at).rule < 8 = subst (λ (x : Step). x.rule < 8) (head_of p c) l in
        let up : CarriesUp p b at (turn_at p at).rule (goes_on next.to) = subst (CarriesUp p b at (turn_at p at).rule) next.next (carries-at p w b at f rule) in
        up (ih next.to next.chain fits) (subst (MeetsEntered p b) (head_of p next.chain) m)

    carries-from : (before behind : List Step) (s : Step) {at : Place} → Chain p at (before ++ (s ∷ behind)) → PlaceFits p at → NoEight before
        → All (MeetsEntered p b) (behind_first (before ++ (s ∷ []))) → s.grade ≤ grade_in p b s → grade_at p at ≤ grade_under p b at
    unfolding step_at
    carries-from [] behind s c f l m h = subst (λ (x : Step). x.grade ≤ grade_in p b x) (head_of p c) h
    carries-from (t ∷ []) behind s c f l m h = carries-step c f l.0 m.0 (λ to d g. carries-from [] behind s d g tt tt h)
    carries-from (t ∷ u ∷ before) behind s c f l m h = carries-step c f l.0 m.0 (λ to d g. carries-from (u ∷ before) behind s d g l.1 m.1 h)

    -- the constraint of the first step, and those of the others
    first-met : (before behind : List Step) (s : Step) {at : Place} → Chain p at (before ++ (s ∷ behind)) → All (MeetsEntered p b) (before ++ (s ∷ []))
        → at.node ≡ root_of (method_at p at.method) → root_table p b at.method at.set ≤ b at.method at.set
    unfolding step_at
    first-met [] behind s c m = subst (MeetsEntered p b) (head_of p c) m.0
    first-met (t ∷ before) behind s c m = subst (MeetsEntered p b) (head_of p c) m.0

    others-met : (steps : List Step) → All (MeetsEntered p b) steps → All (MeetsEntered p b) (behind_first steps)
    others-met [] m = tt
    others-met (s ∷ steps) m = m.1

-- ---- behind an 8

-- a linked step whose rule counts 8 in is 3, and the next one 2
next-atomic : {s t : Step} → Linked s t → 8 ≤ s.rule → t.grade ≡ atomic
next-atomic (child r e i) h = absurd (omega arith)
next-atomic (callee r e i) h = absurd (omega arith)
next-atomic (child_of_two r d e i) h = e
next-atomic (callee_of_two r d e i) h = e

to-atomic : (p : Program) → WellFormed p → (at to : Place) → PlaceFits p at → (turn_at p at).next ≡ goes_on to → 8 ≤ (turn_at p at).rule → grade_at p to ≡ atomic
to-atomic p w at to f e h = next-atomic ((onward p w at to f e).linked 0) h

-- neither 9 nor 10 ends a chain
never-last : (rule : ℕ) → T (ends_chain rule) → (rule ≡ 9) ⊎ (rule ≡ 10) → ⊥
unfolding ends_chain member
never-last rule t (inl e) = subst (λ (r : ℕ). T (ends_chain r)) e t
never-last rule t (inr e) = subst (λ (r : ℕ). T (ends_chain r)) e t

at-least-eight : (rule : ℕ) → (rule ≡ 9) ⊎ (rule ≡ 10) → 8 ≤ rule
at-least-eight rule (inl e) = omega arith
at-least-eight rule (inr e) = omega arith

first-of-two : (p : Program) (b : Assignment) {to : Place} {steps : List Step} → Chain p to steps → grade_at p to ≡ atomic → atomic ≤ grade_under p b to
    → First (λ t. (t.grade ≡ atomic) × (atomic ≤ grade_in p b t)) steps
unfolding step_at
first-of-two p b (last at e) h k = (h, k)
first-of-two p b (on at to steps e c) h k = (h, k)

behind-eight : (p : Program) → WellFormed p → {at : Place} {s : Step} {steps : List Step} → Chain p at (s ∷ steps) → PlaceFits p at → (s.rule ≡ 9) ⊎ (s.rule ≡ 10)
    → Whole steps × ((b : Assignment) → All (AboveDeclared p b) steps → All (MeetsEntered p b) steps → First (λ t. (t.grade ≡ atomic) × (atomic ≤ grade_in p b t)) steps)
unfolding step_at
behind-eight p w (last at e) f r =
    let end : Ending p at (turn_at p at).rule = subst (Moves p at (turn_at p at).rule) e (moves-at p w at f) in
    absurd (never-last (turn_at p at).rule end.ends r)
behind-eight p w (on at to steps e c) f r =
    let fits = (onward p w at to f e).fits in
    let two = to-atomic p w at to f e (at-least-eight (turn_at p at).rule r) in
    let whole = low-whole p w c fits (omega (arith, two)) in
    (whole, λ b d m. first-of-two p b c two (subst (λ (x : ℕ). x ≤ grade_under p b to) two (chain-carries p w b c fits whole d (others-met p w b steps m))))

-- an 8 at the last step
abbrev OwnOfTwo : Program → Assignment → Place → (rule : ℕ) → Next → Type 0
OwnOfTwo p b at rule ends =
    8 ≤ rule → (rule ≡ 15 → declared_table p (node_here p at).U (set_called p at atomic) ≤ b (node_here p at).U (set_called p at atomic))
    → (grade_at p at ≡ cmpd) × (atomic ≤ grade_under p b at)
OwnOfTwo p b at rule (goes_on to) = Unit {0}

-- a rule below 8 with 8 counted in
counts-eight : (rule : ℕ) {whole part added : ℕ} → rule < 8 → 8 ≤ rule + added → Accounts whole part added → (added ≡ 8) × (whole ≡ cmpd) × (part ≡ atomic)
counts-eight rule l h (equal e) = absurd (omega arith)
counts-eight rule l h (twice d e) = (refl, d, e)

own-of-two : (p : Program) (b : Assignment) (at : Place) (t : Turn) → TurnIs p at t → OwnOfTwo p b at t.rule t.next
own-of-two p b at t (plain o e) = λ h a. absurd (omega arith)
own-of-two p b at t (to_child n S added k s up x) = tt
own-of-two p b at t (to_callee g added o u c x) = tt
own-of-two p b at t (at_access writing added o up x) = λ h a. let y = counts-eight 3 (omega arith) h x in (y.1, omega (arith, y.2, up b))
own-of-two p b at t (at_fork added o up x) = λ h a. let y = counts-eight 4 (omega arith) h x in (y.1, up b)
own-of-two p b at t (at_lock o q k up e) = λ h a. absurd (omega arith)
own-of-two p b at t (at_assert o s up e) = λ h a. absurd (omega arith)
own-of-two p b at t (at_declared g added o d c x) = λ h a.
    let y = counts-eight 7 (omega arith) h x in
    let two : Called p at atomic = subst (Called p at) y.2 c in
    let above : atomic ≤ b (node_here p at).U (set_called p at atomic) =
    subst (λ (n : ℕ). n ≤ b (node_here p at).U (set_called p at atomic)) (declared-entry p at atomic d two) (a (omega (arith, y.0))) in
    (y.1, omega (arith, cap-grows _ _ above, cap-grade atomic (omega arith), two.carries b))

never-empty : (p : Program) {at : Place} → Chain p at [] → ⊥
never-empty p c = elim c [ ]

own-step : (p : Program) → WellFormed p → (b : Assignment) {at : Place} {s : Step} → Chain p at (s ∷ []) → PlaceFits p at → 8 ≤ s.rule
    → (s.rule ≡ 15 → AboveEntry p b s atomic) → (s.grade ≡ cmpd) × (atomic ≤ grade_in p b s)
unfolding step_at node_here
own-step p w b (last at e) f h a =
    let own : OwnOfTwo p b at (turn_at p at).rule ends = subst (OwnOfTwo p b at (turn_at p at).rule) e (own-of-two p b at (turn_at p at) (turn_is p w at f)) in
    own h a
own-step p w b (on at to steps e c) f h a = absurd (never-empty p c)

-- ---- at an assert

not-six : (rule : ℕ) {whole part added : ℕ} → (rule + 0 ≡ 6 → ⊥) → (rule + 8 ≡ 6 → ⊥) → Accounts whole part added → rule + added ≡ 6 → ⊥
not-six rule h k (equal e) = h
not-six rule h k (twice d e) = k

assert-up : (p : Program) (at : Place) (t : Turn) → TurnIs p at t → t.rule ≡ 6 → (b : Assignment)
    → cmpd ≤ grade_under p b (child_place at (node_here p at).X at.set) → error ≤ grade_under p b at
assert-up p at t (plain o e) six b h = absurd (omega arith)
assert-up p at t (to_child n S added k s up x) six b h = absurd (not-six 1 (λ q. omega arith) (λ q. omega arith) x six)
assert-up p at t (to_callee g added o u c x) six b h = absurd (not-six 2 (λ q. omega arith) (λ q. omega arith) x six)
assert-up p at t (at_access writing added o up x) six b h = absurd (not-six 3 (λ q. omega arith) (λ q. omega arith) x six)
assert-up p at t (at_fork added o up x) six b h = absurd (not-six 4 (λ q. omega arith) (λ q. omega arith) x six)
assert-up p at t (at_lock o q k up e) six b h = absurd (omega arith)
assert-up p at t (at_assert o s up e) six b h = up b h
assert-up p at t (at_declared g added o d c x) six b h = absurd (not-six 7 (λ q. omega arith) (λ q. omega arith) x six)

assert-step : (p : Program) → WellFormed p → {at : Place} {s : Step} {steps : List Step} → Chain p at (s ∷ steps) → PlaceFits p at → s.rule ≡ 6
    → (b : Assignment) → cmpd ≤ child_grade_in p b s → s.grade ≤ grade_in p b s
unfolding step_at node_here
assert-step p w (last at e) f six b h = le_trans (grade-error p at) (assert-up p at (turn_at p at) (turn_is p w at f) six b h)
assert-step p w (on at to steps e c) f six b h = le_trans (grade-error p at) (assert-up p at (turn_at p at) (turn_is p w at f) six b h)

-- no 8 comes before an assert: the grades behind an 8 are 2
below-eight : (p : Program) → WellFormed p → {at : Place} {t u : Step} {steps : List Step} → Chain p at (t ∷ u ∷ steps) → PlaceFits p at
    → (All (λ s. s.rule ≡ 6 → ⊥) (u ∷ steps) → ⊥) → t.rule < 8
unfolding step_at
below-eight p w {at} {t} c f h = go (dec_lt t.rule 8)
  where
    go : Dec (t.rule < 8) → t.rule < 8
    go (yes l) = l
    go (no l) =
        let next = behind-of p c in
        let eight : 8 ≤ t.rule = omega arith in
        let two = to-atomic p w at next.to f next.next (subst (λ (x : Step). 8 ≤ x.rule) (head_of p c) eight) in
        absurd (h (low-whole p w next.chain (onward p w at next.to f next.next).fits (omega (arith, two))).no_assert)

eight-before : (p : Program) (w : WellFormed p) (before behind : List Step) (s : Step) {at : Place} → Chain p at (before ++ (s ∷ behind)) → PlaceFits p at → s.rule ≡ 6 → NoEight before
eight-before p w [] behind s c f six = tt
eight-before p w (t ∷ []) behind s c f six = (below-eight p w c f (λ a. a.0 six), tt)
eight-before p w (t ∷ u ∷ before) behind s {at} c f six =
    let next = behind-of p c in (
      below-eight p w c f (λ a. (all_right (λ x. x.rule ≡ 6 → ⊥) (u ∷ before) (s ∷ behind) a).0 six),
      eight-before p w (u ∷ before) behind s next.chain (onward p w at next.to f next.next).fits six,
    )

-- ---- the reason of an undeclared entry

module _ (p : Program) (w : WellFormed p) (m H : ℕ) (e : Entry p m H) (u : T (not (is_declared p m))) where
  permitted : Chain p (first_place p m H) (reason p m H)
  permitted = (reason-is p w m H e u).chain.permitted

  -- the entry asked for is not below its root
  asked : (b : Assignment) → grade_at p (first_place p m H) ≤ grade_under p b (first_place p m H)
      → ((first_place p m H).node ≡ root_of (method_at p (first_place p m H).method)
      → root_table p b (first_place p m H).method (first_place p m H).set ≤ b (first_place p m H).method (first_place p m H).set)
      → lowest p m H ≤ b m H
  unfolding first_place root_place root_table
  asked b h k = subst (λ (x : ℕ). x ≤ b m H) (unfold first_place root_place in first-grade p m H e u) (le_trans h (k refl))

  pub enough-is : Enough p m H
  enough-is =
      record {
        enough = λ h b d k.
            asked b (chain-carries p w b permitted fits h d (others-met p w b (reason p m H) k)) (entered p b permitted k);
        low = λ l. low-whole p w permitted fits (omega (arith, first-grade p m H e u));
        carried = λ before behind s q l b k h.
            let c = subst (Chain p (first_place p m H)) q permitted in
            asked b (carries-from p w b before behind s c fits l (others-met p w b (before ++ (s ∷ [])) k) h) (first-met p w b before behind s c k);
        behind = λ before behind s q r.
            let at = stands p w before (subst (Chain p (first_place p m H)) q permitted) fits in
            behind-eight p w at.chain at.fits r;
        own = λ before s q h b a.
            let at = stands p w before (subst (Chain p (first_place p m H)) q permitted) fits in
            own-step p w b at.chain at.fits h a;
        asserts = λ before behind s q six b k h.
            let c = subst (Chain p (first_place p m H)) q permitted in
            let at = stands p w before c fits in
            let met = up_to (MeetsEntered p b) before behind s (subst (All (MeetsEntered p b)) q k) in
            asked b
            (carries-from p w b before behind s c fits (eight-before p w before behind s c fits six) (others-met p w b (before ++ (s ∷ [])) met)
            (assert-step p w at.chain at.fits six b h))
            (first-met p w b before behind s c met);
      }
    where
      fits : PlaceFits p (first_place p m H)
      fits = first_fits p w m H e

      up_to : (P : Step → Type 0) (before behind : List Step) (s : Step) → All P (before ++ (s ∷ behind)) → All P (before ++ (s ∷ []))
      up_to P before behind s k =
          all_append P before (s ∷ []) (all_left P before (s ∷ behind) k) ((all_right P before (s ∷ behind) k).0, tt)

-- ---- and of a body

pub enough-body : (p : Program) → WellFormed p → (m H : ℕ) → Entry p m H → EnoughBody p m H
enough-body p w m H e =
    record {
      enough = λ h b d k.
          subst (λ (x : ℕ). x ≤ root_table p b m H) (body-grade p m H)
          (unfold body_place root_table in chain-carries p w b (body_is p w m H e).chain.permitted (body-fits p w m H e) h d k);
    }

pub all-enough : (p : Program) → WellFormed p → AllEnough p
all-enough p w = record { undeclared = enough-is p w; bodies = enough-body p w }
