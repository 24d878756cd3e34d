-- A step that goes on goes on to a place again, with fewer steps left: so a chain ends, and there is one.
-- Assumes nothing.
use Prim.Native.Nat.{ℕ, zero, suc, pred, ◌+◌, ◌≤◌, ◌<◌}
use Rattle.std.specs.Prelude.{Bool, not, List, ◌∷◌, ◌≡◌, refl, T}
use Rattle.std.proofs.Common.{sym, ap, ◌∙◌, subst}
use native.Mathlib.Omega.{arith}
use Rattle.std.proofs.Math.ListN.{length}
use Rattle.counting.specs.Counting.{member, All}
use Rattle.grades.specs.Grades.{atomic, cmpd}
use Rattle.frames.specs.Program.{Method, Program, method_at}
use Rattle.frames.specs.WellFormed.{WellFormed}
use Rattle.meaning.specs.Meaning.{root_of}
use Rattle.meaning.specs.Lowest.{method_count, is_declared, declared_table}
use Rattle.meaning.specs.Constraints.{Entry}
use Rattle.reasons.specs.Steps.{Step, Place, tables_before, node_here, grade_at, root_place, callee_place, Next, ends, goes_on, Turn, turn_at, step_at, Chain, last, on, later, steps_from, most_steps, chain_from}
use Rattle.reasons.specs.Reason
use Rattle.reasons.specs.Reason.{Accounts, equal, twice, StepFits, GradeIs, Linked, child, callee, child_of_two, callee_of_two, AllLinked, Last, EndIs, ends_chain, occurs, ChainIs}
use Rattle.reasons.proofs.Laws.Rises.{declared-stays, FirstRound, first-at-least-one, first-at-most, first-risen, root-grade}
use Rattle.reasons.proofs.Laws.Turns.{PlaceFits, child_place, set_called, Called, TurnIs, plain, to_child, to_callee, at_access, at_fork, at_lock, at_assert, at_declared, turn_is}
use Rattle.reasons.proofs.Laws.Bound.{ahead, ahead-open, ahead-enters, spare, spare-cmpd, spare-atomic, left_at, steps_left, most-steps}

-- ---- roots

pub some-nodes : (p : Program) → WellFormed p → (m : ℕ) → m < method_count p → 1 ≤ length (method_at p m).nodes
unfolding method_count
some-nodes p w m h = (w.methods m h).some_nodes

root-number : (method : Method) → root_of method ≡ pred (length method.nodes)
unfolding root_of
root-number method = refl

pub root_below : (p : Program) → WellFormed p → (m : ℕ) → m < method_count p → root_of (method_at p m) < length (method_at p m).nodes
root_below p w m h = omega (arith, some-nodes p w m h, root-number (method_at p m))

pub root-fits : (p : Program) → WellFormed p → (m H g : ℕ) → Entry p m H → PlaceFits p (root_place p m H g)
unfolding root_place
root-fits p w m H g e =
    record {
      method = e.method;
      node = root_below p w m e.method;
      set = e.set;
      round = first-at-least-one p m H g;
      no_later = first-at-most p m H g;
    }

-- ---- to the callee

module _ (p : Program) (w : WellFormed p) (at : Place) (f : PlaceFits p at) (g : ℕ) (u : T (not (is_declared p (node_here p at).U))) (c : Called p at g) where
  callee-first : FirstRound p (node_here p at).U (set_called p at g) g (pred at.round)
  unfolding tables_before
  callee-first = first-risen p (pred at.round) (node_here p at).U (set_called p at g) g c.entry u c.some c.has

  pub callee-grade : grade_at p (callee_place p at g) ≡ g
  unfolding callee_place
  callee-grade = root-grade p (pred at.round) (node_here p at).U (set_called p at g) g c.entry u callee-first

  pub callee-round : (callee_place p at g).round < at.round
  unfolding callee_place root_place
  callee-round = omega (arith, f.round, callee-first.no_later)

  pub callee-fits : PlaceFits p (callee_place p at g)
  unfolding callee_place
  callee-fits = root-fits p w (node_here p at).U (set_called p at g) g c.entry

  -- the callee's nodes and what is ahead from there were ahead
  callee-ahead : suc (callee_place p at g).node + ahead p g (callee_place p at g).round ≤ ahead p g at.round
  unfolding callee_place root_place
  callee-ahead =
      let nodes : suc (root_of (method_at p (node_here p at).U)) ≤ length (method_at p (node_here p at).U).nodes = root_below p w (node_here p at).U c.entry.method in
      within _ _ _ _ nodes (ahead-enters p g at.round (node_here p at).U (set_called p at g) c.entry u callee-round)
    where
      within : (x y z t : ℕ) → x ≤ y → y + z ≤ t → x + z ≤ t
      within x y z t h k = omega arith

-- ---- each step

-- a place's step, its rule given apart
abbrev pub step_by : Program → Place → (rule : ℕ) → Step
step_by p at rule =
    record { method = at.method; node = at.node; set = at.set; round = at.round; grade = grade_at p at; rule = rule }

-- a step that goes on: to a place again, linked to it, with fewer steps left
pub record Onward (p : Program) (at : Place) (rule : ℕ) (to : Place) : Type 0 where
  pub fits : PlaceFits p to
  pub linked : (rule' : ℕ) → Linked (step_by p at rule) (step_by p to rule')
  pub fewer : steps_left p to < steps_left p at
  pub undeclared : T (not (is_declared p at.method)) → T (not (is_declared p to.method))
  pub occurs : T (occurs rule)

pub record Ending (p : Program) (at : Place) (rule : ℕ) : Type 0 where
  pub ends : T (ends_chain rule)
  pub occurs : T (occurs rule)
  pub is : EndIs p (step_by p at rule)

abbrev pub Moves : Program → Place → (rule : ℕ) → Next → Type 0
Moves p at rule ends = Ending p at rule
Moves p at rule (goes_on to) = Onward p at rule to

-- a rule that passes a test, with 8 added and without
passes : (test : ℕ → Bool) (rule : ℕ) {whole part added : ℕ} → T (test (rule + 0)) → T (test (rule + 8)) → Accounts whole part added → T (test (rule + added))
passes test rule e e' (equal s) = e
passes test rule e e' (twice s t) = e'

-- a declared callee's entry is its declared one
pub declared-entry : (p : Program) (at : Place) (g : ℕ) → T (is_declared p (node_here p at).U) → Called p at g → declared_table p (node_here p at).U (set_called p at g) ≡ g
unfolding tables_before
declared-entry p at g d c = sym (declared-stays p _ (node_here p at).U (set_called p at g) c.entry d) ∙ c.has

-- fewer steps are left at a child, of the same grade or of 2 in 3
child-fewer : (p : Program) (at : Place) (n S added : ℕ) → n < at.node → Accounts (grade_at p at) (grade_at p (child_place at n S)) added
    → steps_left p (child_place at n S) < steps_left p at
unfolding steps_left
child-fewer p at n S added l (equal e) =
    subst (λ (g : ℕ). left_at p n g at.round < left_at p at.node (grade_at p at) at.round) (sym e) (omega arith)
child-fewer p at n S added l (twice d e) =
    let two : left_at p n atomic at.round < left_at p at.node cmpd at.round =
    omega (arith, ahead-open p atomic at.round, spare-atomic p, spare-cmpd p) in
    subst (λ (g : ℕ). left_at p n g at.round < left_at p at.node (grade_at p at) at.round) (sym e)
    (subst (λ (g : ℕ). left_at p n atomic at.round < left_at p at.node g at.round) (sym d) two)

-- and at a callee's root
callee-fewer : (p : Program) (w : WellFormed p) (at : Place) (f : PlaceFits p at) (g added : ℕ) → T (not (is_declared p (node_here p at).U)) → Called p at g
    → Accounts (grade_at p at) g added → steps_left p (callee_place p at g) < steps_left p at
unfolding steps_left
callee-fewer p w at f g added u c x =
    subst (λ (y : ℕ). left_at p to.node y to.round < left_at p at.node (grade_at p at) at.round) (sym (callee-grade p w at f g u c)) (fewer x)
  where
    to : Place
    to = callee_place p at g

    fewer : {added : ℕ} → Accounts (grade_at p at) g added → left_at p to.node g to.round < left_at p at.node (grade_at p at) at.round
    fewer (equal e) =
        subst (λ (y : ℕ). left_at p to.node g to.round < left_at p at.node y at.round) e (omega (arith, callee-ahead p w at f g u c))
    fewer (twice d e) =
        subst (λ (y : ℕ). left_at p to.node g to.round < left_at p at.node y at.round) (sym d)
        (omega (arith, callee-ahead p w at f g u c, ahead-open p g at.round, ap (spare p) e, spare-atomic p, spare-cmpd p))

child-linked : (p : Program) (at : Place) (n S added rule' : ℕ) → n < at.node → Accounts (grade_at p at) (grade_at p (child_place at n S)) added
    → Linked (step_by p at (1 + added)) (step_by p (child_place at n S) rule')
child-linked p at n S added r l (equal e) = child refl e (record { method = refl; round = refl; node = l })
child-linked p at n S added r l (twice d e) = child_of_two refl d e (record { method = refl; round = refl; node = l })

callee-linked : (p : Program) (w : WellFormed p) (at : Place) (f : PlaceFits p at) (g added rule' : ℕ) → T (not (is_declared p (node_here p at).U)) → Called p at g
    → Accounts (grade_at p at) g added → Linked (step_by p at (2 + added)) (step_by p (callee_place p at g) rule')
callee-linked p w at f g added r u c (equal e) = callee refl (callee-grade p w at f g u c ∙ e) (callee-round p w at f g u c)
callee-linked p w at f g added r u c (twice d e) = callee_of_two refl d (callee-grade p w at f g u c ∙ e) (callee-round p w at f g u c)

moves : (p : Program) (w : WellFormed p) (at : Place) (f : PlaceFits p at) (t : Turn) → TurnIs p at t → Moves p at t.rule t.next
unfolding ends_chain occurs member node_here grade_at
moves p w at f t (plain o e) = record { ends = tt; occurs = tt; is = Reason.EndIs.at_plain o refl e }
moves p w at f t (to_child n S added l s up x) =
    record {
      fits = record { method = f.method; node = omega (arith, f.node); set = s; round = f.round; no_later = f.no_later };
      linked = λ r. child-linked p at n S added r l x;
      fewer = child-fewer p at n S added l x;
      undeclared = λ u. u;
      occurs = passes occurs 1 tt tt x;
    }
moves p w at f t (to_callee g added o u c x) =
    record {
      fits = callee-fits p w at f g u c;
      linked = λ r. callee-linked p w at f g added r u c x;
      fewer = callee-fewer p w at f g added u c x;
      undeclared = λ d. unfold callee_place root_place in u;
      occurs = passes occurs 2 tt tt x;
    }
moves p w at f t (at_access writing added o up x) =
    record { ends = passes ends_chain 3 tt tt x; occurs = passes occurs 3 tt tt x; is = Reason.EndIs.at_access writing added o refl x }
moves p w at f t (at_fork added o up x) =
    record { ends = passes ends_chain 4 tt tt x; occurs = passes occurs 4 tt tt x; is = Reason.EndIs.at_fork added o refl x }
moves p w at f t (at_lock o h l up e) = record { ends = tt; occurs = tt; is = Reason.EndIs.at_lock o refl h l e }
moves p w at f t (at_assert o d up e) = record { ends = tt; occurs = tt; is = Reason.EndIs.at_assert o refl d e }
moves p w at f t (at_declared g added o d c x) =
    record {
      ends = passes ends_chain 7 tt tt x;
      occurs = passes occurs 7 tt tt x;
      is = Reason.EndIs.at_declared g added o d refl (unfold node_here in declared-entry p at g d c) x;
    }

pub moves-at : (p : Program) → WellFormed p → (at : Place) → PlaceFits p at → Moves p at (turn_at p at).rule (turn_at p at).next
moves-at p w at f = moves p w at f (turn_at p at) (turn_is p w at f)

pub onward : (p : Program) → WellFormed p → (at to : Place) → PlaceFits p at → (turn_at p at).next ≡ goes_on to → Onward p at (turn_at p at).rule to
onward p w at to f e = subst (Moves p at (turn_at p at).rule) e (moves-at p w at f)

-- ---- the chain

some_left : (p : Program) (at : Place) → 1 ≤ steps_left p at
unfolding steps_left
some_left p at = omega arith

-- with as many steps as are left the chain has ended
pub steps-permitted : (p : Program) → WellFormed p → (n : ℕ) (at : Place) → PlaceFits p at → steps_left p at ≤ n → Chain p at (steps_from p n at)
unfolding steps_from
steps-permitted p w zero at f h = absurd (omega (arith, some_left p at))
steps-permitted p w (suc n) at f h = go (turn_at p at).next refl (moves-at p w at f) (λ to g l. steps-permitted p w n to g (omega arith))
  where
    go : (x : Next) → (turn_at p at).next ≡ x → Moves p at (turn_at p at).rule x
        → ((to : Place) → PlaceFits p to → steps_left p to < steps_left p at → Chain p to (steps_from p n to)) → Chain p at (step_at p at ∷ later (steps_from p n) x)
    go ends e m ih = last at e
    go (goes_on to) e m ih = on at to (steps_from p n to) e (ih to m.fits m.fewer)

pub chain-permitted : (p : Program) → WellFormed p → (at : Place) → PlaceFits p at → Chain p at (chain_from p at)
unfolding chain_from
chain-permitted p w at f = steps-permitted p w (most_steps p at) at f (most-steps p at)

pub chain_length : (p : Program) → WellFormed p → {at : Place} {steps : List Step} → Chain p at steps → PlaceFits p at → length steps ≤ steps_left p at
chain_length p w (last at e) f = some_left p at
chain_length p w (on at to steps e c) f =
    let next = onward p w at to f e in
    omega (arith, chain_length p w c next.fits, next.fewer)

pub chain-within : (p : Program) → WellFormed p → (at : Place) → PlaceFits p at → length (chain_from p at) ≤ most_steps p at
chain-within p w at f = omega (arith, chain_length p w (chain-permitted p w at f) f, most-steps p at)

-- two permitted chains coincide
pub chain-only : (p : Program) {at : Place} {steps others : List Step} → Chain p at steps → Chain p at others → others ≡ steps
chain-only p (last at e) (last at' e') = refl
chain-only p (last at e) (on at' to others e' c) = cc
chain-only p (on at to steps e c) (last at' e') = cc
chain-only p (on at to steps e c) (on at' to' others e' c') =
    let same : to' ≡ to = cc in
    ap (λ (l : List Step). step_at p at ∷ l) (chain-only p c (subst (λ (x : Place). Chain p x others) same c'))

-- so a chain may be worked out step by step
pub chain-step : (p : Program) → WellFormed p → (at : Place) → PlaceFits p at → chain_from p at ≡ step_at p at ∷ later (chain_from p) (turn_at p at).next
chain-step p w at f = chain-only p (go (turn_at p at).next refl (moves-at p w at f)) (chain-permitted p w at f)
  where
    go : (x : Next) → (turn_at p at).next ≡ x → Moves p at (turn_at p at).rule x → Chain p at (step_at p at ∷ later (chain_from p) x)
    go ends e m = last at e
    go (goes_on to) e m = on at to (chain_from p to) e (chain-permitted p w to m.fits)

-- a chain that starts on an undeclared method stays on undeclared ones
pub chain-undeclared : (p : Program) → WellFormed p → {at : Place} {steps : List Step} → Chain p at steps → PlaceFits p at → T (not (is_declared p at.method))
    → All (λ s. T (not (is_declared p s.method))) steps
unfolding step_at
chain-undeclared p w (last at e) f u = (u, tt)
chain-undeclared p w (on at to steps e c) f u =
    let next = onward p w at to f e in
    (u, chain-undeclared p w c next.fits (next.undeclared u))

-- ---- what is known of the steps

record Known (p : Program) (steps : List Step) : Type 0 where
  fit : All (StepFits p) steps
  grades : All (GradeIs p) steps
  linked : AllLinked steps
  rules : All (λ s. T (occurs s.rule)) steps
  last_rule : Last (λ s. T (ends_chain s.rule)) steps
  last : Last (EndIs p) steps

cons-linked : (p : Program) (s : Step) {to : Place} {steps : List Step} → Chain p to steps → ((rule : ℕ) → Linked s (step_by p to rule)) → AllLinked steps → AllLinked (s ∷ steps)
unfolding step_at
cons-linked p s (last at e) h k = (h (turn_at p at).rule, tt)
cons-linked p s (on at to steps e c) h k = (h (turn_at p at).rule, k)

cons-last : (P : Step → Type 0) (p : Program) (s : Step) {to : Place} {steps : List Step} → Chain p to steps → Last P steps → Last P (s ∷ steps)
cons-last P p s (last at e) h = h
cons-last P p s (on at to steps e c) h = h

step_fits : (p : Program) (at : Place) → PlaceFits p at → StepFits p (step_at p at)
unfolding step_at
step_fits p at f =
    record { entry = record { method = f.method; set = f.set }; node = f.node; round = f.round; no_later = f.no_later }

step-grade : (p : Program) (at : Place) → GradeIs p (step_at p at)
unfolding step_at grade_at
step-grade p at = refl

known : (p : Program) → WellFormed p → {at : Place} {steps : List Step} → Chain p at steps → PlaceFits p at → Known p steps
unfolding step_at
known p w (last at e) f =
    let end : Ending p at (turn_at p at).rule = subst (Moves p at (turn_at p at).rule) e (moves-at p w at f) in
    record {
      fit = (step_fits p at f, tt);
      grades = (step-grade p at, tt);
      linked = tt;
      rules = (end.occurs, tt);
      last_rule = end.ends;
      last = end.is;
    }
known p w (on at to steps e c) f =
    let next = onward p w at to f e in
    let rest = known p w c next.fits in
    record {
      fit = (step_fits p at f, rest.fit);
      grades = (step-grade p at, rest.grades);
      linked = cons-linked p (step_at p at) c next.linked rest.linked;
      rules = (next.occurs, rest.rules);
      last_rule = cons-last (λ s. T (ends_chain s.rule)) p (step_at p at) c rest.last_rule;
      last = cons-last (EndIs p) p (step_at p at) c rest.last;
    }

pub chain-is : (p : Program) → WellFormed p → (at : Place) → PlaceFits p at → ChainIs p at (chain_from p at)
chain-is p w at f =
    let permitted = chain-permitted p w at f in
    let all = known p w permitted f in
    record {
      permitted = permitted;
      only = λ others c. chain-only p permitted c;
      fit = all.fit;
      grades = all.grades;
      linked = all.linked;
      rules = all.rules;
      last_rule = all.last_rule;
      last = all.last;
    }
