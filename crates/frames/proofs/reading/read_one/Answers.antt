-- `read_one` meets its contract: the loop carries what `Going` says, and each way out is one of the definition's.
-- Assumes nothing.
use Rattle.std.specs.Prelude.{true, false}
use Rattle.frames.specs.Layout.{layout, tables_length}
use denote.Enum.Bare.{sameb}
use borrow.Author.Tests.{eq-eqb, ne_eqb}
use Rattle.frames.specs.contracts.Due as contract
use Rattle.frames.specs.declared.Due.{Due}
use Rattle.frames.specs.declared.Due.TheVariants.{Header, Field, Method, Node, End}
use Rattle.frames.specs.declared.Fault.TheVariants.{Misplaced}
use Rattle.frames.specs.Laws.Going.{going-is, going-low, going-few, going-marks}
use Rattle.frames.specs.Laws.OneText.{one-starts, one-short, one-stops, one-refused, one-read-whole, going-method, turn-open, turn-next, turn-fault, turn-goes-on}
use Prim.Native.Nat.{ℕ}
use mathlib.Core.Path.{◌≡◌, refl, sym, ap, ◌∙◌}
use native.Mathlib.Omega.{arith}
use Rattle.counting.specs.Laws.Lists.{zeros-are}
use Rattle.frames.proofs.reading.read_one.Goals as goal

-- what `==` says of the frame that is due
is-end : (d : Due) → sameb contract.the_type d End ≡ true → d ≡ End
is-end Header e = cc
is-end Field e = cc
is-end Method e = cc
is-end Node e = cc
is-end End e = refl

not-end : (d : Due) → sameb contract.the_type d End ≡ false → d ≡ End → ⊥
not-end d e h = let z : true ≡ false = sym (ap (λ (x : Due). sameb contract.the_type x End) h) ∙ e in let y : ◌≡◌ {A = ℕ} 0 1 = cc in omega arith

pub loop-named-init : goal.loop-named-init
loop-named-init c = one-starts _ _ _ _ (zeros-are tables_length) (zeros-are layout.most_nodes)

pub overflow_sub-i : goal.overflow_sub-i
overflow_sub-i c = omega (arith, c.loop-named.invariant.counted)

pub returns-then-eq : goal.returns-then-eq
returns-then-eq c = let go = c.loop-named.invariant in
    one-read-whole go (going-is go _ c.due-d.ensures ∙ is-end _ (sym c.eq.ensures ∙ c.if-eq.true))

pub refusal_of-requires : goal.refusal_of-requires
refusal_of-requires c = let go = c.loop-named.invariant in
    going-low go (turn-open _ go c.due-d.ensures (not-end _ (sym c.eq.ensures ∙ c.if-eq.false)))

pub returns-then-text-place : goal.returns-then-text-place
returns-then-text-place c = let go = c.loop-named.invariant in
    let open-at = turn-open _ go c.due-d.ensures (not-end _ (sym c.eq.ensures ∙ c.if-eq.false)) in
    one-refused Misplaced _ _ (one-short go open-at c.if-text-place.true) c.refusal_of.ensures

pub slice_bounds-line-count : goal.slice_bounds-line-count
slice_bounds-line-count c = (turn-next _ c.loop-named.invariant c.due-d.ensures (not-end _ (sym c.eq.ensures ∙ c.if-eq.false)) c.if-text-place.false c.past_line-next.ensures).from

pub slice_bounds-line-start : goal.slice_bounds-line-start
slice_bounds-line-start c = (turn-next _ c.loop-named.invariant c.due-d.ensures (not-end _ (sym c.eq.ensures ∙ c.if-eq.false)) c.if-text-place.false c.past_line-next.ensures).from

pub slice_bounds-line-end : goal.slice_bounds-line-end
slice_bounds-line-end c = (turn-next _ c.loop-named.invariant c.due-d.ensures (not-end _ (sym c.eq.ensures ∙ c.if-eq.false)) c.if-text-place.false c.past_line-next.ensures).high

pub take_line-requires : goal.take_line-requires
take_line-requires c = let go = c.loop-named.invariant in
    let open-at = turn-open _ go c.due-d.ensures (not-end _ (sym c.eq.ensures ∙ c.if-eq.false)) in
    (going-low go open-at, (go.wide, omega (arith, going-few go open-at, going-marks go)))

pub refusal_of-requires-in-Some : goal.refusal_of-requires-in-Some
refusal_of-requires-in-Some c = let go = c.loop-named.invariant in
    going-low go (turn-open _ go c.due-d.ensures (not-end _ (sym c.eq.ensures ∙ c.if-eq.false)))

pub returns-in-Some : goal.returns-in-Some
returns-in-Some c = let go = c.loop-named.invariant in
    let more = not-end _ (sym c.eq.ensures ∙ c.if-eq.false) in
    let same = turn-fault _ go c.due-d.ensures more c.if-text-place.false c.past_line-next.ensures c.take_line.ensures in
    one-refused c.in-Some.fault _ _ (one-stops go (turn-open _ go c.due-d.ensures more) c.if-text-place.false c.in-Some.fault (sym same ∙ c.in-Some.is)) c.refusal_of-in-Some.ensures

pub next_stand-stand-requires : goal.next_stand-stand-requires
next_stand-stand-requires c = let go = c.loop-named.invariant in
    let more = not-end _ (sym c.eq.ensures ∙ c.if-eq.false) in
    let same = turn-fault _ go c.due-d.ensures more c.if-text-place.false c.past_line-next.ensures c.take_line.ensures in
    (omega (arith, going-method go (sym same ∙ c.in_default.is)), omega (arith, going-few go (turn-open _ go c.due-d.ensures more)))

pub loop-named-smaller-then-stand-eq0 : goal.loop-named-smaller-then-stand-eq0
loop-named-smaller-then-stand-eq0 c = let n = turn-next _ c.loop-named.invariant c.due-d.ensures (not-end _ (sym c.eq.ensures ∙ c.if-eq.false)) c.if-text-place.false c.past_line-next.ensures in
    omega (arith, n.low, n.high)

pub loop-named-smaller : goal.loop-named-smaller
loop-named-smaller c = let n = turn-next _ c.loop-named.invariant c.due-d.ensures (not-end _ (sym c.eq.ensures ∙ c.if-eq.false)) c.if-text-place.false c.past_line-next.ensures in
    omega (arith, n.low, n.high)

pub loop-named-preserved-then-stand-eq0 : goal.loop-named-preserved-then-stand-eq0
loop-named-preserved-then-stand-eq0 c = turn-goes-on _ c.loop-named.invariant c.due-d.ensures (not-end _ (sym c.eq.ensures ∙ c.if-eq.false)) c.if-text-place.false c.past_line-next.ensures
    c.take_line.ensures c.in_default.is _ c.next_stand-stand.ensures _ (zeros-are layout.most_nodes ∙ sym (rw (eq-eqb _ 0 c.if-stand-eq0.true)))

pub loop-named-preserved : goal.loop-named-preserved
loop-named-preserved c = turn-goes-on _ c.loop-named.invariant c.due-d.ensures (not-end _ (sym c.eq.ensures ∙ c.if-eq.false)) c.if-text-place.false c.past_line-next.ensures
    c.take_line.ensures c.in_default.is _ c.next_stand-stand.ensures _ (sym (rw (ne_eqb _ 0 c.if-stand-eq0.false)))
