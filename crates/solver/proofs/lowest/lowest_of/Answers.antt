-- `solver::lowest::lowest_of` meets its contract. The loop's invariant: the tables are those after n rounds, each of which changed something, and so many rounds are noted.
-- The measure is what is left of the rounds.
-- Assumes nothing.
use mathlib.Core.Path.{◌≡◌, sym, ap, ◌∙◌, subst}
use mathlib.Core.Bool.{Bool, not, true, false}
use mathlib.Core.List.{List}
use lib.Dec.{T}
use native.Mathlib.Numerals.{add-one}
use native.Mathlib.Omega.{arith}
use Prim.Native.Nat.{ℕ, suc, ◌+◌, ◌*◌}
use Rattle.frames.specs.Layout.{layout}
use Rattle.frames.specs.Frames.{methods_in}
use Rattle.frames.specs.Tables.{cell}
use Rattle.meaning.specs.Lowest.{rounds}
use Rattle.solver.specs.Flat.{program_in, flat}
use Rattle.solver.specs.Laws.Rounds.{after_rounds, Rising, start_first, round-next, still_after, rising-more, stopped, stopped-tables, rising-bound, rounds-few, compared}
use Rattle.solver.specs.Code.Rounds.{Fits, Still, SameTo, round_tables}
use Rattle.solver.proofs.lowest.lowest_of.Goals as goal

-- what a round comes to: it settles, or it rises
module _ (t : List ℕ) (fits : Fits t) (used n : ℕ) (old new : List ℕ) (r : Bool) (u : used ≡ layout.grades * methods_in (cell t)) (o : old ≡ flat (after_rounds t n))
    (e : new ≡ round_tables t old) (seen : SameTo used old new r) (rising : Rising t n) where
  done : r ≡ true → n ≡ rounds (program_in t)
  done h = stopped t fits n r rising (compared t fits used n old new r u o e seen) (subst T (sym h) tt)

  more : r ≡ false → Rising t (suc n)
  more h = rising-more t fits n r rising (compared t fits used n old new r u o e seen) (subst (λ (x : Bool). T (not x)) (sym h) tt)

  next : new ≡ flat (after_rounds t (n + 1))
  next = e ∙ ap (round_tables t) o ∙ round-next t fits n ∙ ap (λ (i : ℕ). flat (after_rounds t i)) (sym (add-one n))

pub loop-new-init : goal.loop-new-init
loop-new-init g c = record {
  used = ap (λ (n : ℕ). layout.grades * n) c.methods-used.ensures.is;
  tables = c.start-old.ensures ∙ start_first c.args.placed.now.tables.now c.args.placed.now.fits;
  rising = λ i l. absurd (omega arith);
  kept = c.begin-notes.ensures;
}

pub begin-notes-requires-clause-start : goal.begin-notes-requires-clause-start
begin-notes-requires-clause-start g c = c.start-old.ensures ∙ start_first c.args.placed.now.tables.now c.args.placed.now.fits

pub round-new-requires : goal.round-new-requires
round-new-requires g c = subst (Still c.args.placed.now.tables.now) (sym c.loop-new.invariant.tables) (still_after c.args.placed.now.tables.now c.args.placed.now.fits c.loop-new.n)

pub returns-then-same : goal.returns-then-same
returns-then-same g c = let t = c.args.placed.now.tables.now in
    let fits = c.args.placed.now.fits in
    let at = c.loop-new in
    let held = at.invariant in
    let all = done t fits _ at.n at.old c.round-new.result c.same.result held.used held.tables c.round-new.ensures c.same.ensures held.rising c.if-same.true in
    record { rounds = all; grades = held.tables ∙ stopped-tables t fits at.n all; notes = subst (λ (n : ℕ). g.N.Notes.Kept t n at.notes) all held.kept }

pub next-requires-clause-new : goal.next-requires-clause-new
next-requires-clause-new g c = let at = c.loop-new in
    next c.args.placed.now.tables.now c.args.placed.now.fits _ at.n at.old c.round-new.result c.same.result at.invariant.used at.invariant.tables c.round-new.ensures c.same.ensures at.invariant.rising

pub next-requires-clause-n_bound : goal.next-requires-clause-n_bound
next-requires-clause-n_bound g c = let t = c.args.placed.now.tables.now in
    let fits = c.args.placed.now.fits in
    let at = c.loop-new in
    let held = at.invariant in
    let rising = more t fits _ at.n at.old c.round-new.result c.same.result held.used held.tables c.round-new.ensures c.same.ensures held.rising c.if-same.false in
    omega (arith, rising-bound t fits (suc at.n) rising, rounds-few t fits)

pub overflow_add-n : goal.overflow_add-n
overflow_add-n g c = let t = c.args.placed.now.tables.now in
    let fits = c.args.placed.now.fits in
    let at = c.loop-new in
    let held = at.invariant in
    let rising = more t fits _ at.n at.old c.round-new.result c.same.result held.used held.tables c.round-new.ensures c.same.ensures held.rising c.if-same.false in
    omega (arith, rising-bound t fits (suc at.n) rising, rounds-few t fits)

pub loop-new-smaller : goal.loop-new-smaller
loop-new-smaller g c = let t = c.args.placed.now.tables.now in
    let fits = c.args.placed.now.fits in
    let at = c.loop-new in
    let held = at.invariant in
    let rising = more t fits _ at.n at.old c.round-new.result c.same.result held.used held.tables c.round-new.ensures c.same.ensures held.rising c.if-same.false in
    omega (arith, rising-bound t fits (suc at.n) rising)

pub loop-new-preserved : goal.loop-new-preserved
loop-new-preserved g c = let t = c.args.placed.now.tables.now in
    let fits = c.args.placed.now.fits in
    let at = c.loop-new in
    let held = at.invariant in
    let rising = more t fits _ at.n at.old c.round-new.result c.same.result held.used held.tables c.round-new.ensures c.same.ensures held.rising c.if-same.false in
    record {
      used = held.used;
      tables = next t fits _ at.n at.old c.round-new.result c.same.result held.used held.tables c.round-new.ensures c.same.ensures held.rising;
      rising = subst (Rising t) (sym (add-one at.n)) rising;
      kept = c.next.ensures;
    }
