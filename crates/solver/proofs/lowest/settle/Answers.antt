-- `solver::lowest::settle` meets its contract: what has room is solved by rounds, and its constraints are gone through in order.
-- Assumes nothing.
use mathlib.Core.Path.{◌≡◌, sym, ap, ap₂, ◌∙◌}
use mathlib.Core.Bool.{true}
use Prim.Native.Nat.{ℕ}
use Rattle.meaning.specs.Meaning.{Assignment}
use Rattle.counting.specs.Counting.{up_to}
use Rattle.meaning.specs.Constraints.{finding}
use Rattle.solver.specs.Flat.{program_in, tables_in}
use Rattle.solver.specs.Room.{has_room}
use Rattle.solver.specs.Laws.Rounds.{lowest-read}
use Rattle.solver.specs.Laws.Views.{method-count}
use Rattle.solver.specs.Findings.{found}
use Rattle.solver.specs.Laws.Room.{room_fits}
use Rattle.solver.proofs.lowest.settle.Goals as goal

pub starts_of-requires : goal.starts_of-requires
starts_of-requires g c = room_fits c.args.tables.now (sym c.has_room.ensures ∙ c.if-not-has_room.false)

pub invariant_of-placed-clause-fits : goal.invariant_of-placed-clause-fits
invariant_of-placed-clause-fits g c = room_fits c.args.tables.now (sym c.has_room.ensures ∙ c.if-not-has_room.false)

pub returns : goal.returns
returns g c = let t = c.args.tables.now in
    let room : has_room t ≡ true = sym c.has_room.ensures ∙ c.if-not-has_room.false in
    let lowest = c.lowest_of-lowest.ensures in (
      room,
      c.first_broken-broken.ensures
          ∙ ap₂ (λ (a : Assignment) (n : ℕ). found (finding (program_in t) a (up_to n))) (ap tables_in lowest.grades ∙ lowest-read t (room_fits t room)) (sym (method-count t)),
      lowest.rounds,
      lowest.grades,
      lowest.notes,
    )
