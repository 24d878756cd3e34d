-- `solver::root::lowest_root` meets its contract: the root of an entry's method, from the lowest tables.
-- Assumes nothing.
use mathlib.Core.Path.{◌≡◌, sym, ap, ◌∙◌}
use mathlib.Core.Bool.{true}
use Prim.Native.Nat.{◌<◌}
use native.Mathlib.Omega.{arith}
use Rattle.frames.specs.Frames.{methods_in}
use Rattle.frames.specs.Tables.{cell}
use Rattle.meaning.specs.Meaning.{Assignment, root_table}
use Rattle.solver.specs.Laws.Flat.{count-read, is-entry, no-entry-set, no-entry-method}
use Rattle.solver.specs.Room.{has_room}
use Rattle.solver.specs.Laws.Root.{root-no-room, root-no-entry, root-entry}
use Rattle.solver.specs.Laws.Rounds.{lowest-read}
use Rattle.solver.specs.Flat.{program_in, tables_in}
use Rattle.solver.specs.Laws.Room.{room_fits}
use Rattle.solver.proofs.root.lowest_root.Goals as goal

pub returns-then-not-has_room : goal.returns-then-not-has_room
returns-then-not-has_room c = let a = c.args in
    root-no-room a.tables.now a.method a.set (sym c.has_room.ensures ∙ c.if-not-has_room.true)

pub returns-then-methods-method : goal.returns-then-methods-method
returns-then-methods-method c = let a = c.args in
    let t = a.tables.now in
    let room : has_room t ≡ true = sym c.has_room.ensures ∙ c.if-not-has_room.false in
    root-no-entry t a.method a.set room (no-entry-method t (room_fits t room) a.method a.set (omega (arith, c.methods.ensures.is)))

pub returns-then-entries-set : goal.returns-then-entries-set
returns-then-entries-set c = let a = c.args in
    let t = a.tables.now in
    let room : has_room t ≡ true = sym c.has_room.ensures ∙ c.if-not-has_room.false in
    let within : a.method < methods_in (cell t) = omega (arith, c.methods.ensures.is) in
    let count = count-read t (room_fits t room) a.method c.k.result c.entries.result within c.k.ensures.is c.entries.ensures in
    root-no-entry t a.method a.set room (no-entry-set t (room_fits t room) a.method a.set within (omega (arith, count)))

pub starts_of-requires : goal.starts_of-requires
starts_of-requires c = room_fits c.args.tables.now
    (sym c.has_room.ensures ∙ c.if-not-has_room.false)

pub invariant_of-placed-clause-fits : goal.invariant_of-placed-clause-fits
invariant_of-placed-clause-fits c = room_fits c.args.tables.now (sym c.has_room.ensures ∙ c.if-not-has_room.false)

pub invariant_of-method-clause-fits : goal.invariant_of-method-clause-fits
invariant_of-method-clause-fits c = room_fits c.args.tables.now (sym c.has_room.ensures ∙ c.if-not-has_room.false)

pub returns : goal.returns
returns c = let a = c.args in
    let t = a.tables.now in
    let room : has_room t ≡ true = sym c.has_room.ensures ∙ c.if-not-has_room.false in
    let fits = room_fits t room in
    let within : a.method < methods_in (cell t) = omega (arith, c.methods.ensures.is) in
    let entries = c.entries in
    let k = c.k in
    let count = count-read t fits a.method k.result entries.result within k.ensures.is entries.ensures in
    let lowest = c.lowest_of-lowest.ensures.grades in
    root-entry t a.method a.set c.root_grade.result room (is-entry t fits a.method a.set within (omega (arith, count)))
    (c.root_grade.ensures ∙ ap (λ (g : Assignment). root_table (program_in t) g a.method a.set) (ap tables_in lowest ∙ lowest-read t fits))
