-- `solver::room::has_room` meets its contract: the four tests, one after the other.
-- Assumes nothing.
use Rattle.std.proofs.Common.{⊎_elim}
use mathlib.Core.Path.{◌≡◌, sym, ap, ap₂, ◌∙◌}
use native.Mathlib.Omega.{arith}
use mathlib.Core.Bool.{true, false, ◌&&◌}
use Prim.Native.Nat.{ℕ, ◌-◌}
use Rattle.std.proofs.lemmas.Grind.{common_steps}
use Rattle.frames.specs.Tables.{cell, first_frame}
use Rattle.frames.specs.Frames.{methods_in}
use Rattle.solver.specs.Code.Engine.{last_frame}
use Rattle.solver.specs.Room.{names_fit, locks_fit}
use Rattle.solver.specs.Laws.Room.{room-methods, room-frames, room-rest}
use Rattle.solver.proofs.room.has_room.Goals as goal
use Rattle.solver.proofs.room.has_room.Goals.{then-last-le-MOST_FRAMES, else-last-le-MOST_FRAMES}

pub returns-then-names_fit : goal.returns-then-names_fit
returns-then-names_fit c = let t = c.args.tables.now in
    let last : c.first_frame-last.result ≡ last_frame t = c.first_frame-last.ensures ∙ ap (first_frame (cell t)) c.methods-methods.ensures.is in
    elim c.if-last-le-MOST_FRAMES.branch [
      | then-last-le-MOST_FRAMES w ↦
          let names : names_fit t (methods_in (cell t)) ≡ true = sym (w.names_fit.ensures ∙ ap (names_fit t) c.methods-methods.ensures.is) ∙ sym w.value-is ∙ c.if-names_fit.true in
          let locks = sym (c.locks_fit.ensures ∙ ap₂ (locks_fit t) c.first_frame-first.ensures (ap₂ (λ (x y : ℕ). x - y) last c.first_frame-first.ensures)) in
          sym (room-rest t (omega (arith, c.methods-methods.ensures.is)) (omega arith) ∙ ap₂ ◌&&◌ names locks)
      | else-last-le-MOST_FRAMES w ↦ grind (arith, common_steps)
    ]

pub returns-else-names_fit : goal.returns-else-names_fit
returns-else-names_fit c = let t = c.args.tables.now in
    let last : c.first_frame-last.result ≡ last_frame t = c.first_frame-last.ensures ∙ ap (first_frame (cell t)) c.methods-methods.ensures.is in
    c.if-names_fit.false ∙ sym
    (elim c.if-last-le-MOST_FRAMES.branch [
      | then-last-le-MOST_FRAMES w ↦
          let names : names_fit t (methods_in (cell t)) ≡ false = sym (w.names_fit.ensures ∙ ap (names_fit t) c.methods-methods.ensures.is) ∙ sym w.value-is ∙ c.if-names_fit.false in
          room-rest t (omega (arith, c.methods-methods.ensures.is)) (omega arith) ∙ rw names
      | else-last-le-MOST_FRAMES w ↦
          ⊎_elim (λ h. room-frames t (omega (arith, c.methods-methods.ensures.is, h)) (omega (arith, h)))
          (λ h. room-methods t (omega (arith, c.methods-methods.ensures.is, h)))
          w.if-last-le-MOST_FRAMES.either
    ])
