-- Which steps can change places with another thread's, and what a word must look like for its joined events to be put together. It knows no grade.
-- Assumes nothing.
use Rattle.std.specs.Prelude.{ℕ, Bool, true, false, not, cond, ◌&&◌, ◌||◌, [], ◌∷◌, T, get_or}
use Rattle.running.specs.Machine.{Action, acquire, release, access, begin, Event, Word}

-- ---- accesses, by the guard of the field: 0 final, 1 guarded, 2 write-guarded, 3 none; another guard permits nothing

-- the discipline: a final field is never written, a guarded one not touched without its guard, a write-guarded one not written without it
unfoldable pub keeps : (guard : ℕ) → (writing has : Bool) → Bool
keeps guard writing has = get_or (not writing ∷ has ∷ (not writing || has) ∷ true ∷ []) guard false

-- an access that no access of another thread, if that keeps the discipline too, can conflict with: a read of a final field, any access of a guarded
-- field, and a read of a write-guarded field by a thread that has the guard
unfoldable pub undisturbed : (guard : ℕ) → (writing has : Bool) → Bool
undisturbed guard writing has = get_or (not writing ∷ has ∷ (not writing && has) ∷ false ∷ []) guard false

-- ---- movers; `guards` gives the guard of each location's field

module _ (guards : ℕ → ℕ) where
  abbrev pub fair : Action → Bool
  fair (acquire l) = true
  fair (release l) = true
  fair (access x writing v has) = keeps (guards x) writing has
  fair (begin u) = true

  -- taking a lock can be put off: nobody else can do anything with it meanwhile
  abbrev pub moves_later : Action → Bool
  moves_later (acquire l) = true
  moves_later (release l) = false
  moves_later (access x writing v has) = undisturbed (guards x) writing has
  moves_later (begin u) = false

  -- giving a lock back can be done before: nobody else could do anything with it meanwhile
  abbrev pub moves_earlier : Action → Bool
  moves_earlier (acquire l) = false
  moves_earlier (release l) = true
  moves_earlier (access x writing v has) = undisturbed (guards x) writing has
  moves_earlier (begin u) = false

-- ---- words

-- where a thread is among its joined events: before the one event that does not move later, or past it. `apart`: no event to join to; `wrong`: no
-- word that is read on from here is right.
pub data Phase : Type 0 where
  wrong apart past before : Phase

abbrev pub right : Phase → Bool
right wrong = false
right apart = true
right past = true
right before = true

-- after an event that starts anew, or goes on before the one
abbrev pub opened : (later : Bool) → Phase
opened later = cond later before past

-- an event in each phase: alone it starts anew; joined it must have an event to join to, and past the one it must move earlier
abbrev pub onward : Phase → (joined later earlier : Bool) → Phase
onward wrong joined later earlier = wrong
onward apart false later earlier = opened later
onward apart true later earlier = wrong
onward past false later earlier = opened later
onward past true later earlier = cond earlier past wrong
onward before false later earlier = opened later
onward before true later earlier = opened later

module _ (guards : ℕ → ℕ) where
  unfoldable pub next : Phase → Event → Phase
  next q e =
      cond (fair guards e.action) (onward q e.joined (moves_later guards e.action) (moves_earlier guards e.action)) wrong

  -- the phase after a word
  unfoldable pub phase : Phase → Word → Phase
  phase q [] = q
  phase q (e ∷ word) = phase (next q e) word

  -- every event keeps the discipline, and joined events are movers around at most one other: later-movers before it, earlier-movers after it
  abbrev pub Fits : Word → Type 0
  Fits word = T (right (phase apart word))
