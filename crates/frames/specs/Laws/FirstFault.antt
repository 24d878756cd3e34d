-- Each refusal is given exactly in its case: the named line is the first with any fault, and no lower number applies in it.
-- Assumes nothing.
use Rattle.std.specs.Prelude.{ℕ, zero, suc, ◌+◌, ◌≤◌, ◌<◌, ◌≡◌, refl, Bool, true, false, cond, List, ◌⊎◌, length, Option, Some, None}
use Rattle.std.proofs.Common.{ap, sym, ◌∙◌, inl, inr, ⊎_elim, arith, not-suc-le-zero, lt-ltb, le-ltb}
use Rattle.std.proofs.Math.Path.{subst⁻¹}
use Rattle.lines.specs.Lines.{well_formed}
use Rattle.frames.specs.Frames.{Frames, frames_of, due, placed}
use Rattle.frames.specs.Ranges.{in_range}
use Rattle.frames.specs.Links.{linked}
use Rattle.frames.specs.FirstFault.{Lowest, First, Faultless}
use Rattle.frames.specs.Reading.{fault_of, fault_at, read_one, read_from, read_all, nothing_more, Stop, on_due, on_fault, ended}
use Rattle.frames.specs.Laws.Sound.{sound_more, sound-or, never-sound}
use Rattle.frames.specs.Laws.WholeText.{end-unsound}
use Rattle.frames.specs.declared.Due.{Due}
use Rattle.frames.specs.declared.Due.TheVariants.{Header, Field, Method, Node, End}
use Rattle.frames.specs.declared.Fault.{Fault}
use Rattle.frames.specs.declared.Fault.TheVariants.{Malformed, Misplaced, OutOfRange, Unlinked}
use Rattle.counting.specs.Laws.Tests.{lt-or-le}

pub lowest : (f : Frames) (d : Due) (i : ℕ) (l : List ℕ) → Lowest f d i l (fault_of f d i l)
unfolding fault_of
lowest f d i l = go (well_formed l) refl (placed d l) refl (in_range f d i) refl (linked f d i) refl
  where
    go : (a : Bool) → well_formed l ≡ a → (b : Bool) → placed d l ≡ b → (c : Bool) → in_range f d i ≡ c → (e : Bool) → linked f d i ≡ e
        → Lowest f d i l (cond a (cond b (cond c (cond e None (Some Unlinked)) (Some OutOfRange)) (Some Misplaced)) (Some Malformed))
    go false p b q c r e s = p
    go true p false q c r e s = (p, q)
    go true p true q false r e s = (p, q, r)
    go true p true q true r false s = (p, q, r, s)
    go true p true q true r true s = (p, q, r, s)

-- one text that is sound so far
record Taken (ls : List (List ℕ)) (i : ℕ) : Type 0 where
  sound : (j : ℕ) → j < i → fault_at ls j ≡ None
  inside : i ≤ length ls
  ends : due (frames_of ls) i ≡ End

-- what a stop says: of a fault, that it is the first; of none, what A says
abbrev Says : Type 0 → List (List ℕ) → Option Fault → ℕ → Type 0
Says A ls None i = A
Says A ls (Some x) i = First ls x i

ended-early : (ls : List (List ℕ)) (i : ℕ) → ((j : ℕ) → j < i → fault_at ls j ≡ None) → i ≡ length ls → (due (frames_of ls) i ≡ End → ⊥)
    → First ls Misplaced i
ended-early ls i clean q h =
    record { earlier = clean; here = inr (q, refl, h) }

end-says : (ls : List (List ℕ)) (i : ℕ) → ((j : ℕ) → j < i → fault_at ls j ≡ None) → i ≡ length ls → (d : Due) → due (frames_of ls) i ≡ d
    → Says (Taken ls i) ls (ended d) i
end-says ls i clean q Header e = ended-early ls i clean q (λ p. let z : ◌≡◌ {A = ℕ} 0 1 = cc in omega arith)
end-says ls i clean q Field e = ended-early ls i clean q (λ p. let z : ◌≡◌ {A = ℕ} 0 1 = cc in omega arith)
end-says ls i clean q Method e = ended-early ls i clean q (λ p. let z : ◌≡◌ {A = ℕ} 0 1 = cc in omega arith)
end-says ls i clean q Node e = ended-early ls i clean q (λ p. let z : ◌≡◌ {A = ℕ} 0 1 = cc in omega arith)
end-says ls i clean q End e = record { sound = clean; inside = omega arith; ends = e }

due-says : (ls : List (List ℕ)) (i : ℕ) → ((j : ℕ) → j < i → fault_at ls j ≡ None) → i ≤ length ls → (r : Stop)
    → Says (Taken ls r.before) ls r.fault r.before → (d : Due) → due (frames_of ls) i ≡ d
    → Says (Taken ls (on_due d i r).before) ls (on_due d i r).fault (on_due d i r).before
due-says ls i clean l r h Header e = h
due-says ls i clean l r h Field e = h
due-says ls i clean l r h Method e = h
due-says ls i clean l r h Node e = h
due-says ls i clean l r h End e = record { sound = clean; inside = l; ends = e }

from-says : (ls : List (List ℕ)) (i n : ℕ) → i + n ≡ length ls → ((j : ℕ) → j < i → fault_at ls j ≡ None)
    → Says (Taken ls (read_from ls i n).before) ls (read_from ls i n).fault (read_from ls i n).before
unfolding read_from
from-says ls i zero q clean = end-says ls i clean (omega arith) (due (frames_of ls) i) refl
from-says ls i (suc n) q clean =
    due-says ls i clean (omega arith) (on_fault (fault_at ls i) i (read_from ls (suc i) n))
    (⊎_elim
    (λ (e : fault_at ls i ≡ None).
    subst⁻¹ (λ (y : Option Fault). Says (Taken ls (on_fault y i (read_from ls (suc i) n)).before) ls (on_fault y i (read_from ls (suc i) n)).fault (on_fault y i (read_from ls (suc i) n)).before) e
    (from-says ls (suc i) n (omega arith) (sound_more ls i clean e)))
    (λ (d : (y : Fault) × (fault_at ls i ≡ Some y)).
    subst⁻¹ (λ (y : Option Fault). Says (Taken ls (on_fault y i (read_from ls (suc i) n)).before) ls (on_fault y i (read_from ls (suc i) n)).fault (on_fault y i (read_from ls (suc i) n)).before) d.1
    (record { earlier = clean; here = inl (omega arith, d.1) }))
    (sound-or (fault_at ls i)))
    (due (frames_of ls) i) refl

-- the whole of the lines: faultless, or with a first fault
abbrev pub Stops : List (List ℕ) → Option Fault → ℕ → Type 0
Stops ls x i = Says (Faultless ls) ls x i

all-stops : (ls : List (List ℕ)) (x : Option Fault) (i : ℕ) → Says (Taken ls i) ls x i → Stops ls (nothing_more ls x i).fault (nothing_more ls x i).before
all-stops ls None i h =
    ⊎_elim
    (λ (l : i < length ls). rw (lt-ltb i (length ls) l)
    (let f = end-unsound ls i h.ends in rw f.1 (record { earlier = h.sound; here = inl (l, f.1) })))
    (λ (g : length ls ≤ i). rw (le-ltb i (length ls) g)
    (let e : i ≡ length ls = omega (arith, h.inside) in
    record { sound = λ j k. h.sound j (omega arith); ends = ap (due (frames_of ls)) (sym e) ∙ h.ends }))
    (lt-or-le i (length ls))
all-stops ls (Some x) i h = h

-- what reading comes to is the case
pub stops : (ls : List (List ℕ)) → Stops ls (read_all ls).fault (read_all ls).before
unfolding read_all read_one
stops ls =
    all-stops ls (read_from ls 0 (length ls)).fault (read_from ls 0 (length ls)).before
    (from-says ls 0 (length ls) (omega arith) (λ j h. absurd (not-suc-le-zero h)))

-- and it is the only one: two first faults are the same
pub first-only : (ls : List (List ℕ)) (x y : Fault) (i j : ℕ) → First ls x i → First ls y j → (x ≡ y) × (i ≡ j)
first-only ls x y i j a b = ⊎_elim
    (λ (l : i < j). absurd (before x y i j a b l))
    (λ (g : j ≤ i). ⊎_elim
    (λ (l : j < i). absurd (before y x j i b a l))
    (λ (h : i ≤ j). let e : i ≡ j = omega arith in (same e a.here b.here, e))
    (lt-or-le j i))
    (lt-or-le i j)
  where
    before : (x y : Fault) (i j : ℕ) → First ls x i → First ls y j → i < j → ⊥
    before x y i j a b l =
        ⊎_elim
        (λ (h : (i < length ls) × (fault_at ls i ≡ Some x)). never-sound x h.1 (b.earlier i l))
        (λ (h : (i ≡ length ls) × (x ≡ Misplaced) × (due (frames_of ls) i ≡ End → ⊥)).
        ⊎_elim
        (λ (k : (j < length ls) × (fault_at ls j ≡ Some y)). omega (arith, h.0, k.0))
        (λ (k : (j ≡ length ls) × (y ≡ Misplaced) × (due (frames_of ls) j ≡ End → ⊥)). omega (arith, h.0, k.0))
        b.here)
        a.here

    same : i ≡ j → ((i < length ls) × (fault_at ls i ≡ Some x)) ⊎ ((i ≡ length ls) × (x ≡ Misplaced) × (due (frames_of ls) i ≡ End → ⊥))
        → ((j < length ls) × (fault_at ls j ≡ Some y)) ⊎ ((j ≡ length ls) × (y ≡ Misplaced) × (due (frames_of ls) j ≡ End → ⊥)) → x ≡ y
    same e (inl p) (inl q) = let z : Some x ≡ Some y = sym p.1 ∙ (ap (fault_at ls) e ∙ q.1) in cc
    same e (inl p) (inr q) = absurd (omega (arith, p.0, q.0))
    same e (inr p) (inl q) = absurd (omega (arith, p.0, q.0))
    same e (inr p) (inr q) = p.1 ∙ sym q.1

never_both : (ls : List (List ℕ)) (x : Fault) (i : ℕ) → First ls x i → Faultless ls → ⊥
never_both ls x i a b =
    ⊎_elim
    (λ (h : (i < length ls) × (fault_at ls i ≡ Some x)). never-sound x h.1 (b.sound i h.0))
    (λ (h : (i ≡ length ls) × (x ≡ Misplaced) × (due (frames_of ls) i ≡ End → ⊥)). h.2 (ap (due (frames_of ls)) h.0 ∙ b.ends))
    a.here

-- "given exactly if": a line that is the first with a fault is the one that is named, with that fault
pub exactly : (ls : List (List ℕ)) (x : Fault) (i : ℕ) → First ls x i → ((read_all ls).fault ≡ Some x) × ((read_all ls).before ≡ i)
exactly ls x i a = go (read_all ls).fault refl (stops ls)
  where
    n : ℕ
    n = (read_all ls).before

    go : (y : Option Fault) → (read_all ls).fault ≡ y → Stops ls (read_all ls).fault n → ((read_all ls).fault ≡ Some x) × (n ≡ i)
    go None e v = absurd (never_both ls x i a (rw e at v))
    go (Some y) e v = let s = first-only ls y x n i (rw e at v) a in (e ∙ ap (λ (z : Fault). Some z) s.0, s.1)

-- and a faultless text is read
pub exactly-read : (ls : List (List ℕ)) → Faultless ls → (read_all ls).fault ≡ None
exactly-read ls b = go (read_all ls).fault refl (stops ls)
  where
    go : (y : Option Fault) → (read_all ls).fault ≡ y → Stops ls (read_all ls).fault (read_all ls).before → (read_all ls).fault ≡ None
    go None e v = e
    go (Some y) e v = absurd (never_both ls y (read_all ls).before (rw e at v) b)
