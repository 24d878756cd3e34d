-- The test for room, as the code goes through it; tables that pass it fit.
-- Assumes nothing.
use Rattle.std.specs.Prelude.{ℕ, zero, suc, ◌+◌, ◌-◌, ◌≤◌, ◌<◌, Bool, true, false, not, ◌&&◌, ◌||◌, List, ◌≡◌, eqb, get_or, length}
use Rattle.std.specs.Bool.{MatchBool}
use Rattle.std.specs.List.{AllWithin, HoldsAt, range_with_len}
use Rattle.std.proofs.lemmas.List.FromFn.{get_or-range_with_len, length-range_with_len}
use Rattle.std.proofs.Math.Path.{refl, ap, ap₂, subst}
use Rattle.std.proofs.Common.{sym, ◌∙◌, ltb→lt}
use native.Mathlib.Omega.{arith}
use borrow.Author.Tests.{lt-ltb, le-ltb, le-leb, lt-leb, eq-eqb, ne_eqb}
use Rattle.solver.specs.Nodes.{node_in}
use Rattle.counting.specs.Laws.Counting.{every-at, every-fails, every_more}
use Rattle.meaning.specs.Meaning.{first_name}
use Rattle.std.proofs.Math.Dec.{T, leb, ltb, leb→le}
use Rattle.grades.specs.HeldSets.{mask_names}
use Rattle.counting.specs.Counting.{every}
use Rattle.counting.specs.Laws.Tests.{both_left, both_right}
use Rattle.frames.specs.Layout.{layout}
use Rattle.frames.specs.Frames.{methods_in}
use Rattle.frames.specs.Tables.{cell, method_of}
use Rattle.solver.specs.Code.Engine.{first_node_frame, last_frame}
use Rattle.solver.specs.Room.{names_fit, lock_fits, locks_fit, has_room}
use Rattle.solver.specs.Laws.Views.{first-name}
use Rattle.solver.specs.Code.Rounds.{Fits}

every-true : (n : ℕ) (f : ℕ → Bool) → ((i : ℕ) → i < n → f i ≡ true) → every n f ≡ true
unfolding every
every-true zero f h = refl
every-true (suc n) f h = simp (every-true n f (λ i l. h i (omega arith)), h n (omega arith))

-- a test that `all` asks of the n numbers from a on
pub every_asked : (a n : ℕ) (f g : ℕ → Bool) (r : Bool) → ((i : ℕ) → f (a + i) ≡ g i)
    → MatchBool r (AllWithin (λ i. f i ≡ true) (range_with_len a n) 0 (length (range_with_len a n)))
    ((k : ℕ) × (k < length (range_with_len a n)) × HoldsAt (λ i. f i ≡ false) (range_with_len a n) k)
    → r ≡ every n g
every_asked a n f g true same h =
    sym (every-true n g (λ i l. sym (same i) ∙ ap f (sym (get_or-range_with_len a n i 0 l)) ∙ h i 0 (omega arith) (omega (arith, length-range_with_len a n))))
every_asked a n f g false same h =
    let few : h.0 < n = omega (arith, h.1, length-range_with_len a n) in
    sym (every-fails n g h.0 few (sym (same h.0) ∙ ap f (sym (get_or-range_with_len a n h.0 0 few)) ∙ h.2 0))

module _ (t : List ℕ) where
  pub names-none : names_fit t 0 ≡ true
  unfolding names_fit every
  names-none = refl

  pub names_more : (m : ℕ) → names_fit t m ≡ true → (method_of (cell t) m).k ≤ layout.most_names → names_fit t (m + 1) ≡ true
  unfolding names_fit
  names_more m e h = every_more m (λ i. leb (method_of (cell t) i).k layout.most_names) e (le-leb (method_of (cell t) m).k layout.most_names h)

  pub names-fail : (methods m : ℕ) → m < methods → layout.most_names < (method_of (cell t) m).k → names_fit t methods ≡ false
  unfolding names_fit
  names-fail methods m l h = every-fails methods (λ i. leb (method_of (cell t) i).k layout.most_names) m l (lt-leb (method_of (cell t) m).k layout.most_names h)

  pub locks-none : (first : ℕ) → locks_fit t first 0 ≡ true
  unfolding locks_fit every
  locks-none first = refl

  pub locks-more : (first n : ℕ) → locks_fit t first n ≡ true → lock_fits t (first + n) ≡ true → locks_fit t first (n + 1) ≡ true
  unfolding locks_fit
  locks-more first n e h = every_more n (λ i. lock_fits t (first + i)) e h

  pub locks-fail : (first count n : ℕ) → n < count → lock_fits t (first + n) ≡ false → locks_fit t first count ≡ false
  unfolding locks_fit
  locks-fail first count n l h = every-fails count (λ i. lock_fits t (first + i)) n l h

  pub lock-other : (j op : ℕ) → op ≡ (node_in t j).op → (op ≡ 6 → ⊥) → lock_fits t j ≡ true
  unfolding lock_fits
  lock-other j op e h = ap (λ (b : Bool). (not b || ltb (get_or (node_in t j).names 0 0) mask_names)) (ne_eqb (node_in t j).op 6 (λ f. h (e ∙ f)))

  lock-by : (j op : ℕ) (b : Bool) → op ≡ (node_in t j).op → op ≡ 6 → ltb (get_or (node_in t j).names 0 0) mask_names ≡ b → lock_fits t j ≡ b
  unfolding lock_fits
  lock-by j op b e six l = ap₂ (λ (x y : Bool). (not x || y)) (eq-eqb (node_in t j).op 6 (sym e ∙ six)) l

  pub lock-in : (j op name : ℕ) → op ≡ (node_in t j).op → name ≡ get_or (node_in t j).names 0 0 → op ≡ 6 → name < 8 → lock_fits t j ≡ true
  lock-in j op name e f six l = lock-by j op true e six (lt-ltb (get_or (node_in t j).names 0 0) mask_names (omega arith))

  pub lock-past : (j op name : ℕ) → op ≡ (node_in t j).op → name ≡ get_or (node_in t j).names 0 0 → op ≡ 6 → 8 ≤ name → lock_fits t j ≡ false
  lock-past j op name e f six l = lock-by j op false e six (le-ltb (get_or (node_in t j).names 0 0) mask_names (omega arith))

  -- tables that pass the tests fit
  pub room_fits : has_room t ≡ true → Fits t
  unfolding has_room names_fit locks_fit lock_fits
  room_fits e =
      let all = subst T (sym e) tt in
      let r1 = both_right (leb (methods_in (cell t)) layout.most_methods) _ all in
      let r2 = both_right (leb (last_frame t) layout.most_frames) _ r1 in
      let names = both_left (names_fit t (methods_in (cell t))) (locks_fit t (first_node_frame t) (last_frame t - first_node_frame t)) r2 in
      let locks = both_right (names_fit t (methods_in (cell t))) (locks_fit t (first_node_frame t) (last_frame t - first_node_frame t)) r2 in
      record {
        methods = leb→le (methods_in (cell t)) layout.most_methods (both_left (leb (methods_in (cell t)) layout.most_methods) _ all);
        names = λ m l. leb→le (method_of (cell t) m).k layout.most_names (every-at (methods_in (cell t)) (λ i. leb (method_of (cell t) i).k layout.most_names) names m l);
        frames = leb→le (last_frame t) layout.most_frames (both_left (leb (last_frame t) layout.most_frames) _ r1);
        locks = λ j from l six.
            let back : first_node_frame t + (j - first_node_frame t) ≡ j = omega arith in
            lock j six
            (subst (λ (i : ℕ). T (lock_fits t i)) back
            (every-at (last_frame t - first_node_frame t) (λ i. lock_fits t (first_node_frame t + i)) locks (j - first_node_frame t) (omega arith)));
      }
    where
      lock : (j : ℕ) → (node_in t j).op ≡ 6 → T (not (eqb (node_in t j).op 6) || ltb (get_or (node_in t j).names 0 0) mask_names) → first_name (node_in t j).names < mask_names
      lock j six p =
          subst (λ (n : ℕ). n < mask_names) (sym (first-name t j))
          (ltb→lt (get_or (node_in t j).names 0 0) mask_names
          (subst (λ (b : Bool). T (not b || ltb (get_or (node_in t j).names 0 0) mask_names)) (eq-eqb (node_in t j).op 6 six) p))

  -- the test of all four, one after the other
  pub room-methods : layout.most_methods < methods_in (cell t) → has_room t ≡ false
  unfolding has_room
  room-methods h = rw (lt-leb (methods_in (cell t)) layout.most_methods h)

  pub room-frames : methods_in (cell t) ≤ layout.most_methods → layout.most_frames < last_frame t → has_room t ≡ false
  unfolding has_room
  room-frames h l = rw (le-leb (methods_in (cell t)) layout.most_methods h, lt-leb (last_frame t) layout.most_frames l)

  pub room-rest : methods_in (cell t) ≤ layout.most_methods → last_frame t ≤ layout.most_frames → has_room t ≡ (names_fit t (methods_in (cell t)) && locks_fit t (first_node_frame t) (last_frame t - first_node_frame t))
  unfolding has_room
  room-rest h l = rw (le-leb (methods_in (cell t)) layout.most_methods h, le-leb (last_frame t) layout.most_frames l)
