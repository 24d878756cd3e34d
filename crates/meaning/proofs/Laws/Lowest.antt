-- What is known of the rounds and of the tables that they reach, whatever methods are fixed and whatever the floor: rounds only rise, they
-- stop within 4 times the open entries, and where they stop are the lowest tables that keep to what is given.
-- Assumes nothing.
use Prim.Native.Nat.{ℕ, zero, suc, ◌*◌, ◌≤◌, ◌<◌}
use Rattle.std.specs.Prelude.{Bool, not, ◌≡◌, ltb}
use Rattle.std.proofs.Math.Bool.{true, false, cond}
use Rattle.std.proofs.Math.Path.{sym, ap, subst}
use Rattle.std.proofs.Common.{◌∙◌, le_refl, le_trans, le_antisymm, lt→ltb, ltb→lt, T_not, eq-eqb}
use Rattle.std.proofs.Math.Nat.{le_of_eq}
use native.Mathlib.Omega.{arith}
use Rattle.std.proofs.Math.Decide.{dec_lt}
use Rattle.std.proofs.Math.Dec.{T, eqb, eqb→eq, not_T}
use Rattle.grades.specs.Grades.{const, cap, error, join}
use Rattle.grades.proofs.Laws.Grades.{cap-grade, cap-error, cap-le, join-error, join-grows, join-above-first, join-above-second, join-lowest}
use Rattle.counting.specs.Laws.Tests.{both_left, both_right, cond_yes, cond_no, cond-grows, cond-most, cond-least, either-passes, both_of}
use Rattle.frames.specs.Program.{Program}
use Rattle.meaning.specs.Meaning.{Assignment, root_table}
use Rattle.meaning.proofs.Laws.Meaning.{root-error, root-grows, Calls, root-calls}
use Rattle.counting.specs.Counting.{every, total}
use Rattle.counting.specs.Laws.Counting.{first-bound, first_passes, first-least, every_of, somewhere, total-grows, total-rises, total-fourfold, total-ones, total-none, every-at}
use Rattle.meaning.specs.Lowest.{NoWorse, method_count, entry_count, is_entry, on_entries, Givens, Keeps, start, round, after, same, settled, open_entries, rounds_from, lowest_from}

-- ---- entries

pub is_entry-of : (p : Program) (m H : ℕ) → m < method_count p → H < entry_count p m → T (is_entry p m H)
unfolding is_entry
is_entry-of p m H h g = both_of (ltb m (method_count p)) (ltb H (entry_count p m)) (lt→ltb _ _ h) (lt→ltb _ _ g)

pub entry-method : (p : Program) (m H : ℕ) → T (is_entry p m H) → m < method_count p
unfolding is_entry
entry-method p m H t = ltb→lt _ _ (both_left (ltb m (method_count p)) (ltb H (entry_count p m)) t)

pub entry_set : (p : Program) (m H : ℕ) → T (is_entry p m H) → H < entry_count p m
unfolding is_entry
entry_set p m H t = ltb→lt _ _ (both_right (ltb m (method_count p)) (ltb H (entry_count p m)) t)

on_entries-grows : (p : Program) (a b : Assignment) → NoWorse a b → NoWorse (on_entries p a) (on_entries p b)
unfolding on_entries
on_entries-grows p a b h m H = cond-grows (is_entry p m H) _ _ _ _ (h m H) (le_refl const)

on_entries-most : (p : Program) (a b : Assignment) → ((m H : ℕ) → T (is_entry p m H) → a m H ≤ b m H) → NoWorse (on_entries p a) b
unfolding on_entries
on_entries-most p a b h m H = cond-most (is_entry p m H) _ _ _ (h m H) (λ t. omega arith)

pub on_entries-at : (p : Program) (a : Assignment) (m H : ℕ) → T (is_entry p m H) → on_entries p a m H ≡ a m H
unfolding on_entries
on_entries-at p a m H t = cond_yes (is_entry p m H) _ _ t

pub on_entries-outside : (p : Program) (a : Assignment) (m H : ℕ) → T (not (is_entry p m H)) → on_entries p a m H ≡ 0
unfolding on_entries
on_entries-outside p a m H t = cond_no (is_entry p m H) _ _ t

module _ (p : Program) (g : Givens) where
  -- ---- one round

  pub round-grows : (a b : Assignment) → NoWorse a b → NoWorse (round p g a) (round p g b)
  unfolding round
  round-grows a b h =
      on_entries-grows p _ _ (λ m H. cond-grows (g.fixed m) _ _ _ _ (le_refl _) (join-grows _ _ _ _ (le_refl _) (root-grows p b a m H h)))

  start-round : (a : Assignment) → NoWorse (start p g) (round p g a)
  unfolding start round
  start-round a = on_entries-grows p _ _ (λ m H. cond-grows (g.fixed m) _ _ _ _ (le_refl _) (join-above-first _ _))

  pub round-fixed : (a : Assignment) (m H : ℕ) → T (is_entry p m H) → T (g.fixed m) → round p g a m H ≡ g.tables m H
  unfolding round
  round-fixed a m H t f = on_entries-at p _ m H t ∙ cond_yes (g.fixed m) _ _ f

  pub round-open : (a : Assignment) (m H : ℕ) → T (is_entry p m H) → T (not (g.fixed m)) → round p g a m H ≡ join (g.floor m H) (root_table p a m H)
  unfolding round
  round-open a m H t f = on_entries-at p _ m H t ∙ cond_no (g.fixed m) _ _ f

  pub round-outside : (a : Assignment) (m H : ℕ) → T (not (is_entry p m H)) → round p g a m H ≡ 0
  unfolding round
  round-outside a m H t = on_entries-outside p _ m H t

  -- a method whose callees' tables did not change gets the same table
  pub round-calls : (a b : Assignment) (m : ℕ) → ((c : ℕ) → Calls p m c → (S : ℕ) → S < entry_count p c → b c S ≡ a c S)
      → (H : ℕ) → round p g b m H ≡ round p g a m H
  unfolding round on_entries
  round-calls a b m h H =
      ap (λ (x : ℕ). cond (is_entry p m H) (cond (g.fixed m) (g.tables m H) (join (g.floor m H) x)) const)
      (root-calls p a b m (λ c s S l. h c s S (unfold entry_count in l)) H)

  -- what a round leaves alone keeps to what is given
  pub fixed-keeps : (a : Assignment) → ((m H : ℕ) → T (is_entry p m H) → round p g a m H ≡ a m H) → Keeps p g a
  fixed-keeps a e =
      record {
        fixed = λ m H t f. sym (e m H t) ∙ round-fixed a m H t f;
        floor = λ m H t f. omega (arith, e m H t, round-open a m H t f, join-above-first (g.floor m H) (root_table p a m H));
        root = λ m H t f.
            omega (
              arith,
              e m H t,
              round-open a m H t f,
              join-above-second (g.floor m H) (root_table p a m H),
              cap-grade (root_table p a m H) (root-error p a m H),
            );
      }

  -- ---- nothing that keeps to what is given is below the start, or below a round from tables that it is not below

  pub start-below : (b : Assignment) → Keeps p g b → NoWorse (start p g) b
  unfolding start
  start-below b k =
      on_entries-most p _ b (λ m H t. cond-most (g.fixed m) _ _ _ (λ f. le_of_eq (sym (k.fixed m H t f))) (λ f. k.floor m H t f))

  pub round-below : (a b : Assignment) → Keeps p g b → NoWorse a b → NoWorse (round p g a) b
  unfolding round
  round-below a b k h =
      on_entries-most p _ b
      (λ m H t. cond-most (g.fixed m) _ _ _ (λ f. le_of_eq (sym (k.fixed m H t f)))
      (λ f. join-lowest _ _ _ (k.floor m H t f)
      (le_trans (cap-le (root_table p a m H)) (le_trans (root-grows p b a m H h) (k.root m H t f)))))

  pub after-below : (n : ℕ) (b : Assignment) → Keeps p g b → NoWorse (after p g n) b
  unfolding after
  after-below zero b k = start-below b k
  after-below (suc n) b k = round-below (after p g n) b k (after-below n b k)

  -- ---- "rounds only rise"

  pub after-rises : (n : ℕ) → NoWorse (after p g n) (after p g (suc n))
  unfolding after
  after-rises zero = start-round (start p g)
  after-rises (suc n) = round-grows (after p g n) (after p g (suc n)) (after-rises n)

  -- ---- rounds stop: the sum of the open entries rises with each change, and is at most 4 times their number

  pub start-open : (m H : ℕ) → T (is_entry p m H) → T (not (g.fixed m)) → start p g m H ≡ cap (g.floor m H)
  unfolding start
  start-open m H t f = on_entries-at p _ m H t ∙ cond_no (g.fixed m) _ _ f

  pub after-fixed : (n m H : ℕ) → T (is_entry p m H) → T (g.fixed m) → after p g n m H ≡ g.tables m H
  unfolding after start
  after-fixed zero m H t f = on_entries-at p _ m H t ∙ cond_yes (g.fixed m) _ _ f
  after-fixed (suc n) m H t f = round-fixed (after p g n) m H t f

  pub after-outside : (n m H : ℕ) → T (not (is_entry p m H)) → after p g n m H ≡ 0
  unfolding after start
  after-outside zero m H t = on_entries-outside p _ m H t
  after-outside (suc n) m H t = round-outside (after p g n) m H t

  -- open entries stay within the grades
  pub after-error : (n m H : ℕ) → T (is_entry p m H) → T (not (g.fixed m)) → after p g n m H ≤ error
  unfolding after start
  after-error zero m H t f =
      subst (λ (x : ℕ). x ≤ error) (sym (start-open m H t f)) (cap-error (g.floor m H))
  after-error (suc n) m H t f =
      omega (arith, round-open (after p g n) m H t f, join-error (g.floor m H) (root_table p (after p g n) m H))

  open_sum : Assignment → ℕ
  open_sum a = total (method_count p) (λ m. cond (g.fixed m) 0 (total (entry_count p m) (a m)))

  open_sum-bound : (n : ℕ) → open_sum (after p g n) ≤ 4 * open_entries p g
  unfolding open_sum open_entries
  open_sum-bound n =
      total-fourfold (method_count p) _ _
      (λ m l. fourfold (g.fixed m) _ _ (λ f. subst (λ (x : ℕ). total (entry_count p m) (after p g n m) ≤ 4 * x) (total-ones (entry_count p m))
      (total-fourfold (entry_count p m) _ _ (λ H k. omega (arith, after-error n m H (is_entry-of p m H l k) f)))))
    where
      fourfold : (c : Bool) (x y : ℕ) → (T (not c) → x ≤ 4 * y) → cond c 0 x ≤ 4 * cond c 0 y
      fourfold true x y h = omega arith
      fourfold false x y h = h tt

  open_sum-rises : (a b : Assignment) → NoWorse a b → (m H : ℕ) → T (is_entry p m H) → T (not (g.fixed m)) → a m H < b m H → open_sum a < open_sum b
  unfolding open_sum
  open_sum-rises a b h m H t f l =
      total-rises (method_count p) _ _
      (λ n k. cond-grows (g.fixed n) _ _ _ _ (le_refl 0) (total-grows (entry_count p n) _ _ (λ S s. h n S))) m (entry-method p m H t)
      (subst₂-lt (cond_no (g.fixed m) 0 (total (entry_count p m) (a m)) f) (cond_no (g.fixed m) 0 (total (entry_count p m) (b m)) f)
      (total-rises (entry_count p m) _ _ (λ S s. h m S) H (entry_set p m H t) l))
    where
      subst₂-lt : {x y x' y' : ℕ} → x' ≡ x → y' ≡ y → x < y → x' < y'
      subst₂-lt d e s = omega arith

  -- where two assignments differ
  pub differs : (a b : Assignment) → T (not (same p a b)) → (m H : ℕ) × T (is_entry p m H) × (a m H ≡ b m H → ⊥)
  unfolding same
  differs a b t =
      let method = somewhere (method_count p) (λ m. every (entry_count p m) (λ H. eqb (a m H) (b m H))) t in
      let m = method.0 in
      let entry = somewhere (entry_count p m) (λ H. eqb (a m H) (b m H)) method.2 in
      let H = entry.0 in
      (m, H, is_entry-of p m H method.1 entry.1, unlike (a m H) (b m H) entry.2)
    where
      unlike : (x y : ℕ) → T (not (eqb x y)) → x ≡ y → ⊥
      unlike x y t e = subst (λ (c : Bool). T (not c)) (eq-eqb x y e) t

  pub same_at : (a b : Assignment) → T (same p a b) → (m H : ℕ) → T (is_entry p m H) → a m H ≡ b m H
  unfolding same
  same_at a b t m H e =
      eqb→eq (a m H) (b m H)
      (every-at (entry_count p m) (λ S. eqb (a m S) (b m S))
      (every-at (method_count p) (λ n. every (entry_count p n) (λ S. eqb (a n S) (b n S))) t m (entry-method p m H e)) H (entry_set p m H e))

  pub same_of : (a b : Assignment) → ((m H : ℕ) → T (is_entry p m H) → a m H ≡ b m H) → T (same p a b)
  unfolding same
  same_of a b h =
      every_of (method_count p) _
      (λ m l. every_of (entry_count p m) _ (λ H k. subst T (sym (eq-eqb (a m H) (b m H) (h m H (is_entry-of p m H l k)))) tt))

  changed : (n : ℕ) → T (not (settled p g n)) → open_sum (after p g n) < open_sum (after p g (suc n))
  unfolding settled after
  changed n t =
      let d = differs (after p g n) (round p g (after p g n)) t in
      let m = d.0 in
      let H = d.1 in
      open_sum-rises (after p g n) (after p g (suc n)) (after-rises n) m H d.2
      (not_T (g.fixed m) (λ f. d.3 (after-fixed n m H d.2 f ∙ sym (after-fixed (suc n) m H d.2 f))))
      (below (after-rises n m H) d.3)
    where
      below : {x y : ℕ} → x ≤ y → (x ≡ y → ⊥) → x < y
      below h m = omega arith

  climbs : (n : ℕ) → ((i : ℕ) → i < n → T (not (settled p g i))) → n ≤ open_sum (after p g n)
  climbs zero h = omega arith
  climbs (suc n) h = omega (arith, climbs n (λ i l. h i (omega arith)), changed n (h n (le_refl (suc n))))

  -- "Rounds is the least n such that round n+1 changes nothing. It is at most 4 times the number of entries of undeclared methods"
  pub rounds-bound : rounds_from p g ≤ 4 * open_entries p g
  unfolding rounds_from
  rounds-bound = first-bound (4 * open_entries p g) (settled p g)

  pub rounds-least : (i : ℕ) → i < rounds_from p g → T (not (settled p g i))
  unfolding rounds_from
  rounds-least i h = first-least (4 * open_entries p g) (settled p g) i h

  pub rounds-settled : T (settled p g (rounds_from p g))
  rounds-settled = go (dec_lt (rounds_from p g) (4 * open_entries p g))
    where
      go : Dec (rounds_from p g < 4 * open_entries p g) → T (settled p g (rounds_from p g))
      go (yes h) = unfold rounds_from in first_passes (4 * open_entries p g) (settled p g) h
      go (no h) =
          either-passes (T (settled p g (rounds_from p g))) (settled p g (rounds_from p g)) (λ t. t)
          (λ t. absurd
          (over (climbs (rounds_from p g) rounds-least) (changed (rounds_from p g) t) (open_sum-bound (suc (rounds_from p g))) h))
        where
          over : rounds_from p g ≤ open_sum (after p g (rounds_from p g))
              → open_sum (after p g (rounds_from p g)) < open_sum (after p g (suc (rounds_from p g)))
              → open_sum (after p g (suc (rounds_from p g))) ≤ 4 * open_entries p g
              → (rounds_from p g < 4 * open_entries p g → ⊥) → ⊥
          over x y z w = omega arith

  -- a count at which nothing changes, and before which each round changes something, is the rounds
  pub rounds-unique : (r : ℕ) → T (settled p g r) → ((i : ℕ) → i < r → T (not (settled p g i))) → r ≡ rounds_from p g
  rounds-unique r t least = go (dec_lt r (rounds_from p g)) (dec_lt (rounds_from p g) r)
    where
      go : Dec (r < rounds_from p g) → Dec (rounds_from p g < r) → r ≡ rounds_from p g
      go (yes h) d = absurd (T_not (settled p g r) (rounds-least r h) t)
      go (no h) (yes k) = absurd (T_not (settled p g (rounds_from p g)) (least (rounds_from p g) k) rounds-settled)
      go (no h) (no k) = omega arith

  -- "with none undeclared it is 0"
  pub rounds-none : ((m : ℕ) → m < method_count p → T (g.fixed m)) → rounds_from p g ≡ 0
  rounds-none h =
      let none : open_entries p g ≡ 0 =
      unfold open_entries in total-none (method_count p) _ (λ m l. cond_yes (g.fixed m) 0 (entry_count p m) (h m l)) in
      omega (arith, rounds-bound)

  -- ---- where rounds stop

  pub lowest-round : (m H : ℕ) → round p g (lowest_from p g) m H ≡ lowest_from p g m H
  unfolding lowest_from
  lowest-round m H =
      either-passes (round p g (after p g (rounds_from p g)) m H ≡ after p g (rounds_from p g) m H) (is_entry p m H)
      (λ t. sym (same_at (after p g (rounds_from p g)) (round p g (after p g (rounds_from p g))) (unfold settled in rounds-settled) m H t))
      (λ t. round-outside (after p g (rounds_from p g)) m H t ∙ sym (after-outside (rounds_from p g) m H t))

  -- "where they stop, every undeclared constraint is met"
  pub lowest-keeps : Keeps p g (lowest_from p g)
  lowest-keeps = fixed-keeps (lowest_from p g) (λ m H t. lowest-round m H)

  -- "every assignment that meets them is nowhere lower"
  pub lowest-least : (b : Assignment) → Keeps p g b → NoWorse (lowest_from p g) b
  unfolding lowest_from
  lowest-least b k = after-below (rounds_from p g) b k

  pub lowest-outside : (m H : ℕ) → T (not (is_entry p m H)) → lowest_from p g m H ≡ 0
  unfolding lowest_from
  lowest-outside m H t = after-outside (rounds_from p g) m H t

  pub lowest-fixed : (m H : ℕ) → T (is_entry p m H) → T (g.fixed m) → lowest_from p g m H ≡ g.tables m H
  unfolding lowest_from
  lowest-fixed m H t f = after-fixed (rounds_from p g) m H t f

  -- where the fixed tables are grades, all are
  pub lowest-error : ((m H : ℕ) → T (is_entry p m H) → T (g.fixed m) → g.tables m H ≤ error) → (m H : ℕ) → lowest_from p g m H ≤ error
  lowest-error h m H =
      either-passes (lowest_from p g m H ≤ error) (is_entry p m H)
      (λ t. either-passes (lowest_from p g m H ≤ error) (g.fixed m)
      (λ f. subst (λ (x : ℕ). x ≤ error) (sym (lowest-fixed m H t f)) (h m H t f))
      (λ f. unfold lowest_from in after-error (rounds_from p g) m H t f))
      (λ t. subst (λ (x : ℕ). x ≤ error) (sym (lowest-outside m H t)) (omega arith))

  -- the lowest tables are the only ones that keep to what is given and are nowhere above any others that do
  pub lowest-unique : (a : Assignment) → Keeps p g a → ((b : Assignment) → Keeps p g b → NoWorse a b)
      → (m H : ℕ) → a m H ≡ lowest_from p g m H
  lowest-unique a k l m H = le_antisymm (l (lowest_from p g) lowest-keeps m H) (lowest-least a k m H)

  -- ---- any order of single replacements

  -- the tables with some entries, any ones, replaced by what a round gives there
  abbrev pub replace : (which : ℕ → ℕ → Bool) → Assignment → Assignment
  replace which a m H = cond (which m H) (round p g a m H) (a m H)

  -- what some replacements from the start reach
  pub data Reached : Assignment → Type 0 where
    begin : Reached (start p g)
    then : (which : ℕ → ℕ → Bool) {a : Assignment} → Reached a → Reached (replace which a)

  -- whole rounds are replacements too
  pub after-reached : (n : ℕ) → Reached (after p g n)
  unfolding after
  after-reached zero = begin
  after-reached (suc n) = then (λ m H. true) (after-reached n)

  -- "any order of single replacements from all 0 stays at or below the lowest tables"
  pub reached-below : (a : Assignment) → Reached a → NoWorse a (lowest_from p g)
  reached-below a begin = start-below (lowest_from p g) lowest-keeps
  reached-below a (then which {a = b} r) = λ m H.
      cond-most (which m H) _ _ _
      (λ t. round-below b (lowest_from p g) lowest-keeps (reached-below b r) m H) (λ t. reached-below b r m H)

  replace-rises : (which : ℕ → ℕ → Bool) (a : Assignment) → NoWorse a (round p g a) → NoWorse a (replace which a)
  replace-rises which a h m H = cond-least (which m H) _ _ _ (h m H) (le_refl _)

  -- a round would only raise what replacements reach, and so does each of them
  pub reached-rises : (a : Assignment) → Reached a → NoWorse a (round p g a)
  reached-rises a begin = start-round (start p g)
  reached-rises a (then which {a = b} r) = λ m H.
      let up : NoWorse (round p g b) (round p g (replace which b)) =
      round-grows b (replace which b) (replace-rises which b (reached-rises b r)) in
      cond-most (which m H) _ _ _ (λ t. up m H) (λ t. le_trans (reached-rises b r m H) (up m H))

  -- "where no method would change, it is at them"
  pub reached-lowest : (a : Assignment) → Reached a → ((m H : ℕ) → T (is_entry p m H) → round p g a m H ≡ a m H)
      → (m H : ℕ) → a m H ≡ lowest_from p g m H
  reached-lowest a r e m H = le_antisymm (reached-below a r m H) (lowest-least a (fixed-keeps a e) m H)
