-- The three laws of demand 3, over the lowest tables: held sets, striking out, writing back. The last two are order arguments: an assignment
-- that satisfies one program satisfies the other.
-- Assumes nothing.
use Prim.Native.Nat.{ℕ, zero, suc, ◌≤◌, ◌<◌}
use Rattle.std.specs.Prelude.{not, ◌||◌, cond, ◌≡◌, T, leb}
use Rattle.std.proofs.Common.{sym, ap, ◌∙◌, subst, le_refl, le_of_eq, le_trans, le_antisymm, arith, leb→le, le→leb}
use Rattle.std.proofs.Math.Path.{fun_ext}
use Rattle.std.proofs.Math.Decide.{dec_lt}
use Rattle.std.proofs.Math.Dec.{not_T}
use Rattle.grades.specs.Grades.{const, cap, cmpd, join}
use Rattle.grades.proofs.Laws.Grades.{cap-grows, join-grows}
use Rattle.grades.specs.HeldSets.{Within, held}
use Rattle.counting.specs.Laws.Tests.{cond-order, either-passes}
use Rattle.frames.specs.Program.{Program}
use Rattle.meaning.specs.Meaning.{Assignment, root_table}
use Rattle.meaning.proofs.Laws.Meaning.{root-antitone}
use Rattle.meaning.specs.Lowest.{method_count, entry_count, is_entry, on_entries, Givens, start, round, after, lowest_from, rounds_from, is_declared, declared_table, declarations, lowest}
use Rattle.meaning.proofs.Laws.Lowest.{is_entry-of, entry-method, on_entries-at, on_entries-outside}
use Rattle.meaning.specs.Constraints.{Entry, Meets, declared_root, main_table, forked_table, named_method, Met, Satisfies}
use Rattle.meaning.proofs.Laws.Constraints.{lowest-is, ClosedMet, closed-met, met-closed}
use Rattle.meaning.proofs.Laws.Answers.{satisfied-met}
use Rattle.meaning.specs.Changes.{Alike, StruckOut, WrittenBack, AntitoneAt, DeclaredAntitone}
use Rattle.meaning.proofs.Laws.Declarations.{alike-entries, alike-entry, alike-back, alike-root, alike-named, alike-fork, alike-length}

-- ---- held sets

root-falls : (p : Program) (a : Assignment) → ((n : ℕ) → AntitoneAt p a n) → (m H H' : ℕ) → Within H H' → root_table p a m H' ≤ root_table p a m H
root-falls p a h m H H' w = root-antitone p a m (λ n. unfold entry_count in (h n).falls) H H' w

module _ (p : Program) (g : Givens)
    (fixed : (m : ℕ) → m < method_count p → T (g.fixed m) → AntitoneAt p g.tables m)
    (floor : (m : ℕ) → m < method_count p → T (not (g.fixed m)) → AntitoneAt p g.floor m)
  where
    -- at entries of one method the tables may be looked at apart; elsewhere all is 0
    on_entries-antitone : (a : Assignment) → ((m : ℕ) → m < method_count p → AntitoneAt p a m) → (m : ℕ) → AntitoneAt p (on_entries p a) m
    on_entries-antitone a h m = record { falls = λ H H' l l' w. go H H' l l' w (dec_lt m (method_count p)) }
      where
        go : (H H' : ℕ) → H < entry_count p m → H' < entry_count p m → Within H H' → Dec (m < method_count p) → on_entries p a m H' ≤ on_entries p a m H
        go H H' l l' w (yes d) =
            omega
            (arith, on_entries-at p a m H (is_entry-of p m H d l), on_entries-at p a m H' (is_entry-of p m H' d l'), (h m d).falls H H' l l' w)
        go H H' l l' w (no d) =
            omega (arith, on_entries-outside p a m H' (not_T (is_entry p m H') (λ t. d (entry-method p m H' t))))

    cond-antitone : (m : ℕ) → m < method_count p → (b : Assignment) → (T (not (g.fixed m)) → AntitoneAt p b m)
        → AntitoneAt p (λ n H. cond (g.fixed n) (g.tables n H) (b n H)) m
    cond-antitone m d b h =
        record {
          falls = λ H H' l l' w.
              cond-order (g.fixed m) _ _ _ _ (λ t. (fixed m d t).falls H H' l l' w) (λ t. (h t).falls H H' l l' w);
        }

    after-antitone : (n m : ℕ) → AntitoneAt p (after p g n) m
    unfolding after start round
    after-antitone zero m =
        on_entries-antitone _
        (λ i d. cond-antitone i d (λ j H. cap (g.floor j H))
        (λ t. record { falls = λ H H' l l' w. cap-grows _ _ ((floor i d t).falls H H' l l' w) })) m
    after-antitone (suc n) m =
        on_entries-antitone _
        (λ i d. cond-antitone i d (λ j H. join (g.floor j H) (root_table p (after p g n) j H))
        (λ t. record {
          falls = λ H H' l l' w.
              join-grows _ _ _ _ ((floor i d t).falls H H' l l' w)
              (root-falls p (after p g n) (after-antitone n) i H H' w);
        })) m

-- the tables after each round of a text's own, and so the lowest ones
pub rounds-antitone : (p : Program) → DeclaredAntitone p → (n m : ℕ) → AntitoneAt p (after p (declarations p) n) m
unfolding declarations
rounds-antitone p h = after-antitone p (declarations p) h (λ i d t. record { falls = λ H H' l l' w. le_refl const })

pub lowest-antitone : (p : Program) → DeclaredAntitone p → (m : ℕ) → AntitoneAt p (lowest p) m
unfolding lowest lowest_from
lowest-antitone p h = rounds-antitone p h (rounds_from p (declarations p))

-- ---- closed constraints carried over

module _ (p q : Program) (s : Alike p q) (a : Assignment) where
  carry-main : Met p a main_table → Met q a main_table
  carry-main h = h

  carry-fork : (m n : ℕ) → Met p a (forked_table m n) → Met q a (forked_table m n)
  carry-fork m n h H l =
      subst (λ (u : ℕ). T (not (held H 0) || leb (a u H) cmpd)) (sym (alike-named p q s m n))
      (h H (subst (λ (k : ℕ). H < k) (alike-entries p q s (named_method q m n) ∙ ap (entry_count p) (alike-named p q s m n)) l))

  -- kinds 2 and 3 are the same in both, and kind 1 is left
  carry-closed : ClosedMet p a → ((m : ℕ) → m < method_count p → T (is_declared q m) → Met q a (declared_root m)) → ClosedMet q a
  carry-closed c kind1 =
      record {
        kind1 = λ m l t. kind1 m (subst (λ (n : ℕ). m < n) s.count l) t;
        kind2 = λ l. carry-main (c.kind2 (subst (λ (n : ℕ). 0 < n) s.count l));
        kind3 = λ m n l k t.
            carry-fork m n
            (c.kind3 m n (subst (λ (i : ℕ). m < i) s.count l) (subst (λ (i : ℕ). n < i) (alike-length p q s m) k)
            (subst T (alike-fork p q s m n) t));
      }

  -- kind 1 of q, from the order of numbers
  root-met : (m : ℕ) → ((H : ℕ) → H < entry_count p m → root_table p a m H ≤ declared_table q m H) → Met q a (declared_root m)
  root-met m h H l =
      le→leb (root_table q a m H) (declared_table q m H)
      (subst (λ (x : ℕ). x ≤ declared_table q m H) (sym (alike-root p q s a m H)) (h H (subst (λ (n : ℕ). H < n) (alike-entries p q s m) l)))

-- the root of a method whose kind 1 is met, or whose constraint is met, is no larger than its own table
root-own : (p : Program) (a : Assignment) → Meets p a → ClosedMet p a → (m H : ℕ) → Entry p m H → root_table p a m H ≤ a m H
root-own p a h c m H e =
    either-passes (root_table p a m H ≤ a m H) (is_declared p m)
    (λ t. le_trans (leb→le _ _ (c.kind1 m e.method t H e.set)) (le_of_eq (sym (h.declared m H e t))))
    (h.undeclared m H e)

-- ---- striking out

pub struck-satisfies : (p q : Program) → StruckOut p q → (a : Assignment) → Satisfies p a → Satisfies q a
struck-satisfies p q s a h =
    let alike = s.alike in
    let c = closed-met p a h.closed in
    let into : (m H : ℕ) → Entry q m H → Entry p m H = alike-entry p q alike in
    record {
      meets =
          record {
            declared = λ m H e t. h.meets.declared m H (into m H e) (s.declared m t) ∙ sym (s.table m H (into m H e) t);
            undeclared = λ m H e t.
                subst (λ (x : ℕ). x ≤ a m H) (sym (alike-root p q alike a m H)) (root-own p a h.meets c m H (into m H e));
          };
      closed =
          met-closed q a
          (carry-closed p q alike a c
          (λ m l t. root-met p q alike a m (λ H k.
          let e : Entry p m H = record { method = l; set = k } in
          subst (λ (x : ℕ). root_table p a m H ≤ x) (sym (s.table m H e t)) (leb→le _ _ (c.kind1 m l (s.declared m t) H k)))));
    }

-- ---- writing back

module _ (p q : Program) (s : WrittenBack p (lowest p) q) (h : Satisfies p (lowest p)) where
  pub written-satisfies : Satisfies q (lowest p)
  written-satisfies =
      let alike = s.alike in
      let c = closed-met p (lowest p) h.closed in
      let into : (m H : ℕ) → Entry q m H → Entry p m H = alike-entry p q alike in
      record {
        meets =
            record {
              declared = λ m H e t. sym (s.table m H (into m H e) t);
              undeclared = λ m H e t.
                  subst (λ (x : ℕ). x ≤ lowest p m H) (sym (alike-root p q alike (lowest p) m H))
                  (root-own p (lowest p) h.meets c m H (into m H e));
            };
        closed =
            met-closed q (lowest p)
            (carry-closed p q alike (lowest p) c
            (λ m l t. root-met p q alike (lowest p) m (λ H k.
            let e : Entry p m H = record { method = l; set = k } in
            subst (λ (x : ℕ). root_table p (lowest p) m H ≤ x) (sym (s.table m H e t)) (root-own p (lowest p) h.meets c m H e))));
      }

  -- the other way round, the lowest tables of q meet the constraints of p's methods
  written-meets : Meets p (lowest q)
  written-meets =
      let alike = s.alike in
      let sat = written-satisfies in
      let c = closed-met q (lowest q) (satisfied-met q (lowest p) sat) in
      let out : (m H : ℕ) → Entry p m H → Entry q m H = alike-back p q alike in
      record {
        declared = λ m H e t.
            (lowest-is q).meets.declared m H (out m H e) (s.declared m t) ∙ s.table m H e (s.declared m t) ∙ h.meets.declared m H e t;
        undeclared = λ m H e t.
            subst (λ (x : ℕ). x ≤ lowest q m H) (alike-root p q alike (lowest q) m H)
            (root-own q (lowest q) (lowest-is q).meets c m H (out m H e));
      }

  pub written-lowest : lowest q ≡ lowest p
  written-lowest =
      fun_ext (λ m. fun_ext (λ H.
      le_antisymm ((lowest-is q).least (lowest p) written-satisfies.meets m H) ((lowest-is p).least (lowest q) written-meets m H)))
