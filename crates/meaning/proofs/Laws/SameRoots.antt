-- Rounds look only at how many methods there are, how many entries each has, and their root tables: programs in which these are the same have
-- the same tables after each round, and so the same rounds and lowest tables. If their closed constraints are the same too, so is the answer.
-- Assumes nothing.
use Prim.Native.Nat.{ℕ, zero, suc, ◌*◌, ◌<◌}
use Rattle.std.specs.Prelude.{Bool, ◌&&◌, ◌||◌, ◌≡◌, T, leb, length}
use Rattle.std.proofs.Math.Bool.{true, false, not, cond}
use mathlib.Core.List.{List, [], ◌∷◌, ◌++◌}
use Rattle.std.proofs.Math.Path.{refl, ap, ap₂, fun_ext}
use Rattle.std.proofs.Common.{◌∙◌}
use Rattle.std.proofs.Math.Dec.{eqb, ltb}
use Rattle.grades.specs.Grades.{const, cap, cmpd, join}
use Rattle.grades.specs.HeldSets.{held}
use Rattle.frames.specs.Program.{Program, method_at}
use Rattle.meaning.specs.Meaning.{Assignment, root_table}
use Rattle.counting.specs.Counting.{every, first, up_to, total, together, only_if}
use Rattle.counting.specs.Laws.Counting.{first-same}
use Rattle.meaning.specs.Lowest.{method_count, entry_count, is_entry, on_entries, Givens, start, round, after, same, settled, open_entries, rounds_from, lowest_from, is_declared, declared_table, declarations, rounds, lowest}
use Rattle.meaning.specs.Constraints.{Closed, declared_root, main_table, forked_table, named_method, sets_of, holds_at, fork_at, forks_of, closed_of, closed_of_all, broken_set, is_broken, Finding, none_broken, broken, first_broken, finding, accepted, tables_of, answer_by, answer}

module _ (p q : Program)
    (count : method_count q ≡ method_count p)
    (entries : (m : ℕ) → entry_count q m ≡ entry_count p m)
    (g : Givens)
    (roots : (n m H : ℕ) → T (is_entry p m H) → root_table q (after p g n) m H ≡ root_table p (after p g n) m H)
  where
    same-on_entries : (a : Assignment) → on_entries q a ≡ on_entries p a
    unfolding on_entries is_entry
    same-on_entries a =
        fun_ext (λ m. fun_ext (λ H. ap₂ (λ (n k : ℕ). cond (ltb m n && ltb H k) (a m H) const) count (entries m)))

    same_start : start q g ≡ start p g
    unfolding start
    same_start = same-on_entries (λ m H. cond (g.fixed m) (g.tables m H) (cap (g.floor m H)))

    -- the entries alone count
    same_at : (a b : Assignment) → ((m H : ℕ) → T (is_entry p m H) → a m H ≡ b m H) → on_entries p a ≡ on_entries p b
    unfolding on_entries
    same_at a b h = fun_ext (λ m. fun_ext (λ H. go (is_entry p m H) (h m H)))
      where
        go : {x y : ℕ} (c : Bool) → (T c → x ≡ y) → cond c x const ≡ cond c y const
        go true h = h tt
        go false h = refl

    same-round : (n : ℕ) → round q g (after p g n) ≡ round p g (after p g n)
    unfolding round
    same-round n =
        same-on_entries (λ m H. cond (g.fixed m) (g.tables m H) (join (g.floor m H) (root_table q (after p g n) m H)))
        ∙ same_at _ _ (λ m H t. ap (λ (r : ℕ). cond (g.fixed m) (g.tables m H) (join (g.floor m H) r)) (roots n m H t))

    same_after : (n : ℕ) → after q g n ≡ after p g n
    unfolding after
    same_after zero = same_start
    same_after (suc n) = ap (round q g) (same_after n) ∙ same-round n

    same-same : (a b : Assignment) → same q a b ≡ same p a b
    unfolding same
    same-same a b =
        ap₂ (λ (n : ℕ) (k : ℕ → ℕ). every n (λ m. every (k m) (λ H. eqb (a m H) (b m H)))) count (fun_ext entries)

    same-settled : (n : ℕ) → settled q g n ≡ settled p g n
    unfolding settled
    same-settled n =
        same-same (after q g n) (round q g (after q g n))
        ∙ ap₂ (same p) (same_after n) (ap (round q g) (same_after n) ∙ same-round n)

    pub same-rounds : rounds_from q g ≡ rounds_from p g
    unfolding rounds_from open_entries
    same-rounds =
        ap₂ (λ (n : ℕ) (f : ℕ → Bool). first (4 * n) f)
        (ap₂ (λ (n : ℕ) (k : ℕ → ℕ). total n (λ m. cond (g.fixed m) 0 (k m))) count (fun_ext entries)) (fun_ext same-settled)

    pub same-lowest : lowest_from q g ≡ lowest_from p g
    unfolding lowest_from
    same-lowest = same_after (rounds_from q g) ∙ ap (after p g) same-rounds

-- ---- the answer

-- what is declared alike is given alike
pub same-declarations : (p q : Program) → ((m : ℕ) → is_declared q m ≡ is_declared p m) → ((m H : ℕ) → declared_table q m H ≡ declared_table p m H)
    → declarations q ≡ declarations p
unfolding declarations
same-declarations p q declared table = ap₂ givens (fun_ext declared) (fun_ext (λ m. fun_ext (table m)))
  where
    givens : (ℕ → Bool) → Assignment → Givens
    givens fixed tables = record { fixed = fixed; tables = tables; floor = λ m H. const }

-- q has the closed constraints of p, and in the tables a the same roots
module _ (p q : Program)
    (entries : (m : ℕ) → entry_count q m ≡ entry_count p m)
    (declared : (m : ℕ) → is_declared q m ≡ is_declared p m)
    (table : (m H : ℕ) → declared_table q m H ≡ declared_table p m H)
    (node_count : (m : ℕ) → length (method_at q m).nodes ≡ length (method_at p m).nodes)
    (forks : (m n : ℕ) → fork_at q m n ≡ fork_at p m n)
    (named : (m n : ℕ) → named_method q m n ≡ named_method p m n)
    (a : Assignment)
    (roots : (m H : ℕ) → H < entry_count p m → root_table q a m H ≡ root_table p a m H)
  where
    same-forks : (m : ℕ) → forks_of q m ≡ forks_of p m
    unfolding forks_of
    same-forks m =
        ap₂ (λ (fork : ℕ → Bool) (count : ℕ). together (λ n. only_if (fork n) (forked_table m n)) (up_to count)) (fun_ext (forks m)) (node_count m)

    same-closed : closed_of q ≡ closed_of p
    unfolding closed_of
    same-closed =
        fun_ext (λ m.
        ap₂ (λ (b : Bool) (f : List Closed). only_if b (declared_root m) ++ (only_if (eqb m 0) main_table ++ f)) (declared m) (same-forks m))

    same-sets : (c : Closed) → sets_of q c ≡ sets_of p c
    same-sets (declared_root m) = entries m
    same-sets main_table = refl
    same-sets (forked_table m n) = entries (named_method q m n) ∙ ap (entry_count p) (named m n)

    same-holds : (c : Closed) (H : ℕ) → H < sets_of p c → holds_at q a c H ≡ holds_at p a c H
    same-holds (declared_root m) H h = ap₂ leb (roots m H h) (table m H)
    same-holds main_table H h = refl
    same-holds (forked_table m n) H h = ap (λ (u : ℕ). (not (held H 0) || leb (a u H) cmpd)) (named m n)

    same_set : (c : Closed) → broken_set q a c ≡ broken_set p a c
    unfolding broken_set
    same_set c =
        ap (λ (n : ℕ). first n (λ H. not (holds_at q a c H))) (same-sets c)
        ∙ first-same (sets_of p c) _ _ (λ H h. ap not (same-holds c H h))

    same-broken : (cs : List Closed) → first_broken q a cs ≡ first_broken p a cs
    unfolding first_broken is_broken
    same-broken [] = refl
    same-broken (c ∷ cs) =
        ap₂ (λ (S : ℕ) (n : ℕ). cond (ltb S n) (broken c S) (first_broken q a cs)) (same_set c) (same-sets c)
        ∙ ap (λ (later : Finding). cond (ltb (broken_set p a c) (sets_of p c)) (broken c (broken_set p a c)) later) (same-broken cs)

    pub same-finding : (methods : List ℕ) → finding q a methods ≡ finding p a methods
    unfolding finding closed_of_all
    same-finding methods =
        same-broken (together (closed_of q) methods)
        ∙ ap (λ (of : ℕ → List Closed). first_broken p a (together of methods)) same-closed

pub same_answer_lem : (p q : Program) → method_count q ≡ method_count p → rounds q ≡ rounds p → tables_of q (lowest q) ≡ tables_of p (lowest p)
    → finding q (lowest q) (up_to (method_count p)) ≡ finding p (lowest p) (up_to (method_count p)) → answer q ≡ answer p
unfolding answer
same_answer_lem p q count r t f =
    ap (λ (n : ℕ). answer_by q (finding q (lowest q) (up_to n))) count ∙ ap (answer_by q) f
    ∙ go (finding p (lowest p) (up_to (method_count p)))
  where
    go : (x : Finding) → answer_by q x ≡ answer_by p x
    go none_broken = ap₂ accepted r t
    go (broken c H) = refl
