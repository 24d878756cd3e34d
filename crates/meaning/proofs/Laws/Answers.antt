-- What is known of the answer: its tables are the lowest ones, and it is accepted exactly if those meet the closed constraints.
-- Assumes nothing.
use Rattle.std.specs.Prelude.{ℕ, zero, suc, ◌+◌, ◌≤◌, ◌<◌, ◌≡◌, refl, T, length}
use mathlib.Core.List.{List, [], map}
use Rattle.std.proofs.Common.{sym, ◌∙◌, subst, not-suc-le-zero, le_of_suc-le-suc, le_antisymm, zero-add, add-zero, add-suc, suc-add, arith, ext_get_or}
use Rattle.std.proofs.Math.Path.{ap, fun_ext}
use Rattle.std.proofs.Math.Decide.{dec_lt}
use Rattle.std.proofs.Math.Dec.{not_T}
use Rattle.std.proofs.Math.ListN.{get_or, get_or-eq_default}
use Rattle.std.proofs.lemmas.List.{length-map}
use Rattle.grades.specs.Grades.{const}
use Rattle.frames.specs.Program.{Program}
use Rattle.meaning.specs.Meaning.{Assignment}
use Rattle.counting.specs.Counting.{numbers, up_to, All}
use Rattle.counting.specs.Laws.Counting.{all_map}
use Rattle.meaning.specs.Lowest.{method_count, entry_count, is_entry, declarations, rounds, lowest}
use Rattle.meaning.proofs.Laws.Lowest.{entry-method, entry_set, lowest-outside}
use Rattle.meaning.specs.Constraints.{Closed, Met, closed, Satisfies, Finding, none_broken, broken, first_broken, finding, method_of, kind_of, node_of, Answer, accepted, refused, tables_of, entry_of, answer_by, answer, IsLowest, FirstBroken}
use Rattle.meaning.proofs.Laws.Constraints.{lowest-is, met-lower, met-none, none-met, broken-first, first-broken}

-- ---- the tables of an answer

length-numbers : (i n : ℕ) → length (numbers i n) ≡ n
length-numbers i zero = refl
length-numbers i (suc n) = ap suc (length-numbers (suc i) n)

at-number : {A : Type 0} (f : ℕ → A) (i n j : ℕ) (d : A) → j < n → get_or (map f (numbers i n)) j d ≡ f (i + j)
at-number f i zero j d h = absurd (not-suc-le-zero h)
at-number f i (suc n) zero d h = ap f (sym (add-zero i))
at-number f i (suc n) (suc j) d h = at-number f (suc i) n j d (le_of_suc-le-suc h) ∙ ap f (suc-add i j ∙ sym (add-suc i j))

pub at-up_to : {A : Type 0} (f : ℕ → A) (n j : ℕ) (d : A) → j < n → get_or (map f (up_to n)) j d ≡ f j
at-up_to f n j d h = at-number f zero n j d h ∙ ap f (zero-add j)

pub past-up_to : {A : Type 0} (f : ℕ → A) (n j : ℕ) (d : A) → n ≤ j → get_or (map f (up_to n)) j d ≡ d
past-up_to f n j d h =
    get_or-eq_default (map f (up_to n)) d (subst (λ (k : ℕ). k ≤ j) (sym (length-map (up_to n) f ∙ length-numbers zero n)) h)

pub tables-length : (p : Program) (a : Assignment) → length (tables_of p a) ≡ method_count p
unfolding tables_of
tables-length p a = length-map (up_to (method_count p)) _ ∙ length-numbers zero (method_count p)

pub table-length : (p : Program) (a : Assignment) (m : ℕ) → m < method_count p → length (get_or (tables_of p a) m []) ≡ entry_count p m
unfolding tables_of
table-length p a m h =
    ap length (at-up_to (λ n. map (a n) (up_to (entry_count p n))) (method_count p) m [] h)
    ∙ length-map (up_to (entry_count p m)) (a m) ∙ length-numbers zero (entry_count p m)

-- entry H of method m
pub entry_at : (p : Program) (a : Assignment) (m H : ℕ) → m < method_count p → H < entry_count p m → entry_of (tables_of p a) m H ≡ a m H
unfolding entry_of tables_of
entry_at p a m H h g =
    ap (λ (l : List ℕ). get_or l H const) (at-up_to (λ n. map (a n) (up_to (entry_count p n))) (method_count p) m [] h)
    ∙ at-up_to (a m) (entry_count p m) H const g

-- the answer's tables are the lowest ones, at every number
pub entry-lowest : (p : Program) (m H : ℕ) → entry_of (tables_of p (lowest p)) m H ≡ lowest p m H
entry-lowest p m H = go (dec_lt m (method_count p)) (dec_lt H (entry_count p m))
  where
    outside : (T (is_entry p m H) → ⊥) → lowest p m H ≡ 0
    outside t = unfold lowest in lowest-outside p (declarations p) m H (not_T (is_entry p m H) t)

    no-method : method_count p ≤ m → entry_of (tables_of p (lowest p)) m H ≡ 0
    no-method h =
        unfold entry_of tables_of in
        ap (λ (l : List ℕ). get_or l H const) (past-up_to (λ n. map (lowest p n) (up_to (entry_count p n))) (method_count p) m [] h)

    no-set : m < method_count p → entry_count p m ≤ H → entry_of (tables_of p (lowest p)) m H ≡ 0
    no-set h g =
        unfold entry_of tables_of in
        ap (λ (l : List ℕ). get_or l H const) (at-up_to (λ n. map (lowest p n) (up_to (entry_count p n))) (method_count p) m [] h)
        ∙ past-up_to (lowest p m) (entry_count p m) H const g

    go : Dec (m < method_count p) → Dec (H < entry_count p m) → entry_of (tables_of p (lowest p)) m H ≡ lowest p m H
    go (yes h) (yes g) = entry_at p (lowest p) m H h g
    go (yes h) (no g) = no-set h (omega arith) ∙ sym (outside (λ t. g (entry_set p m H t)))
    go (no h) d = no-method (omega arith) ∙ sym (outside (λ t. h (entry-method p m H t)))

pub tables-lowest : (p : Program) → entry_of (tables_of p (lowest p)) ≡ lowest p
tables-lowest p = fun_ext (λ m. fun_ext (λ H. entry-lowest p m H))

-- two lowest assignments are one
pub one-lowest : (p : Program) (a b : Assignment) → IsLowest p a → IsLowest p b → a ≡ b
one-lowest p a b h g = fun_ext (λ m. fun_ext (λ H. le_antisymm (h.least b g.meets m H) (g.least a h.meets m H)))

-- tables of a program's shape are told by their entries
pub tables-of-entries : (p : Program) (t : List (List ℕ)) → length t ≡ method_count p
    → ((m : ℕ) → m < method_count p → length (get_or t m []) ≡ entry_count p m) → t ≡ tables_of p (entry_of t)
unfolding entry_of
tables-of-entries p t count shape =
    ext_get_or [] t (tables_of p (entry_of t)) (count ∙ sym (tables-length p (entry_of t)))
    (λ m h. let l : m < method_count p = subst (λ (n : ℕ). m < n) count h in
    ext_get_or const (get_or t m []) (get_or (tables_of p (entry_of t)) m []) (shape m l ∙ sym (table-length p (entry_of t) m l))
    (λ H g. sym (entry_at p (entry_of t) m H l (subst (λ (n : ℕ). H < n) (shape m l) g))))

-- ---- accepted or refused

-- the answer by the finding over the lowest tables
by-finding : (p : Program) (v : Finding) → first_broken p (lowest p) (closed p) ≡ v → answer p ≡ answer_by p v
unfolding answer finding closed
by-finding p v e = ap (answer_by p) e

pub accepted-by : (p : Program) → All (Met p (lowest p)) (closed p) → answer p ≡ accepted (rounds p) (tables_of p (lowest p))
accepted-by p h = by-finding p none_broken (met-none p (lowest p) (closed p) h)

-- each answer comes from its finding
data FromFinding (p : Program) : Answer → Type 0 where
  from_none : All (Met p (lowest p)) (closed p) → FromFinding p (accepted (rounds p) (tables_of p (lowest p)))
  from_broken : (c : Closed) (H : ℕ) → FirstBroken p (lowest p) (closed p) c H → FromFinding p (refused (method_of c) (kind_of c) (node_of c) H)

from-finding : (p : Program) → FromFinding p (answer p)
from-finding p = go (first_broken p (lowest p) (closed p)) refl
  where
    go : (v : Finding) → first_broken p (lowest p) (closed p) ≡ v → FromFinding p (answer p)
    go none_broken e = subst (FromFinding p) (sym (by-finding p none_broken e)) (from_none (none-met p (lowest p) (closed p) e))
    go (broken c H) e =
        subst (FromFinding p) (sym (by-finding p (broken c H) e)) (from_broken c H (broken-first p (lowest p) (closed p) c H e))

-- a first broken constraint of the lowest tables is refused
pub refused-by : (p : Program) (c : Closed) (H : ℕ) → FirstBroken p (lowest p) (closed p) c H
    → answer p ≡ refused (method_of c) (kind_of c) (node_of c) H
refused-by p c H f = by-finding p (broken c H) (first-broken p (lowest p) (closed p) c H f)

-- what an accepted answer holds
pub record WhenAccepted (p : Program) (r : ℕ) (t : List (List ℕ)) : Type 0 where
  pub met : All (Met p (lowest p)) (closed p)
  pub rounds : r ≡ rounds p
  pub tables : t ≡ tables_of p (lowest p)

pub when-accepted : (p : Program) (r : ℕ) (t : List (List ℕ)) → answer p ≡ accepted r t → WhenAccepted p r t
when-accepted p r t e = go (answer p) (from-finding p) e
  where
    go : (x : Answer) → FromFinding p x → x ≡ accepted r t → WhenAccepted p r t
    go x (from_none h) q = record { met = h; rounds = cc; tables = cc }
    go x (from_broken c H f) q = absurd (let z : ◌≡◌ {A = ℕ} 0 1 = cc in omega arith)

-- what a refusal names
pub record RefusedBy (p : Program) (m k n H : ℕ) : Type 0 where
  pub constraint : Closed
  pub first : FirstBroken p (lowest p) (closed p) constraint H
  pub method : method_of constraint ≡ m
  pub kind : kind_of constraint ≡ k
  pub node : node_of constraint ≡ n

pub when-refused : (p : Program) (m k n H : ℕ) → answer p ≡ refused m k n H → RefusedBy p m k n H
when-refused p m k n H e = go (answer p) (from-finding p) e
  where
    go : (x : Answer) → FromFinding p x → x ≡ refused m k n H → RefusedBy p m k n H
    go x (from_none h) q = absurd (let z : ◌≡◌ {A = ℕ} 0 1 = cc in omega arith)
    go x (from_broken c S f) q =
        let set : S ≡ H = cc in
        record { constraint = c; first = subst (FirstBroken p (lowest p) (closed p) c) set f; method = cc; kind = cc; node = cc }

-- an answer is accepted or a refusal, and not both
pub not-both : (x : Answer) (r : ℕ) (t : List (List ℕ)) (m k n H : ℕ) → x ≡ accepted r t → x ≡ refused m k n H → ⊥
not-both x r t m k n H e q = let z : ◌≡◌ {A = ℕ} 0 1 = cc in omega arith

pub either-answer : (p : Program) (P : Type 0)
    → (All (Met p (lowest p)) (closed p) → answer p ≡ accepted (rounds p) (tables_of p (lowest p)) → P)
    → ((m k n H : ℕ) → answer p ≡ refused m k n H → P) → P
either-answer p P f g = go (answer p) (from-finding p) refl
  where
    go : (x : Answer) → FromFinding p x → answer p ≡ x → P
    go x (from_none h) e = f h e
    go x (from_broken c H b) e = g _ _ _ _ e

-- ---- satisfied by some assignment, then by the lowest

pub lowest-satisfies : (p : Program) → All (Met p (lowest p)) (closed p) → Satisfies p (lowest p)
lowest-satisfies p h = record { meets = (lowest-is p).meets; closed = h }

pub satisfied-met : (p : Program) (a : Assignment) → Satisfies p a → All (Met p (lowest p)) (closed p)
satisfied-met p a s =
    all_map (Met p a) (Met p (lowest p)) (closed p) (met-lower p (lowest p) a ((lowest-is p).least a s.meets)) s.closed

pub satisfied-accepted : (p : Program) (a : Assignment) → Satisfies p a → answer p ≡ accepted (rounds p) (tables_of p (lowest p))
satisfied-accepted p a s = accepted-by p (satisfied-met p a s)
