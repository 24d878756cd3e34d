-- What W-204 changed. Document 01 counts the lock behind an FF at a call as not held. Here is that rule, of one call and of a whole program, and how
-- it compares with the rule of `Meaning`, which leaves open whether such a lock is held. Proved in `Laws.NotHeldCalls` and
-- `Laws.NotHeld`.
-- Assumes nothing.
use Rattle.std.specs.Prelude.{ℕ, ◌≤◌, ◌<◌, Bool, false, not, ◌&&◌, cond, List, map, ◌≡◌, eqb, take}
use Rattle.grades.specs.HeldSets.{entries, held, Within, no_name, packed}
use Rattle.frames.specs.Program.{Method, Program, method_at, node_at}
use Rattle.counting.specs.Counting.{All}
use Rattle.meaning.specs.Meaning.{synchronised, op_of, first_name, callee_entry, child_set}
use Rattle.meaning.specs.Tree.{renamed}
use Rattle.meaning.specs.Lowest.{NoWorse, entry_count, rounds, lowest}
use Rattle.meaning.specs.Constraints.{accepted, tables_of, answer}
use Rattle.meaning.specs.Changes.{DeclaredAntitone}

-- ---- one call

-- 01: "Callee name j is held exactly if Tj is in H", and FF "counts as not held"
abbrev pub counts_as_held : (H name : ℕ) → Bool
counts_as_held H name = not (eqb name no_name) && held H name

-- so one of the callee's sets matches, and the entry is the table's there
unfoldable pub entry_not_held : (k : ℕ) → (table : ℕ → ℕ) → (names : List ℕ) → (H : ℕ) → ℕ
entry_not_held k table names H = table (packed (map (counts_as_held H) (take k names)))

-- the table of a callee of k names gets no worse as more is held
abbrev pub Falls : (k : ℕ) → (table : ℕ → ℕ) → Type 0
Falls k table = (S S' : ℕ) → S < entries k → S' < entries k → Within S S' → table S' ≤ table S

pub record EntriesCompared (k : ℕ) (table : ℕ → ℕ) (names : List ℕ) (H : ℕ) : Type 0 where
  pub nowhere_below : entry_not_held k table names H ≤ callee_entry k table names H
  pub where_named : All (λ name. name ≡ no_name → ⊥) (take k names) → callee_entry k table names H ≡ entry_not_held k table names H
  pub where_falling : Falls k table → callee_entry k table names H ≡ entry_not_held k table names H

-- ---- a whole program

-- each FF as the name l
abbrev pub called_by : (l : ℕ) → List ℕ → List ℕ
called_by l names = map (λ name. cond (eqb name no_name) l name) names

-- the program with the name l for FF at each call. Where nothing ever holds l, this is the program as 01 reads it.
abbrev pub method_as_not_held : (l : ℕ) → Method → Method
method_as_not_held l x =
    record { k = x.k; declared = x.declared; table = x.table; nodes = map (renamed (called_by l)) x.nodes }

unfoldable pub as_not_held : (l : ℕ) → Program → Program
as_not_held l p = record { fields = p.fields; methods = map (method_as_not_held l) p.methods }

-- nothing ever holds l: it is no method's name, no node is synchronised on it, and it is not FF itself
pub record NeverHeld (p : Program) (l : ℕ) : Type 0 where
  pub is_name : l ≡ no_name → ⊥
  pub methods : (m : ℕ) → (method_at p m).k ≤ l
  pub locks : (m n : ℕ) → op_of (node_at (method_at p m) n).op ≡ synchronised → first_name (node_at (method_at p m) n).names ≡ l → ⊥

pub record RulesCompared (p : Program) (l : ℕ) : Type 0 where
  -- the program with l for FF is the program as 01 reads it: no method starts with l held, no child is graded with it held, and under a set
  -- without l each call takes 01's entry
  pub starts : (m H : ℕ) → H < entry_count p m → held H l ≡ false
  pub stays : (m n H : ℕ) → held H l ≡ false
      → held (child_set (op_of (node_at (method_at p m) n).op) (node_at (method_at p m) n).names H) l ≡ false
  pub reads : (k : ℕ) (table : ℕ → ℕ) (names : List ℕ) (H : ℕ) → held H l ≡ false
      → callee_entry k table (called_by l names) H ≡ entry_not_held k table names H
  -- no grade is below 01's, and 01 accepts what is accepted
  pub nowhere_below : NoWorse (lowest (as_not_held l p)) (lowest p)
  pub accepts : (r : ℕ) (tables : List (List ℕ)) → answer p ≡ accepted r tables
      → answer (as_not_held l p) ≡ accepted (rounds (as_not_held l p)) (tables_of (as_not_held l p) (lowest (as_not_held l p)))
  -- where no declared table gets worse as more is held, the two rules agree: in the lowest tables, the rounds and the whole answer
  pub same_lowest : DeclaredAntitone p → lowest (as_not_held l p) ≡ lowest p
  pub same_rounds : DeclaredAntitone p → rounds (as_not_held l p) ≡ rounds p
  pub same_answer : DeclaredAntitone p → answer (as_not_held l p) ≡ answer p
