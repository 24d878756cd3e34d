-- Programs that differ only in what they declare, and tables that fall as more is held: what demand 3 speaks of.
-- Assumes nothing.
use Rattle.std.specs.Prelude.{ℕ, suc, ◌≤◌, ◌<◌, Bool, true, false, List, [], ◌∷◌, ◌≡◌, T, get_or}
use Rattle.grades.specs.HeldSets.{Within}
use Rattle.frames.specs.Program.{Method, Program, method_at}
use Rattle.meaning.specs.Meaning.{Assignment}
use Rattle.meaning.specs.Lowest.{method_count, entry_count, is_declared, declared_table}
use Rattle.meaning.specs.Constraints.{Entry}

-- the programs are alike but for what they declare
pub record Alike (p q : Program) : Type 0 where
  pub fields : q.fields ≡ p.fields
  pub count : method_count q ≡ method_count p
  pub k : (m : ℕ) → (method_at q m).k ≡ (method_at p m).k
  pub nodes : (m : ℕ) → (method_at q m).nodes ≡ (method_at p m).nodes

-- q is p with some declarations struck out, any ones: what q declares, p declares with the same table
pub record StruckOut (p q : Program) : Type 0 where
  pub alike : Alike p q
  pub declared : (m : ℕ) → T (is_declared q m) → T (is_declared p m)
  pub table : (m H : ℕ) → Entry p m H → T (is_declared q m) → declared_table q m H ≡ declared_table p m H

-- q is p with the found tables of some methods, any ones, written in as their declarations. Of a method that p declares, the found table is the
-- declared one.
pub record WrittenBack (p : Program) (found : Assignment) (q : Program) : Type 0 where
  pub alike : Alike p q
  pub declared : (m : ℕ) → T (is_declared p m) → T (is_declared q m)
  pub table : (m H : ℕ) → Entry p m H → T (is_declared q m) → declared_table q m H ≡ found m H

-- ---- such programs, made

-- each method changed, by its number
abbrev pub each_from : (i : ℕ) → (ℕ → Method → Method) → List Method → List Method
each_from i f [] = []
each_from i f (x ∷ xs) = f i x ∷ each_from (suc i) f xs

unfoldable pub change_methods : (ℕ → Method → Method) → Program → Program
change_methods f p = record { fields = p.fields; methods = each_from 0 f p.methods }

abbrev pub strike : Bool → Method → Method
strike true x = record { k = x.k; declared = false; table = []; nodes = x.nodes }
strike false x = x

abbrev pub declare : Bool → (table : List ℕ) → Method → Method
declare true table x = record { k = x.k; declared = true; table = table; nodes = x.nodes }
declare false table x = x

-- the program with some methods' declarations struck out
unfoldable pub strike_out : (which : ℕ → Bool) → Program → Program
strike_out which p = change_methods (λ m x. strike (which m) x) p

-- the program with some methods declared at the tables of an answer
unfoldable pub write_back : (which : ℕ → Bool) → (tables : List (List ℕ)) → Program → Program
write_back which tables p = change_methods (λ m x. declare (which m) (get_or tables m []) x) p

-- ---- held sets

-- a method's table gets no larger as more is held
pub record AntitoneAt (p : Program) (a : Assignment) (m : ℕ) : Type 0 where
  pub falls : (H H' : ℕ) → H < entry_count p m → H' < entry_count p m → Within H H' → a m H' ≤ a m H

-- the declared tables get no larger as more is held
abbrev pub DeclaredAntitone : Program → Type 0
DeclaredAntitone p = (m : ℕ) → m < method_count p → T (is_declared p m) → AntitoneAt p (declared_table p) m
