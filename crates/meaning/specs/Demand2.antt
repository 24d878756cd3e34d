-- Demand 2. A text is refused by 7 exactly if no assignment satisfies all its constraints; otherwise its tables are, at each method and
-- held set, the lowest of all that do. A refusal names the first constraint, in the paper's order, that the lowest tables break, at the lowest
-- held set at which they do, and nothing else can be named. It holds of every program.
-- Assumes nothing.
use Rattle.std.specs.Prelude.{ℕ, suc, ◌*◌, ◌≤◌, ◌<◌, List, [], ◌↔◌, ◌≡◌, length, get_or}
use Rattle.frames.specs.Program.{Program}
use Rattle.meaning.specs.Meaning.{Assignment}
use Rattle.meaning.specs.Lowest.{NoWorse, method_count, entry_count, after, open_entries, declarations}
use Rattle.meaning.specs.Constraints.{Closed, method_of, kind_of, node_of, closed, Satisfies, Answer, accepted, refused, entry_of, answer, IsLowest, FirstBroken}

-- the answer is refusal 7, with some numbers
pub record Refused (p : Program) : Type 0 where
  pub method : ℕ
  pub kind : ℕ
  pub node : ℕ
  pub set : ℕ
  pub says : answer p ≡ refused method kind node set

-- an assignment satisfies all constraints, and is nowhere above any other that does
pub record LowestOfAll (p : Program) (a : Assignment) : Type 0 where
  pub satisfies : Satisfies p a
  pub least : (b : Assignment) → Satisfies p b → NoWorse a b

-- "Rounds is the least n such that round n+1 changes nothing. It is at most 4 times the number of entries of undeclared methods"
pub record IsRounds (p : Program) (r : ℕ) : Type 0 where
  pub stops : after p (declarations p) (suc r) ≡ after p (declarations p) r
  pub least : (i : ℕ) → i < r → after p (declarations p) (suc i) ≡ after p (declarations p) i → ⊥
  pub within : r ≤ 4 * open_entries p (declarations p)

-- what an accepted answer gives: a table for each method, with an entry for each held set; the lowest grades; the rounds, and the tables
-- that they reach
pub record Accepted (p : Program) (r : ℕ) (tables : List (List ℕ)) : Type 0 where
  pub methods : length tables ≡ method_count p
  pub entries : (m : ℕ) → m < method_count p → length (get_or tables m []) ≡ entry_count p m
  pub lowest : LowestOfAll p (entry_of tables)
  pub rounds : IsRounds p r
  pub reached : entry_of tables ≡ after p (declarations p) r

-- what refusal 7 names: of the lowest tables that meet the constraints of undeclared methods, the first broken closed constraint, and the
-- lowest held set at which it is broken
pub record Named (p : Program) (method kind node set : ℕ) : Type 0 where
  pub tables : Assignment
  pub lowest : IsLowest p tables
  pub constraint : Closed
  pub first : FirstBroken p tables (closed p) constraint set
  pub its_method : method_of constraint ≡ method
  pub its_kind : kind_of constraint ≡ kind
  pub its_node : node_of constraint ≡ node

-- what may be answered
abbrev pub Permitted : Program → Answer → Type 0
Permitted p (accepted r tables) = Accepted p r tables
Permitted p (refused method kind node set) = Named p method kind node set

pub record Demand2 (p : Program) : Type 0 where
  pub refused-exactly : Refused p ↔ ((a : Assignment) → Satisfies p a → ⊥)
  pub permitted : Permitted p (answer p)
  pub no_other : (x : Answer) → Permitted p x → x ≡ answer p
