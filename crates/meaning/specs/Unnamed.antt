-- "No unnamed node but the root, fork nodes included, has an effect on grades, nor has what it names": what that speaks of. It is proved of
-- every program that a text gives in `UnnamedLaws`: `unnamed-no-effect`.
-- Assumes nothing.
use Rattle.std.specs.Prelude.{ℕ, Bool, true, false, List, ◌⊎◌, ◌≡◌, eqb, length, set}
use Rattle.frames.specs.Program.{Node, Method, Program, method_at, node_at}
use Rattle.meaning.specs.Meaning.{root_of, children}
use Rattle.meaning.specs.Tree.{Among, InTree}
use Rattle.meaning.specs.Lowest.{method_count, is_declared, rounds, lowest}
use Rattle.meaning.specs.Constraints.{accepted, refused, answer}
use Rattle.meaning.specs.Changes.{change_methods}

-- node i names node j as a child
abbrev pub Names : (nodes : ℕ → Node) → (i j : ℕ) → Type 0
Names nodes i j = Among j (children (nodes i))

abbrev pub Unnamed : (nodes : ℕ → Node) → (j : ℕ) → Type 0
Unnamed nodes j = (i : ℕ) → Names nodes i j → ⊥

-- node j is an unnamed node but the root, or one that such a node names, or one that this names, and so on
pub record Aside (method : Method) (j : ℕ) : Type 0 where
  pub top : ℕ
  pub unnamed : Unnamed (node_at method) top
  pub not_root : top ≡ root_of method → ⊥
  pub under : InTree (node_at method) top j

-- q is p with other nodes in place of some that stand aside, any ones; all else is the same
pub record ChangedAside (p q : Program) : Type 0 where
  pub fields : q.fields ≡ p.fields
  pub count : method_count q ≡ method_count p
  pub k : (m : ℕ) → (method_at q m).k ≡ (method_at p m).k
  pub declared : (m : ℕ) → is_declared q m ≡ is_declared p m
  pub table : (m : ℕ) → (method_at q m).table ≡ (method_at p m).table
  pub node_count : (m : ℕ) → length (method_at q m).nodes ≡ length (method_at p m).nodes
  pub nodes : (m j : ℕ) → (Aside (method_at p m) j → ⊥) → node_at (method_at q m) j ≡ node_at (method_at p m) j

-- "A fork node's kind 3 constraint counts even if no node names it": the answer is refusal 7 for a node that was changed, a fork
pub record ForkRefused (p q : Program) : Type 0 where
  pub method : ℕ
  pub node : ℕ
  pub set : ℕ
  pub says : answer q ≡ refused method 3 node set
  pub changed : node_at (method_at q method) node ≡ node_at (method_at p method) node → ⊥

-- no effect on grades: the lowest tables are the same, reached after as many rounds; and where p is accepted, q has the same answer, but for
-- forks that p has not
pub record NoEffect (p q : Program) : Type 0 where
  pub lowest : lowest q ≡ lowest p
  pub rounds : rounds q ≡ rounds p
  pub answer : (r : ℕ) (tables : List (List ℕ)) → answer p ≡ accepted r tables → (answer q ≡ accepted r tables) ⊎ ForkRefused p q

-- ---- one node changed for another

abbrev pub put_node : Bool → (n : ℕ) → Node → Method → Method
put_node true n node x = record { k = x.k; declared = x.declared; table = x.table; nodes = set x.nodes n node }
put_node false n node x = x

-- the program with another node n in method m
unfoldable pub change_node : (m n : ℕ) → Node → Program → Program
change_node m n node p = change_methods (λ i x. put_node (eqb i m) n node x) p
