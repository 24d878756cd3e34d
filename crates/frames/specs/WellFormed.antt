-- What holds of every program that a text reads as: the ranges and references of document 01's "Frames", said of the program alone.
-- Assumes nothing.
use Rattle.std.specs.Prelude.{ℕ, zero, suc, ◌≤◌, ◌<◌, ◌^◌, ◌≡◌, true, false, List, [], ◌∷◌, ◌⊎◌, length, get_or, take}
use Rattle.frames.specs.Layout.{layout}
use Rattle.frames.specs.Program.{Field, Node, Method, Program, field_at, method_at, node_at}
use Rattle.frames.specs.Ranges.{children_listed, names_listed, uses_field, uses_method}
use Rattle.frames.specs.Links.{naming, guard_uses}
use Rattle.counting.specs.Counting.{member, total}

-- a name that a node lists, by number
abbrev pub name_at : Node → ℕ → ℕ
name_at nd j = get_or nd.names j 0

-- the children that a node lists
unfoldable pub children_in : Node → List ℕ
children_in nd = take (children_listed nd.op) (nd.X ∷ nd.Y ∷ nd.Z ∷ [])

-- the children of the first n nodes of a body, the latest first
unfoldable pub named_in : (ℕ → Node) → ℕ → List ℕ
named_in body zero = []
named_in body (suc n) = naming (named_in body n) (children_in (body n))

-- no number stands in the list twice
abbrev pub Once : List ℕ → Type 0
Once [] = Unit {0}
Once (x ∷ xs) = (member x xs ≡ false) × Once xs

-- a name of a method with k names, or FF
abbrev pub Name : ℕ → ℕ → Type 0
Name k t = (t < k) ⊎ (t ≡ layout.no_name)

pub record FieldFits (fd : Field) : Type 0 where
  pub width : fd.width ≤ layout.most_width
  pub guard : fd.guard ≤ layout.most_guard

-- method m: main has no lock names; a table has an entry for each held set
pub record MethodFits (m : ℕ) (M : Method) : Type 0 where
  pub names : M.k ≤ layout.most_names
  pub main : m ≡ 0 → M.k ≡ 0
  pub some_nodes : 1 ≤ length M.nodes
  pub few_nodes : length M.nodes ≤ layout.most_nodes
  pub entries : length M.table ≡ 2 ^ M.k
  pub grades : (h : ℕ) → get_or M.table h 0 ≤ layout.most_grade
  pub undeclared : M.declared ≡ false → (h : ℕ) → get_or M.table h 0 ≡ 0

-- node n of a method with k names
pub record NodeFits (p : Program) (k n : ℕ) (nd : Node) : Type 0 where
  pub op : nd.op ≤ layout.most_op
  pub names : length nd.names ≡ layout.names
  pub below : (c : ℕ) → member c (children_in nd) ≡ true → c < n
  pub field : uses_field nd.op ≡ true → nd.U < length p.fields
  pub method : uses_method nd.op ≡ true → nd.U < length p.methods
  pub guarded : uses_field nd.op ≡ true → guard_uses (field_at p nd.U).guard ≡ true → Name k (name_at nd 0)
  pub unguarded : uses_field nd.op ≡ true → guard_uses (field_at p nd.U).guard ≡ false → name_at nd 0 ≡ 0
  pub synchronised : nd.op ≡ 6 → name_at nd 0 < k
  pub call : nd.op ≡ 8 → (j : ℕ) → j < layout.names → j < (method_at p nd.U).k → Name k (name_at nd j)
  pub spare : nd.op ≡ 8 → (j : ℕ) → (method_at p nd.U).k ≤ j → name_at nd j ≡ 0
  pub fork : nd.op ≡ 9 → 1 ≤ (method_at p nd.U).k
  -- "Operands that an op doesn't list are 00."
  pub no_x : children_listed nd.op ≤ 0 → nd.X ≡ 0
  pub no_y : children_listed nd.op ≤ 1 → nd.Y ≡ 0
  pub no_z : children_listed nd.op ≤ 2 → nd.Z ≡ 0
  pub no_u : uses_field nd.op ≡ false → uses_method nd.op ≡ false → nd.U ≡ 0
  pub no_name : (j : ℕ) → names_listed nd.op ≤ j → name_at nd j ≡ 0

pub record WellFormed (p : Program) : Type 0 where
  pub some_methods : 1 ≤ length p.methods
  pub few_methods : length p.methods ≤ layout.most_methods
  pub few_fields : length p.fields ≤ layout.most_fields
  pub few_nodes : total (length p.methods) (λ m. length (method_at p m).nodes) ≤ layout.most_nodes
  pub fields : (i : ℕ) → i < length p.fields → FieldFits (field_at p i)
  pub methods : (m : ℕ) → m < length p.methods → MethodFits m (method_at p m)
  pub nodes : (m n : ℕ) → m < length p.methods → n < length (method_at p m).nodes
      → NodeFits p (method_at p m).k n (node_at (method_at p m) n)
  -- "a node is named as a child at most once"
  pub once : (m : ℕ) → m < length p.methods → Once (named_in (node_at (method_at p m)) (length (method_at p m).nodes))
