-- A node's tree: the node itself, its children, their children, and so on. It says what a node's grade can depend on.
-- Assumes nothing.
use Rattle.std.specs.Prelude.{ℕ, Bool, true, false, cond, List, [], ◌∷◌, ◌⊎◌, ◌≡◌, refl}
use Rattle.std.proofs.Common.{inl, inr, subst}
use Rattle.frames.specs.Program.{Node}
use Rattle.meaning.specs.Meaning.{Op, plain_value, read, write, sequence, choice, loop, synchronised, assertion, call, fork, no_op, op_of, children}
use Rattle.counting.specs.Counting.{All}

abbrev pub Among : ℕ → List ℕ → Type 0
Among c [] = ⊥
Among c (x ∷ xs) = (c ≡ x) ⊎ Among c xs

-- node j is in the tree of node n
pub data InTree (nodes : ℕ → Node) : (n j : ℕ) → Type 0 where
  itself : {n : ℕ} → InTree nodes n n
  inside : {n c j : ℕ} → Among c (children (nodes n)) → InTree nodes c j → InTree nodes n j

abbrev pub is_call : Op → Bool
is_call plain_value = false
is_call read = false
is_call write = false
is_call sequence = false
is_call choice = false
is_call loop = false
is_call synchronised = false
is_call assertion = false
is_call call = true
is_call fork = false
is_call no_op = false

-- a node with its names changed, if it is a call
abbrev pub renamed_by : Op → (List ℕ → List ℕ) → Node → Node
renamed_by op f node =
    record {
      op = node.op;
      X = node.X;
      Y = node.Y;
      Z = node.Z;
      U = node.U;
      names = cond (is_call op) (f node.names) node.names;
    }

abbrev pub renamed : (List ℕ → List ℕ) → Node → Node
renamed f node = renamed_by (op_of node.op) f node

-- what holds of each member holds of all
pub all_among : (P : ℕ → Type 0) (xs : List ℕ) → ((x : ℕ) → Among x xs → P x) → All P xs
all_among P [] h = tt
all_among P (x ∷ xs) h = (h x (inl refl), all_among P xs (λ y m. h y (inr m)))

-- methods that agree on the nodes of one tree have the same nodes in it
pub same-tree : (nodes nodes' : ℕ → Node) (n j : ℕ) → ((i : ℕ) → InTree nodes n i → nodes' i ≡ nodes i) → InTree nodes' n j → InTree nodes n j
same-tree nodes nodes' n j agree itself = itself
same-tree nodes nodes' n j agree (inside {c = c} m t) =
    let named : Among c (children (nodes n)) = subst (λ (x : Node). Among c (children x)) (agree n itself) m in
    inside named (same-tree nodes nodes' c j (λ i s. agree i (inside named s)) t)
