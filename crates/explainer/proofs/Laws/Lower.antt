-- The grades of a method's nodes, filled in from the lowest node on.
-- Assumes nothing.
use Rattle.std.specs.Prelude.{ℕ, zero, suc, ◌+◌, ◌*◌, ◌^◌, ◌≤◌, ◌<◌, min, List, [], ◌∷◌, ◌⊎◌, ◌≡◌, ltb, get_or, set}
use Rattle.std.proofs.Math.Bool.{cond}
use Rattle.std.proofs.Math.Logic.{inl, inr}
use Rattle.std.proofs.Math.Path.{refl, sym, subst}
use Rattle.std.proofs.Common.{ap, ◌∙◌, arith, lt-ltb, le-ltb, length-set, get_or-set_same, get_or-set_other}
use Rattle.std.proofs.Math.Decide.{dec_lt, ℕ_discrete}
use Rattle.std.proofs.Math.ListN.{length, get_or-eq_default}
use Rattle.frames.specs.Layout.{layout}
use Rattle.frames.specs.Links.{node_count}
use Rattle.frames.specs.Tables.{cell, method_of}
use Rattle.frames.specs.Program.{Node, Method, method_at, node_at}
use Rattle.frames.specs.Laws.Tables.{nodes-length}
use Rattle.grades.specs.HeldSets.{entries, no_name}
use Rattle.grades.proofs.Laws.HeldSets.{add-below}
use Rattle.meaning.specs.Meaning.{Assignment, op_of, first_name, children, child_set, below, meaning}
use Rattle.meaning.specs.Lowest.{method_count, entry_count}
use Rattle.meaning.specs.Tree.{Among}
use Rattle.meaning.proofs.Laws.Tree.{child-below}
use Rattle.meaning.proofs.Laws.Meaning.{below-meaning, below_none}
use Rattle.solver.specs.Flat.{program_in}
use Rattle.solver.specs.Nodes.{node_in, no_child, child_at, mask_set, PartsOf}
use Rattle.solver.specs.declared.node.Parts.{Parts}
use Rattle.solver.specs.Laws.Engine.{set-stays, mask-set}
use Rattle.solver.specs.Code.Rounds.{At}
use Rattle.solver.specs.Laws.Views.{method-in, method-count}
use Rattle.solver.specs.Laws.Flat.{entry-count, few-entries, count-read, body-node}
use Rattle.explainer.specs.Code.Lower.{Read, Lower, child_grade}

-- a member by number
get_or-among : (xs : List ℕ) (i d : ℕ) → i < length xs → Among (get_or xs i d) xs
get_or-among [] i d h = absurd (omega arith)
get_or-among (x ∷ xs) zero d h = inl refl
get_or-among (x ∷ xs) (suc i) d h = inr (get_or-among xs i d (omega arith))

-- the first of some numbers, whatever would stand for it
get_or-any : (xs : List ℕ) → 0 < length xs → get_or xs 0 0 ≡ get_or xs 0 no_name
get_or-any [] h = absurd (omega arith)
get_or-any (x ∷ xs) h = refl

module _ (t : List ℕ) (read : Read t) (m first : ℕ) (at : At t m first) where
  pub method_known : m < method_count (program_in t)
  method_known = omega (arith, method-count t, at.method)

  pub count-known : length (method_at (program_in t) m).nodes ≡ node_count (cell t) m
  count-known = ap (λ (x : Method). length x.nodes) (method-in t m at.method) ∙ nodes-length (cell t) m

  -- how many nodes and sets a method has, as read off the tables
  pub nodes-read : (r : ℕ) → r ≡ length (method_of (cell t) m).nodes → r ≡ length (method_at (program_in t) m).nodes
  nodes-read r e = e ∙ sym (ap (λ (x : Method). length x.nodes) (method-in t m at.method))

  pub sets-read : (k r : ℕ) → k ≡ (method_of (cell t) m).k → r ≡ min (2 ^ k) layout.grades → r ≡ entry_count (program_in t) m
  sets-read k r e f = count-read t read.fits m k r at.method e f ∙ sym (entry-count t read.fits m at.method)

  pub sets-few : entry_count (program_in t) m ≤ layout.grades
  sets-few = omega (arith, entry-count t read.fits m at.method, few-entries t read.fits m at.method)

  module _ (n : ℕ) (within : n < length (method_at (program_in t) m).nodes) where
    -- the node that stands in a frame
    pub node-known : node_in t (first + n) ≡ node_at (method_at (program_in t) m) n
    node-known =
        ap (λ (f : ℕ). node_in t (f + n)) at.frame ∙ body-node t (λ i H. 0) m at.method n (omega (arith, count-known))

    pub nodes-few : n < layout.most_nodes
    unfolding method_count
    nodes-few = omega (arith, (read.well_formed.methods m method_known).few_nodes)

    -- a child that the op lists is below, and any other is no node
    pub child-at : (i : ℕ) → (child_at (node_at (method_at (program_in t) m) n) i < n) ⊎ (child_at (node_at (method_at (program_in t) m) n) i ≡ no_child)
    unfolding child_at
    child-at i = go (dec_lt i (length (children (node_at (method_at (program_in t) m) n))))
      where
        go : Dec (i < length (children (node_at (method_at (program_in t) m) n)))
            → (get_or (children (node_at (method_at (program_in t) m) n)) i no_child < n) ⊎ (get_or (children (node_at (method_at (program_in t) m) n)) i no_child ≡ no_child)
        go (yes h) =
            inl (child-below (program_in t) read.well_formed m n _ (get_or-among (children (node_at (method_at (program_in t) m) n)) i no_child h))
        go (no h) = inr (get_or-eq_default (children (node_at (method_at (program_in t) m) n)) no_child (omega arith))

    -- the lock that a synchronised node takes is one of the method's
    lock-known : (node_at (method_at (program_in t) m) n).op ≡ 6 → first_name (node_at (method_at (program_in t) m) n).names < (method_at (program_in t) m).k
    unfolding first_name method_count
    lock-known six =
        let node = read.well_formed.nodes m n method_known within in
        subst (λ (x : ℕ). x < (method_at (program_in t) m).k) (get_or-any (node_at (method_at (program_in t) m) n).names (omega (arith, node.names))) (node.synchronised six)

    -- the set that the children are graded under
    under-known : (H : ℕ) → mask_set (node_at (method_at (program_in t) m) n).op (first_name (node_at (method_at (program_in t) m) n).names) H
        ≡ child_set (op_of (node_at (method_at (program_in t) m) n).op) (node_at (method_at (program_in t) m) n).names H
    unfolding method_count
    under-known H =
        mask-set (node_at (method_at (program_in t) m) n).op (node_at (method_at (program_in t) m) n).names H
        (λ six. omega (arith, lock-known six, (read.well_formed.methods m method_known).names))

    under-below : (H : ℕ) → H < entry_count (program_in t) m
        → child_set (op_of (node_at (method_at (program_in t) m) n).op) (node_at (method_at (program_in t) m) n).names H < entry_count (program_in t) m
    unfolding entry_count entries op_of
    under-below H h = go (node_at (method_at (program_in t) m) n).op refl (ℕ_discrete (node_at (method_at (program_in t) m) n).op 6)
      where
        go : (op : ℕ) → (node_at (method_at (program_in t) m) n).op ≡ op → Dec ((node_at (method_at (program_in t) m) n).op ≡ 6)
            → child_set (op_of (node_at (method_at (program_in t) m) n).op) (node_at (method_at (program_in t) m) n).names H < entries (method_at (program_in t) m).k
        go op e (yes six) =
            subst (λ (o : ℕ). child_set (op_of o) (node_at (method_at (program_in t) m) n).names H < entries (method_at (program_in t) m).k) (sym six)
            (add-below (method_at (program_in t) m).k H _ h (lock-known six))
        go op e (no other) =
            subst (λ (S : ℕ). S < entries (method_at (program_in t) m).k) (sym (set-stays (node_at (method_at (program_in t) m) n).op other (node_at (method_at (program_in t) m) n).names H)) h

    -- of a node's parts, as they are worked out: the set is one of the method's
    module _ (a : Assignment) (H : ℕ) (inside : H < entry_count (program_in t) m) (r : Parts) (of : PartsOf (program_in t) a (node_in t (first + n)) H r) where
      pub under-is : r.under ≡ child_set (op_of (node_at (method_at (program_in t) m) n).op) (node_at (method_at (program_in t) m) n).names H
      under-is = of.under ∙ ap (λ (x : Node). mask_set x.op (first_name x.names) H) node-known ∙ under-known H

      pub under-inside : r.under < entry_count (program_in t) m
      under-inside = subst (λ (S : ℕ). S < entry_count (program_in t) m) (sym under-is) (under-below H inside)

      pub under-few : r.under < layout.grades
      under-few = omega (arith, under-inside, sets-few)

    module _ (a : Assignment) (lower : List ℕ) (known : Lower t a m n lower) where
      -- what stands for a child, of the lower nodes
      pub child-known : (i S : ℕ) → S < entry_count (program_in t) m
          → child_grade lower (child_at (node_at (method_at (program_in t) m) n) i) S
          ≡ below (program_in t) a (node_at (method_at (program_in t) m)) n (child_at (node_at (method_at (program_in t) m) n) i) S
      unfolding child_grade
      child-known i S h = go (child_at (node_at (method_at (program_in t) m) n) i) (child-at i)
        where
          go : (c : ℕ) → (c < n) ⊎ (c ≡ no_child)
              → cond (ltb c layout.most_nodes) (get_or lower (layout.grades * c + S) 0) 0 ≡ below (program_in t) a (node_at (method_at (program_in t) m)) n c S
          go c (inl l) =
              rw (lt-ltb c layout.most_nodes (omega (arith, nodes-few)))
              (known.node c S l h ∙ sym (below-meaning (program_in t) a (node_at (method_at (program_in t) m)) n c S l))
          go c (inr none) =
              rw (le-ltb c layout.most_nodes (omega arith))
              (sym (below_none (program_in t) a (node_at (method_at (program_in t) m)) n c S (omega (arith, nodes-few))))

  -- ---- filling

  module _ (a : Assignment) where
    -- a grade of node n is put in its place: the lower nodes keep theirs
    pub lower-store : (n S v : ℕ) (lower : List ℕ) → S < layout.grades → Lower t a m n lower → Lower t a m n (set lower (layout.grades * n + S) v)
    lower-store n S v lower h known =
        record {
          size = length-set lower (layout.grades * n + S) v ∙ known.size;
          node = λ c S' l k.
              get_or-set_other lower (layout.grades * n + S) (layout.grades * c + S') v 0 (λ same. absurd (omega (arith, sets-few))) ∙ known.node c S' l k;
        }

    pub lower-next : (n : ℕ) (lower : List ℕ) → Lower t a m n lower
        → ((S : ℕ) → S < entry_count (program_in t) m → get_or lower (layout.grades * n + S) 0 ≡ meaning (program_in t) a (node_at (method_at (program_in t) m)) n S)
        → Lower t a m (n + 1) lower
    lower-next n lower known row = record { size = known.size; node = λ c S l k. go c S l k (dec_lt c n) }
      where
        go : (c S : ℕ) → c < n + 1 → S < entry_count (program_in t) m → Dec (c < n)
            → get_or lower (layout.grades * c + S) 0 ≡ meaning (program_in t) a (node_at (method_at (program_in t) m)) c S
        go c S l k (yes b) = known.node c S b k
        go c S l k (no b) =
            let same : n ≡ c = omega arith in
            subst (λ (x : ℕ). get_or lower (layout.grades * x + S) 0 ≡ meaning (program_in t) a (node_at (method_at (program_in t) m)) x S) same (row S k)

    -- node n's own grades, up to a set
    abbrev pub Row : (n b : ℕ) (lower : List ℕ) → Type 0
    Row n b lower = (S : ℕ) → S < b → get_or lower (layout.grades * n + S) 0 ≡ meaning (program_in t) a (node_at (method_at (program_in t) m)) n S

    pub row_more : (n b v : ℕ) (lower : List ℕ) → Row n b lower → layout.grades * n + b < length lower
        → v ≡ meaning (program_in t) a (node_at (method_at (program_in t) m)) n b → Row n (b + 1) (set lower (layout.grades * n + b) v)
    row_more n b v lower row h e S l = go (dec_lt S b)
      where
        go : Dec (S < b) → get_or (set lower (layout.grades * n + b) v) (layout.grades * n + S) 0 ≡ meaning (program_in t) a (node_at (method_at (program_in t) m)) n S
        go (yes k) = get_or-set_other lower (layout.grades * n + b) (layout.grades * n + S) v 0 (λ same. absurd (omega arith)) ∙ row S k
        go (no k) =
            let same : b ≡ S = omega arith in
            subst (λ (x : ℕ). get_or (set lower (layout.grades * n + b) v) (layout.grades * n + x) 0 ≡ meaning (program_in t) a (node_at (method_at (program_in t) m)) n x) same
            (get_or-set_same lower (layout.grades * n + b) v 0 h ∙ e)

-- the nodes below a lower bound
pub lower-fewer : (t : List ℕ) (a : Assignment) (m n n' : ℕ) (lower : List ℕ) → n ≤ n' → Lower t a m n' lower → Lower t a m n lower
lower-fewer t a m n n' lower h known = record { size = known.size; node = λ c S l. known.node c S (omega arith) }
