-- "No unnamed node but the root, fork nodes included, has an effect on grades, nor has what it names": proved of every program that a text gives.
-- The root's tree has none of those nodes, and a root's table depends on its tree alone.
-- Assumes nothing.
use Prim.Native.Nat.{ℕ, pred, ◌<◌}
use Rattle.std.specs.Prelude.{Bool, not, ◌||◌, ◌⊎◌, ◌≡◌, leb}
use Rattle.std.proofs.Math.Bool.{true, false}
use mathlib.Core.List.{List, ◌∷◌}
use Rattle.std.proofs.Common.{inl, inr, sym, ap₂, ◌∙◌, arith, T_not, eqb-true, length-set}
use Rattle.std.proofs.Math.Path.{refl, ap, subst}
use Rattle.std.proofs.Math.Decide.{dec_lt}
use Rattle.std.proofs.Math.Dec.{T, eqb}
use Rattle.std.proofs.Math.ListN.{length, get_or}
use Rattle.std.proofs.Math.Seq.{get_or-set_other}
use Rattle.grades.specs.Grades.{const, cmpd}
use Rattle.grades.specs.HeldSets.{held}
use Rattle.frames.specs.Program.{Node, Method, Program, plain_node, method_at, node_at}
use Rattle.frames.specs.WellFormed.{WellFormed}
use Rattle.meaning.specs.Meaning.{Assignment, root_of, op_of, meaning, root_table}
use Rattle.meaning.proofs.Laws.Meaning.{meaning-tree}
use Rattle.meaning.specs.Tree.{itself}
use Rattle.counting.specs.Counting.{All}
use Rattle.counting.specs.Laws.Counting.{all_right}
use Rattle.meaning.specs.Lowest.{method_count, entry_count, is_declared, declared_table, declarations, rounds, lowest, rounds_from, lowest_from}
use Rattle.meaning.specs.Constraints.{Closed, declared_root, main_table, forked_table, method_of, kind_of, node_of, named_method, is_fork, fork_at, Met, holds_at, closed, accepted, refused, answer, tables_of}
use Rattle.meaning.proofs.Laws.Constraints.{closed-met, all_closed}
use Rattle.meaning.proofs.Laws.Answers.{when-accepted, RefusedBy, when-refused, either-answer}
use Rattle.meaning.specs.Changes.{change_methods}
use Rattle.meaning.proofs.Laws.Changed.{changed, changed-count, changed-at, changed-past}
use Rattle.meaning.proofs.Laws.Declarations.{same-meaning, same_entries, same_tables}
use Rattle.meaning.proofs.Laws.SameRoots.{same-rounds, same-lowest, same-declarations}
use Rattle.meaning.specs.Unnamed.{Unnamed, Aside, ChangedAside, ForkRefused, NoEffect, put_node, change_node}
use Rattle.meaning.proofs.Laws.Tree.{none-aside}

module _ (p q : Program) (w : WellFormed p) (s : ChangedAside p q) where
  aside-last : (m : ℕ) → root_of (method_at q m) ≡ root_of (method_at p m)
  unfolding root_of
  aside-last m = ap pred (s.node_count m)

  -- of any assignment, each root has the same table
  aside-root : (a : Assignment) (m H : ℕ) → root_table q a m H ≡ root_table p a m H
  unfolding root_table
  aside-root a m H =
      same-meaning p q s.fields s.k a (node_at (method_at q m)) (root_of (method_at q m)) H
      ∙ ap (λ (n : ℕ). meaning p a (node_at (method_at q m)) n H) (aside-last m)
      ∙ meaning-tree p a a (node_at (method_at p m)) (node_at (method_at q m)) (root_of (method_at p m))
      (λ j t. record { node = s.nodes m j (none-aside p w m j t); callee = λ c S l. refl }) H

  aside-declared : (m H : ℕ) → declared_table q m H ≡ declared_table p m H
  unfolding declared_table
  aside-declared m H = ap (λ (t : List ℕ). get_or t H const) (s.table m)

  aside-declarations : declarations q ≡ declarations p
  aside-declarations = same-declarations p q s.declared aside-declared

  aside-lowest : lowest q ≡ lowest p
  unfolding lowest
  aside-lowest =
      ap (lowest_from q) aside-declarations ∙ same-lowest p q s.count (same_entries p q s.count s.k) (declarations p) (λ n m H t. aside-root _ m H)

  aside-rounds : rounds q ≡ rounds p
  unfolding rounds
  aside-rounds =
      ap (rounds_from q) aside-declarations ∙ same-rounds p q s.count (same_entries p q s.count s.k) (declarations p) (λ n m H t. aside-root _ m H)

  -- ---- the closed constraints: but for forks that were put there, q has those of p

  same-entry : (m H : ℕ) → H < entry_count q m → H < entry_count p m
  same-entry m H = subst (λ (n : ℕ). H < n) (same_entries p q s.count s.k m)

  root-met : (m : ℕ) → Met p (lowest p) (declared_root m) → Met q (lowest q) (declared_root m)
  root-met m met H k =
      subst T (sym (ap₂ leb (ap (λ (a : Assignment). root_table q a m H) aside-lowest ∙ aside-root (lowest p) m H) (aside-declared m H)))
      (met H (same-entry m H k))

  main-met : Met p (lowest p) main_table → Met q (lowest q) main_table
  main-met met H k = subst T (sym (ap (λ (a : Assignment). leb (a 0 H) cmpd) aside-lowest)) (met H k)

  -- a fork that stays
  fork-met : (m n : ℕ) → named_method q m n ≡ named_method p m n → Met p (lowest p) (forked_table m n) → Met q (lowest q) (forked_table m n)
  fork-met m n named met H k =
      subst T (sym (ap₂ (λ (a : Assignment) (u : ℕ). (not (held H 0) || leb (a u H) cmpd)) aside-lowest named))
      (met H (subst (λ (u : ℕ). H < entry_count p u) named (same-entry (named_method q m n) H k)))

  abbrev SameNode : Closed → Type 0
  SameNode c = node_at (method_at q (method_of c)) (node_of c) ≡ node_at (method_at p (method_of c)) (node_of c)

  -- what q breaks and p does not is a fork at a node that was changed
  abbrev NewFork : Closed → Type 0
  NewFork c = (Met q (lowest q) c → ⊥) → (kind_of c ≡ 3) × (SameNode c → ⊥)

  new-forks : All (Met p (lowest p)) (closed p) → All NewFork (closed q)
  unfolding fork_at named_method
  new-forks all =
      let c = closed-met p (lowest p) all in
      let here : (m : ℕ) → m < method_count q → m < method_count p = λ m. subst (λ (n : ℕ). m < n) s.count in
      all_closed q NewFork
      (λ m l t no. absurd (no (root-met m (c.kind1 m (here m l) (subst T (s.declared m) t)))))
      (λ l no. absurd (no (main-met (c.kind2 (here 0 l)))))
      (λ m n l k t no. (
        refl,
        λ same. no
            (fork-met m n (ap (λ (x : Node). x.U) same)
            (c.kind3 m n (here m l) (subst (λ (i : ℕ). n < i) (s.node_count m) k) (subst (λ (x : Node). T (is_fork (op_of x.op))) same t))),
      ))

  fork-refused : All (Met p (lowest p)) (closed p) → (m k n H : ℕ) → answer q ≡ refused m k n H → RefusedBy q m k n H → ForkRefused p q
  fork-refused all m k n H e r =
      let new = (all_right NewFork r.first.before (r.constraint ∷ r.first.behind)
      (subst (All NewFork) r.first.order (new-forks all))).0
      (λ met. T_not (holds_at q (lowest q) r.constraint H) r.first.broken (met H r.first.set)) in
      record {
        method = method_of r.constraint;
        node = node_of r.constraint;
        set = H;
        says = e ∙ numbers (sym r.method) (sym r.kind ∙ new.0) (sym r.node);
        changed = new.1;
      }
    where
      numbers : {m' k' n' : ℕ} → m ≡ m' → k ≡ k' → n ≡ n' → refused m k n H ≡ refused m' k' n' H
      numbers x y z = cc

  aside-answer : (r : ℕ) (tables : List (List ℕ)) → answer p ≡ accepted r tables → (answer q ≡ accepted r tables) ⊎ ForkRefused p q
  aside-answer r tables e =
      let by = when-accepted p r tables e in
      let same : tables_of q (lowest q) ≡ tables =
      ap (tables_of q) aside-lowest ∙ same_tables p q s.count s.k (lowest p) ∙ sym by.tables in
      either-answer q _
      (λ met f. inl (f ∙ ap₂ accepted (aside-rounds ∙ sym by.rounds) same))
      (λ m k n H f. inr (fork-refused by.met m k n H f (when-refused q m k n H f)))

  pub unnamed-no-effect : NoEffect p q
  unnamed-no-effect = record { lowest = aside-lowest; rounds = aside-rounds; answer = aside-answer }

-- ---- one node changed for another

put-k : (b : Bool) (n : ℕ) (node : Node) (x : Method) → (put_node b n node x).k ≡ x.k
put-k true n node x = refl
put-k false n node x = refl

put-declared : (b : Bool) (n : ℕ) (node : Node) (x : Method) → (put_node b n node x).declared ≡ x.declared
put-declared true n node x = refl
put-declared false n node x = refl

put-table : (b : Bool) (n : ℕ) (node : Node) (x : Method) → (put_node b n node x).table ≡ x.table
put-table true n node x = refl
put-table false n node x = refl

put-length : (b : Bool) (n : ℕ) (node : Node) (x : Method) → length (put_node b n node x).nodes ≡ length x.nodes
put-length true n node x = length-set x.nodes n node
put-length false n node x = refl

module _ (p : Program) (m n : ℕ) (node : Node) where
  put_other : (i j : ℕ) → ((i ≡ m) → (j ≡ n) → ⊥) → node_at (method_at (change_node m n node p) i) j ≡ node_at (method_at p i) j
  unfolding node_at change_node
  put_other i j other = go (dec_lt i (method_count p))
    where
      put : (b : Bool) → eqb i m ≡ b → get_or (put_node b n node (method_at p i)).nodes j plain_node ≡ get_or (method_at p i).nodes j plain_node
      put true e = get_or-set_other (method_at p i).nodes n j node plain_node (other (eqb-true i m e))
      put false e = refl

      go : Dec (i < method_count p) → get_or (method_at (change_methods (λ i x. put_node (eqb i m) n node x) p) i).nodes j plain_node ≡ get_or (method_at p i).nodes j plain_node
      go (yes h) = ap (λ (x : Method). get_or x.nodes j plain_node) (changed-at (λ i x. put_node (eqb i m) n node x) p i h) ∙ put (eqb i m) refl
      go (no h) = ap (λ (x : Method). get_or x.nodes j plain_node) (changed-past (λ i x. put_node (eqb i m) n node x) p i (omega arith))

  pub changed-node : Unnamed (node_at (method_at p m)) n → (n ≡ root_of (method_at p m) → ⊥) → ChangedAside p (change_node m n node p)
  unfolding is_declared change_node
  changed-node unnamed not_root =
      let f : ℕ → Method → Method = λ i x. put_node (eqb i m) n node x in
      record {
        fields = unfold change_methods in refl;
        count = changed-count f p;
        k = changed f p (λ x y. y.k ≡ x.k) (λ x. refl) (λ i x. put-k (eqb i m) n node x);
        declared = changed f p (λ x y. y.declared ≡ x.declared) (λ x. refl) (λ i x. put-declared (eqb i m) n node x);
        table = changed f p (λ x y. y.table ≡ x.table) (λ x. refl) (λ i x. put-table (eqb i m) n node x);
        node_count = changed f p (λ x y. length y.nodes ≡ length x.nodes) (λ x. refl) (λ i x. put-length (eqb i m) n node x);
        nodes = λ i j keeps. put_other i j (λ e g. keeps (subst (λ (x : ℕ). Aside (method_at p x) j) (sym e) (subst (Aside (method_at p m)) (sym g) itself-aside)));
      }
    where
      itself-aside : Aside (method_at p m) n
      itself-aside = record { top = n; unnamed = unnamed; not_root = not_root; under = itself }

  -- an unnamed node but the root, changed for any other
  pub unnamed-node : WellFormed p → Unnamed (node_at (method_at p m)) n → (n ≡ root_of (method_at p m) → ⊥) → NoEffect p (change_node m n node p)
  unnamed-node w unnamed not_root = unnamed-no-effect p (change_node m n node p) w (changed-node unnamed not_root)
