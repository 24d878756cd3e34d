-- Programs that differ only in what they declare give each assignment the same root tables.
-- Assumes nothing.
use Prim.Native.Nat.{ℕ, zero, suc, pred, ◌<◌}
use Rattle.std.specs.Prelude.{true, false, not, ◌≡◌, eqb, length}
use Rattle.std.proofs.Math.Bool.{cond}
use mathlib.Core.List.{List, [], ◌∷◌, ◌++◌, map}
use Rattle.std.proofs.Math.Path.{refl, ap, ap₂, fun_ext}
use Rattle.std.proofs.Common.{sym, ◌∙◌, subst}
use Rattle.std.proofs.Math.ListN.{get_or}
use Rattle.grades.specs.HeldSets.{entries, held}
use Rattle.frames.specs.Program.{Field, Node, Program, no_field, field_at, method_at, node_at, plain_node}
use Rattle.meaning.specs.Meaning.{Assignment, root_of, Op, plain_value, read, write, sequence, choice, loop, synchronised, assertion, call, fork, no_op, op_of, children, first_name, field_access, callee_entry, Part, child, own, child_set, own_part, parts, part_grade, whole, node_grade, below, meaning, root_table}
use Rattle.counting.specs.Counting.{up_to}
use Rattle.meaning.specs.Lowest.{method_count, entry_count}
use Rattle.meaning.specs.Constraints.{Entry, named_method, fork_at, is_fork, tables_of}
use Rattle.meaning.specs.Changes.{Alike}

-- a meaning looks only at a program's fields and at how many names each method has
module _ (p q : Program) (fields : q.fields ≡ p.fields) (k : (m : ℕ) → (method_at q m).k ≡ (method_at p m).k) where
  same-field : (u : ℕ) → field_at q u ≡ field_at p u
  unfolding field_at
  same-field u = ap (λ (l : List Field). get_or l u no_field) fields

  same-own : (a : Assignment) (o : Op) (node : Node) (H : ℕ) → own_part q a o node H ≡ own_part p a o node H
  same-own a plain_value node H = refl
  same-own a read node H = ap (λ (f : Field). own (field_access f false node.names H) ∷ []) (same-field node.U)
  same-own a write node H = ap (λ (f : Field). own (field_access f true node.names H) ∷ []) (same-field node.U)
  same-own a sequence node H = refl
  same-own a choice node H = refl
  same-own a loop node H = refl
  same-own a synchronised node H = refl
  same-own a assertion node H = refl
  same-own a call node H = ap (λ (k : ℕ). own (callee_entry k (a node.U) node.names H) ∷ []) (k node.U)
  same-own a fork node H = refl
  same-own a no_op node H = refl

  same-node : (a : Assignment) (lower : ℕ → ℕ → ℕ) (node : Node) (H : ℕ) → node_grade q a lower node H ≡ node_grade p a lower node H
  unfolding node_grade parts
  same-node a lower node H =
      ap
      (λ (own : List Part).
      whole (op_of node.op) (not (held H (first_name node.names)))
      (map (part_grade lower) (map (λ c. child c (child_set (op_of node.op) node.names H)) (children node) ++ own)))
      (same-own a (op_of node.op) node H)

  same-below : (a : Assignment) (nodes : ℕ → Node) (n : ℕ) → below q a nodes n ≡ below p a nodes n
  unfolding below
  same-below a nodes zero = refl
  same-below a nodes (suc n) =
      fun_ext (λ m. fun_ext (λ H.
      ap₂ (λ (here lower : ℕ). cond (eqb m n) here lower)
      (ap (λ (lower : ℕ → ℕ → ℕ). node_grade q a lower (nodes n) H) (same-below a nodes n) ∙ same-node a (below p a nodes n) (nodes n) H)
      (ap (λ (lower : ℕ → ℕ → ℕ). lower m H) (same-below a nodes n))))

  pub same-meaning : (a : Assignment) (nodes : ℕ → Node) (n H : ℕ) → meaning q a nodes n H ≡ meaning p a nodes n H
  unfolding meaning
  same-meaning a nodes n H =
      ap (λ (lower : ℕ → ℕ → ℕ). node_grade q a lower (nodes n) H) (same-below a nodes n) ∙ same-node a (below p a nodes n) (nodes n) H

-- and the answer's tables have the same shape
module _ (p q : Program) (count : method_count q ≡ method_count p) (k : (m : ℕ) → (method_at q m).k ≡ (method_at p m).k) where
  pub same_entries : (m : ℕ) → entry_count q m ≡ entry_count p m
  unfolding entry_count
  same_entries m = ap entries (k m)

  pub same_tables : (a : Assignment) → tables_of q a ≡ tables_of p a
  unfolding tables_of
  same_tables a =
      ap₂ (λ (f : ℕ → List ℕ) (n : ℕ). map f (up_to n))
      (fun_ext (λ m. ap (λ (k : ℕ). map (a m) (up_to k)) (same_entries m))) count

module _ (p q : Program) (s : Alike p q) where
  pub alike-entries : (m : ℕ) → entry_count q m ≡ entry_count p m
  alike-entries m = same_entries p q s.count s.k m

  pub alike-entry : (m H : ℕ) → Entry q m H → Entry p m H
  alike-entry m H e =
      record {
        method = subst (λ (n : ℕ). m < n) s.count e.method;
        set = subst (λ (n : ℕ). H < n) (alike-entries m) e.set;
      }

  pub alike-back : (m H : ℕ) → Entry p m H → Entry q m H
  alike-back m H e =
      record {
        method = subst (λ (n : ℕ). m < n) (sym s.count) e.method;
        set = subst (λ (n : ℕ). H < n) (sym (alike-entries m)) e.set;
      }

  same_body : (m : ℕ) → node_at (method_at q m) ≡ node_at (method_at p m)
  unfolding node_at
  same_body m = ap (λ (l : List Node). λ (n : ℕ). get_or l n plain_node) (s.nodes m)

  same-root : (m : ℕ) → root_of (method_at q m) ≡ root_of (method_at p m)
  unfolding root_of
  same-root m = ap (λ (l : List Node). pred (length l)) (s.nodes m)

  pub alike-root : (a : Assignment) (m H : ℕ) → root_table q a m H ≡ root_table p a m H
  unfolding root_table
  alike-root a m H =
      same-meaning p q s.fields s.k a (node_at (method_at q m)) (root_of (method_at q m)) H
      ∙ ap₂ (λ (nodes : ℕ → Node) (n : ℕ). meaning p a nodes n H) (same_body m) (same-root m)

  pub alike-named : (m n : ℕ) → named_method q m n ≡ named_method p m n
  unfolding named_method
  alike-named m n = ap (λ (nodes : ℕ → Node). (nodes n).U) (same_body m)

  pub alike-fork : (m n : ℕ) → fork_at q m n ≡ fork_at p m n
  unfolding fork_at
  alike-fork m n = ap (λ (nodes : ℕ → Node). is_fork (op_of (nodes n).op)) (same_body m)

  pub alike-length : (m : ℕ) → length (method_at q m).nodes ≡ length (method_at p m).nodes
  alike-length m = ap (λ (l : List Node). length l) (s.nodes m)

  pub alike-tables : (a : Assignment) → tables_of q a ≡ tables_of p a
  alike-tables a = same_tables p q s.count s.k a
