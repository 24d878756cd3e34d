-- In a text's program nothing holds a name past those that a method may have: no method has it, and no node is synchronised on it.
-- Assumes nothing.
use Rattle.std.specs.Prelude.{ℕ, zero, suc, ◌≤◌, ◌<◌, List, [], ◌∷◌, refl, get_or}
use Rattle.std.proofs.Math.Path.{◌≡◌, subst}
use Rattle.std.proofs.Common.{sym, le_trans, not-suc-le-zero}
use native.Mathlib.Omega.{arith}
use Rattle.std.proofs.Math.Decide.{dec_lt}
use Rattle.std.proofs.Math.ListN.{length, get_or-eq_default}
use Rattle.grades.specs.HeldSets.{no_name}
use Rattle.frames.specs.Program.{Node, Method, Program, plain_node, no_method, method_at, node_at}
use Rattle.frames.specs.Layout.{layout}
use Rattle.frames.specs.WellFormed.{WellFormed}
use Rattle.meaning.specs.Meaning.{synchronised, op_of, first_name}
use Rattle.meaning.specs.NotHeld.{NeverHeld}

only-6 : (n : ℕ) → op_of n ≡ synchronised → n ≡ 6
unfolding op_of
only-6 zero e = cc
only-6 (suc zero) e = cc
only-6 (suc (suc zero)) e = cc
only-6 (suc (suc (suc zero))) e = cc
only-6 (suc (suc (suc (suc zero)))) e = cc
only-6 (suc (suc (suc (suc (suc zero))))) e = cc
only-6 (suc (suc (suc (suc (suc (suc zero)))))) e = refl
only-6 (suc (suc (suc (suc (suc (suc (suc zero))))))) e = cc
only-6 (suc (suc (suc (suc (suc (suc (suc (suc zero)))))))) e = cc
only-6 (suc (suc (suc (suc (suc (suc (suc (suc (suc zero))))))))) e = cc
only-6 (suc (suc (suc (suc (suc (suc (suc (suc (suc (suc n)))))))))) e = cc

first-listed : (names : List ℕ) → 0 < length names → first_name names ≡ get_or names 0 0
unfolding first_name
first-listed [] h = absurd (not-suc-le-zero h)
first-listed (t ∷ names) h = refl

module _ (p : Program) (w : WellFormed p) (l : ℕ) (past : layout.most_names ≤ l) where
  few-names : (m : ℕ) → (method_at p m).k ≤ l
  few-names m = go (dec_lt m (length p.methods))
    where
      go : Dec (m < length p.methods) → (method_at p m).k ≤ l
      go (yes h) = le_trans (w.methods m h).names past
      go (no h) =
          unfold method_at no_method in
          subst (λ (x : Method). x.k ≤ l) (sym (get_or-eq_default p.methods no_method (omega arith))) (omega arith)

  plain-unlocked : op_of plain_node.op ≡ synchronised → ⊥
  unfolding plain_node
  plain-unlocked e = let six : ◌≡◌ {A = ℕ} 0 6 = only-6 0 e in omega arith

  no-lock : (m n : ℕ) → op_of (node_at (method_at p m) n).op ≡ synchronised → first_name (node_at (method_at p m) n).names ≡ l → ⊥
  no-lock m n e f = go (dec_lt m (length p.methods)) (dec_lt n (length (method_at p m).nodes))
    where
      past-nodes : length (method_at p m).nodes ≤ n → ⊥
      past-nodes h =
          let plain : node_at (method_at p m) n ≡ plain_node = unfold node_at in get_or-eq_default (method_at p m).nodes plain_node h in
          plain-unlocked (subst (λ (x : Node). op_of x.op ≡ synchronised) plain e)

      none : length p.methods ≤ m → length (method_at p m).nodes ≤ n
      none h =
          unfold method_at no_method in
          subst (λ (x : Method). length x.nodes ≤ n) (sym (get_or-eq_default p.methods no_method h)) (omega arith)

      go : Dec (m < length p.methods) → Dec (n < length (method_at p m).nodes) → ⊥
      go (yes h) (yes g) =
          let node = w.nodes m n h g in
          let lock = node.synchronised (only-6 _ e) in
          let few : (method_at p m).k ≤ l = few-names m in
          omega (arith, first-listed (node_at (method_at p m) n).names (omega (arith, node.names)), lock, few, f)
      go (yes h) (no g) = past-nodes (omega arith)
      go (no h) d = past-nodes (none (omega arith))

  pub never-held : (l ≡ no_name → ⊥) → NeverHeld p l
  never-held is_name = record { is_name = is_name; methods = few-names; locks = no-lock }
