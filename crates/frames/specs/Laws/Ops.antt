-- Laws of the ops' names.
-- Assumes nothing.
use Rattle.std.specs.Prelude.{ℕ, suc, zero, ◌≤◌, ◌<◌, ◌≡◌, ◌||◌, [], ◌∷◌}
use Rattle.std.proofs.Common.{⊎_elim, refl, ap, arith}
use Rattle.std.proofs.Math.ListN.{get_or-eq_default}
use Rattle.counting.specs.Laws.Tests.{lt-or-le}
use Rattle.frames.specs.Ops.{op_named, number_of}
use Rattle.frames.specs.Ranges.{children_listed, names_listed, uses_field, uses_method}
use Rattle.frames.specs.declared.ops.Op.TheVariants.{PlainValue, Read, Write, Sequence, Choice, Loop, Synchronised, Assertion, Call, Fork, NoOp}

-- a number over 9 names no op
pub ops_past : (n : ℕ) → 10 ≤ n → op_named n ≡ NoOp n
unfolding op_named
ops_past n h = get_or-eq_default (PlainValue ∷ Read ∷ Write ∷ Sequence ∷ Choice ∷ Loop ∷ Synchronised ∷ Assertion ∷ Call ∷ Fork ∷ []) (NoOp n) h

-- each number is that of the op that it names
pub named_number : (n : ℕ) → number_of (op_named n) ≡ n
unfolding op_named
named_number zero = refl
named_number (suc zero) = refl
named_number (suc (suc zero)) = refl
named_number (suc (suc (suc zero))) = refl
named_number (suc (suc (suc (suc zero)))) = refl
named_number (suc (suc (suc (suc (suc zero))))) = refl
named_number (suc (suc (suc (suc (suc (suc zero)))))) = refl
named_number (suc (suc (suc (suc (suc (suc (suc zero))))))) = refl
named_number (suc (suc (suc (suc (suc (suc (suc (suc zero)))))))) = refl
named_number (suc (suc (suc (suc (suc (suc (suc (suc (suc zero))))))))) = refl
named_number (suc (suc (suc (suc (suc (suc (suc (suc (suc (suc n)))))))))) = omega arith

pub no_op_past : (n m : ℕ) → op_named n ≡ NoOp m → 10 ≤ n
unfolding op_named
no_op_past zero m e = cc
no_op_past (suc zero) m e = cc
no_op_past (suc (suc zero)) m e = cc
no_op_past (suc (suc (suc zero))) m e = cc
no_op_past (suc (suc (suc (suc zero)))) m e = cc
no_op_past (suc (suc (suc (suc (suc zero))))) m e = cc
no_op_past (suc (suc (suc (suc (suc (suc zero)))))) m e = cc
no_op_past (suc (suc (suc (suc (suc (suc (suc zero))))))) m e = cc
no_op_past (suc (suc (suc (suc (suc (suc (suc (suc zero)))))))) m e = cc
no_op_past (suc (suc (suc (suc (suc (suc (suc (suc (suc zero))))))))) m e = cc
no_op_past (suc (suc (suc (suc (suc (suc (suc (suc (suc (suc n)))))))))) m e = omega arith

pub op_within : (n : ℕ) → ((m : ℕ) → op_named n ≡ NoOp m → ⊥) → n < 10
op_within n f = ⊎_elim (λ (l : n < 10). l) (λ (g : 10 ≤ n). absurd (f n (ops_past n g))) (lt-or-le n 10)

-- what an op lists is what its number lists
pub children_named : (n : ℕ) → children_listed (number_of (op_named n)) ≡ children_listed n
children_named n = ap children_listed (named_number n)

pub names_named : (n : ℕ) → names_listed (number_of (op_named n)) ≡ names_listed n
names_named n = ap names_listed (named_number n)

pub uses_named : (n : ℕ) → (uses_field (number_of (op_named n)) || uses_method (number_of (op_named n))) ≡ (uses_field n || uses_method n)
uses_named n = ap (λ (x : ℕ). uses_field x || uses_method x) (named_number n)
