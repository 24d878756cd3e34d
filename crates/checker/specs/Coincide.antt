-- Two permitted outcomes coincide: whatever the call's contract lets a program do, it lets it do one thing only.
-- Assumes nothing.
use Rattle.std.specs.Prelude.{List, ◌≡◌, ℕ, length}
use Rattle.std.proofs.Common.{sym, ◌∙◌}
use Rattle.checker.specs.Grading.{Verdict, verdict_of, answer_of}

-- an outcome that meets the contract of `grade`
pub record Permits (text old : List ℕ) (verdict : Verdict) (new : List ℕ) : Type 0 where
  pub says : verdict ≡ verdict_of text (length old)
  pub leaves : new ≡ answer_of text old

pub coincide : (text old : List ℕ) (v w : Verdict) (new other : List ℕ) → Permits text old v new → Permits text old w other → (v ≡ w) × (new ≡ other)
coincide text old v w new other p q = (p.says ∙ sym q.says, p.leaves ∙ sym q.leaves)

-- the same of every contract that is an equation, whatever its values
pub one-result {ℓ} : {A : Type ℓ} {x y e : A} → x ≡ e → y ≡ e → x ≡ y
one-result p q = p ∙ sym q
