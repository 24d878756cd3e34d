-- `print_breach` meets its contract: a line for a refusal by 7 with kind 1, and nothing for any other verdict.
-- Assumes nothing.
use Rattle.std.proofs.Common.{◌≡◌, ◌∙◌, refl, sym, ap, ℕ, [], Err, length, arith}
use Rattle.frames.specs.Program.{Program}
use Rattle.checker.specs.Grading.{Verdict, program_read, broken_at}
use Rattle.checker.specs.declared.Refusal.{Refusal}
use Rattle.checker.specs.declared.Refusal.TheVariants.{WrongLength, Text, Broken}
use Rattle.solver.specs.declared.constraints.Broken.{Broken as Constraint}
use Rattle.session.specs.Breach.{breach_by, breach_frame}
use Rattle.session.specs.BreachFacts.{breach-true, breach-line}
use Rattle.session.proofs.Laws.Writing.{length-line}
use Rattle.session.proofs.Laws.Breach.{by-verdict, other-kind}
use Rattle.session.proofs.breaches.print_breach.Goals as goal

-- every other refusal is none by 7
no-breach : (r : Refusal) → ((b : Constraint) → r ≡ Broken b → ⊥) → (p : Program) → breach_by (Err r) p ≡ []
no-breach WrongLength h p = refl
no-breach (Text refusal) h p = refl
no-breach (Broken b) h p = absurd (h b refl)

-- a refusal by 7 whose kind was tested
told : (v : Verdict) (r : Refusal) (b : Constraint) → v ≡ Err r → r ≡ Broken b → b.kind ≡ 1 → v ≡ broken_at b.method 1 b.node b.set
told v r b e is one = e ∙ (ap Err is ∙ ap (λ (i : ℕ). broken_at b.method i b.node b.set) one)

pub returns-in_default-clause-value : goal.returns-in_default-clause-value
returns-in_default-clause-value c = by-verdict c.args.text.now c.new-page.result c.grade.result _ c.grade.ensures.value c.in_default.is c.new-page.ensures

pub put_breach-requires-clause-breach : goal.put_breach-requires-clause-breach
put_breach-requires-clause-breach c = let b = c.in-Broken.broken in
    breach-true c.args.text.now b.method b.node b.set (sym c.grade.ensures.value ∙ told c.grade.result c.in-Err.refusal b c.in-Err.is c.in-Broken.is c.if-broken-eq-DECLARED.true)

pub returns-then-broken-eq-DECLARED-clause-value : goal.returns-then-broken-eq-DECLARED-clause-value
returns-then-broken-eq-DECLARED-clause-value c = let b = c.in-Broken.broken in
    c.put_breach.ensures
    ∙ sym (breach-line c.args.text.now b.method b.node b.set (sym c.grade.ensures.value ∙ told c.grade.result c.in-Err.refusal b c.in-Err.is c.in-Broken.is c.if-broken-eq-DECLARED.true))

pub returns-else-broken-eq-DECLARED-clause-value : goal.returns-else-broken-eq-DECLARED-clause-value
returns-else-broken-eq-DECLARED-clause-value c = let b = c.in-Broken.broken in
    by-verdict c.args.text.now c.new-page.result c.grade.result (Err (Broken b)) c.grade.ensures.value (c.in-Err.is ∙ ap Err c.in-Broken.is)
    (c.new-page.ensures ∙ sym (other-kind (program_read c.args.text.now) b.method b.kind b.set c.if-broken-eq-DECLARED.false))

pub returns-in_default-refusal-clause-value : goal.returns-in_default-refusal-clause-value
returns-in_default-refusal-clause-value c =
    by-verdict c.args.text.now c.new-page.result c.grade.result (Err c.in-Err.refusal) c.grade.ensures.value c.in-Err.is
    (c.new-page.ensures ∙ sym (no-breach c.in-Err.refusal c.in_default-refusal.not-Broken (program_read c.args.text.now)))

pub returns-then-broken-eq-DECLARED-clause-fits : goal.returns-then-broken-eq-DECLARED-clause-fits
unfolding breach_frame
returns-then-broken-eq-DECLARED-clause-fits c = let b = c.in-Broken.broken in
    omega (arith, ap length c.put_breach.ensures, length-line (breach_frame (program_read c.args.text.now) b.method b.set))
