-- Steps put one behind another are those of the chain.
-- Assumes nothing.
use Rattle.std.specs.Prelude.{ℕ, zero, suc, ◌+◌, ◌*◌, ◌/◌, ◌<◌, Bool, true, false, cond, leb, List, [], ◌∷◌, ◌++◌, ◌≡◌, refl, length, take, drop, Ok, Err, IsErrAnd}
use Rattle.std.proofs.Common.{sym, ap, ap₂, ◌∙◌, subst, arith, length-append, length-drop, append-nil, append_assoc, drop-drop}
use Rattle.frames.specs.Layout.{answer_length}
use Rattle.frames.specs.Program.{Program}
use Rattle.meaning.specs.Lowest.{is_entry}
use Rattle.checker.specs.Grading.{Verdict, program_read, verdict_of}
use Rattle.checker.specs.declared.Refusal.TheVariants as verdict
use Rattle.std.proofs.Math.Seq.{take-length, take-append_seam, drop-append-add}
use borrow.Rule.Slice.PartMut.{put_mid}
use lib.ListN.{set}
use Rattle.counting.specs.Counting.{together}
use Rattle.explainer.specs.declared.asked.Refusal.{Refusal}
use Rattle.explainer.specs.declared.asked.Refusal.TheVariants.{Text, Broken, NoEntry, TooShort}
use Rattle.explainer.specs.declared.walk.Step.{Step}
use Rattle.explainer.specs.Explain.{Reason, steps_of, reason_by, reason_by_verdict, reason_of, list_of, left_by, step_bytes, bytes_of, steps_over, bytes_over}

-- ---- what is lent, as it is left

left-err : {A : Type 0} (why : Refusal) (new old : List A) → old ≡ left_by (Err why) new old
left-err (Text why) new old = refl
left-err (Broken broken) new old = refl
left-err NoEntry new old = refl
left-err (TooShort count) new old = refl

pub left-refused : {A : Type 0} (reason : Reason) (why : Refusal) (new old : List A) → Err why ≡ reason → old ≡ left_by reason new old
left-refused reason why new old e = subst (λ (x : Reason). old ≡ left_by x new old) e (left-err why new old)

pub left-given : {A : Type 0} (reason : Reason) (count : ℕ) (new old : List A) → Ok count ≡ reason → new ≡ left_by reason new old
left-given reason count new old e = subst (λ (x : Reason). new ≡ left_by x new old) e refl

-- what a `?` hands on
pub err-is : (r : Reason) (why : Refusal) → IsErrAnd r (λ e. e ≡ why) → r ≡ Err why
err-is (Ok count) why h = absurd h
err-is (Err e) why h = ap Err h

-- ---- the front of a list

-- it is that of another if they are the same where there is any
pub front_same : (n : ℕ) (cs ds : List Step) → (0 < n → cs ≡ ds) → take n cs ≡ take n ds
front_same zero cs ds e = refl
front_same (suc n) cs ds e = ap (take (suc n)) (e (omega arith))

-- how many steps are given: all, or none
abbrev pub count_of : Reason → ℕ
count_of (Ok count) = count
count_of (Err why) = 0

answer-fronted : (entry enough : Bool) (steps old : List Step)
    → left_by (cond entry (cond enough (Ok (length steps)) (Err (TooShort (length steps)))) (Err NoEntry)) (steps_over steps old) old
    ≡ take (count_of (cond entry (cond enough (Ok (length steps)) (Err (TooShort (length steps)))) (Err NoEntry))) steps
    ++ drop (count_of (cond entry (cond enough (Ok (length steps)) (Err (TooShort (length steps)))) (Err NoEntry))) old
answer-fronted true true steps old = ap (λ (cs : List Step). cs ++ drop (length steps) old) (sym (take-length steps))
answer-fronted true false steps old = refl
answer-fronted false enough steps old = refl

verdict-fronted : (v : Verdict) (p : Program) (m H room : ℕ) (old : List Step)
    → left_by (reason_by_verdict v p m H room) (steps_over (steps_of p m H) old) old
    ≡ take (count_of (reason_by_verdict v p m H room)) (steps_of p m H) ++ drop (count_of (reason_by_verdict v p m H room)) old
unfolding reason_by
verdict-fronted (Ok accepted) p m H room old = answer-fronted (is_entry p m H) (leb (length (steps_of p m H)) room) (steps_of p m H) old
verdict-fronted (Err verdict.WrongLength) p m H room old = refl
verdict-fronted (Err (verdict.Text why)) p m H room old = refl
verdict-fronted (Err (verdict.Broken broken)) p m H room old = refl

pub list-fronted : (text : List ℕ) (m H : ℕ) (old : List Step)
    → list_of text m H old
    ≡ take (count_of (reason_of text m H (length old))) (steps_of (program_read text) m H) ++ drop (count_of (reason_of text m H (length old))) old
unfolding reason_of list_of
list-fronted text m H old = verdict-fronted (verdict_of text answer_length) (program_read text) m H (length old) old

-- ---- a list of steps

pub step-put : (steps : List Step) (step : Step) (old : List Step) → length steps < length old
    → set (steps_over steps old) (length steps) step ≡ steps_over (steps ++ (step ∷ [])) old
step-put steps step [] h = absurd (omega arith)
step-put [] step (x ∷ old) h = refl
step-put (y ∷ steps) step (x ∷ old) h = ap (λ (l : List Step). y ∷ l) (step-put steps step old (omega arith))

pub step-next : (steps : List Step) (step : Step) (old now : List Step) (i : ℕ) → length steps ≡ i → now ≡ steps_over steps old → i < length now
    → set now i step ≡ steps_over (steps ++ (step ∷ [])) old
step-next steps step old now i e is h =
    let size = ap length is ∙ length-append steps (drop (length steps) old) in
    let inside : length steps < length old = omega (arith, size, length-drop (length steps) old) in
    ap₂ (λ (l : List Step) (n : ℕ). set l n step) is (sym e) ∙ step-put steps step old inside

-- ---- bytes

bytes-length : (steps : List Step) → length (together step_bytes steps) ≡ 8 * length steps
bytes-length [] = refl
bytes-length (s ∷ steps) = length-append (step_bytes s) (together step_bytes steps) ∙ eight (length (together step_bytes steps)) (length steps) (bytes-length steps)
  where
    eight : (a b : ℕ) → a ≡ 8 * b → 8 + a ≡ 8 * suc b
    eight a b e = omega arith

bytes-more : (steps : List Step) (step : Step) → together step_bytes (steps ++ (step ∷ [])) ≡ together step_bytes steps ++ step_bytes step
bytes-more [] step = append-nil (step_bytes step)
bytes-more (s ∷ steps) step =
    ap (λ (l : List ℕ). step_bytes s ++ l) (bytes-more steps step) ∙ sym (append_assoc (step_bytes s) (together step_bytes steps) (step_bytes step))

pub bytes-next : (steps : List Step) (step : Step) (old now put : List ℕ) (i k : ℕ) → length steps ≡ i → now ≡ bytes_over steps old → i < length now / 8
    → put ≡ step_bytes step → k ≡ 8 → put_mid (8 * i) k now put ≡ bytes_over (steps ++ (step ∷ [])) old
unfolding bytes_of
bytes-next steps step old now put i k e is h p eight =
    let front = together step_bytes steps in
    let rest = drop (8 * length steps) old in
    let size : length front ≡ 8 * i = bytes-length steps ∙ ap (λ (n : ℕ). 8 * n) e in
    let before : take (8 * i) now ≡ front = ap₂ take (sym size) is ∙ take-append_seam front rest in
    let past : drop k (drop (8 * i) now) ≡ drop (8 * length (steps ++ (step ∷ []))) old =
    drop-drop k (8 * i) now ∙ ap₂ (λ (n : ℕ) (l : List ℕ). drop n l) (ap₂ ◌+◌ (sym size) eight) is ∙ drop-append-add front rest 8
    ∙ drop-drop 8 (8 * length steps) old ∙ ap (λ (n : ℕ). drop n old) (let all : 8 * length steps + 8 ≡ 8 * length (steps ++ (step ∷ [])) = omega (arith, length-append steps (step ∷ [])) in all) in
    ap₂ ◌++◌ before (ap₂ ◌++◌ p past) ∙ sym (append_assoc front (step_bytes step) (drop (8 * length (steps ++ (step ∷ []))) old))
    ∙ ap (λ (l : List ℕ). l ++ drop (8 * length (steps ++ (step ∷ []))) old) (sym (bytes-more steps step))

pub no_bytes : (steps : List Step) (from : List ℕ) → length steps ≡ 0 → bytes_over steps from ≡ from
unfolding bytes_of
no_bytes [] from e = refl
no_bytes (s ∷ steps) from e = absurd (omega arith)
