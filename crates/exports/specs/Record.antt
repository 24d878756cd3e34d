-- The record of a call from another language: document 01's numbers in eleven bytes, of an explanation also how many steps, in thirteen. Two-byte numbers
-- are high byte first.
-- Assumes nothing.
use Rattle.std.specs.Prelude.{ℕ, ◌/◌, ◌%◌, cond, List, [], ◌∷◌, ◌++◌, eqb, length}
use Rattle.checker.specs.Grading.{numbers_of, verdict_of, answer_of}
use Rattle.checker.specs.declared.numbers.Numbers.{Numbers}
use Rattle.explainer.specs.Explain as explain
use Rattle.explainer.specs.declared.walk.Step.{Step}

abbrev pub record_length : ℕ
record_length = 11

abbrev pub record_of : Numbers → List ℕ
record_of n =
    n.number
    ∷ n.line / 256 % 256
    ∷ n.line % 256
    ∷ n.method % 256
    ∷ n.kind % 256
    ∷ n.node / 256 % 256
    ∷ n.node % 256
    ∷ n.set % 256
    ∷ n.methods % 256
    ∷ n.rounds / 256 % 256
    ∷ n.rounds % 256
    ∷ []

-- the result: the refusal's number, or 255 for a record of another length
unfoldable pub returned : (text : List ℕ) (answer page : ℕ) → ℕ
returned text answer page = cond (eqb page record_length) (numbers_of (verdict_of text answer)).number 255

-- the answer and the record as they are left: a record of another length leaves both
unfoldable pub answered : (text old : List ℕ) (page : ℕ) → List ℕ
answered text old page = cond (eqb page record_length) (answer_of text old) old

unfoldable pub recorded : (text : List ℕ) (answer : ℕ) (old : List ℕ) → List ℕ
recorded text answer old = cond (eqb (length old) record_length) (record_of (numbers_of (verdict_of text answer))) old

-- ---- an explanation: the eleven bytes, methods and rounds 0, and behind them how many steps it has or a list must have room for

abbrev pub reason_length : ℕ
reason_length = 13

abbrev pub reason_record_of : explain.Numbers → List ℕ
reason_record_of n =
    record_of
    (record { number = n.number; line = n.line; method = n.method; kind = n.kind; node = n.node; set = n.set; methods = 0; rounds = 0 })
    ++ (n.count / 256 % 256 ∷ n.count % 256 ∷ [])

-- the result: the refusal's number, or 255 for a record of another length
unfoldable pub reason_returned : (text : List ℕ) (m H steps page : ℕ) → ℕ
reason_returned text m H steps page = cond (eqb page reason_length) (explain.numbers_of (explain.reason_of text m H steps)).number 255

-- the list and the record as they are left: a record of another length leaves both
unfoldable pub reason_steps : (text : List ℕ) (m H : ℕ) (old : List Step) (page : ℕ) → List Step
reason_steps text m H old page = cond (eqb page reason_length) (explain.list_of text m H old) old

unfoldable pub reason_recorded : (text : List ℕ) (m H steps : ℕ) (old : List ℕ) → List ℕ
reason_recorded text m H steps old = cond (eqb (length old) reason_length) (reason_record_of (explain.numbers_of (explain.reason_of text m H steps))) old
