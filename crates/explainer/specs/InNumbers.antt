-- An explanation's numbers, as a verdict has them.
-- Assumes nothing.
use Rattle.checker.specs.declared.numbers.Numbers as verdict
use Rattle.explainer.specs.Explain.{Numbers}

-- methods and rounds are 0, and the count of the steps stands elsewhere
abbrev pub without_count : Numbers → verdict.Numbers
without_count n = record { number = n.number; line = n.line; method = n.method; kind = n.kind; node = n.node; set = n.set; methods = 0; rounds = 0 }
