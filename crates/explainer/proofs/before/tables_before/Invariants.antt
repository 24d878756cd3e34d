use Rattle.solver.specs.Flat.{blank}
use Rattle.solver.specs.Code.Rounds.{Done}
use Rattle.explainer.specs.Code.Before.{tables_at}
use Rattle.explainer.proofs.before.tables_before.Given as goal

abbrev pub invariant-loop-e : goal.invariant-loop-e
invariant-loop-e l = Done l.e (tables_at l.rises l.round) blank l.entries
