use Rattle.std.proofs.Common.{ℕ, ◌≡◌, ◌+◌, ◌*◌, ◌<◌, get_or}
use Rattle.frames.specs.Layout.{layout}
use Rattle.frames.specs.Program.{method_at, node_at}
use Rattle.meaning.specs.Meaning.{meaning}
use Rattle.solver.specs.Flat.{program_in, tables_in}
use Rattle.explainer.specs.Code.Lower.{Lower}
use Rattle.explainer.proofs.lower.grade_node.Given as goal

abbrev pub invariant-loop-set : goal.invariant-loop-set
invariant-loop-set l =
    record {
      lower : Lower l.tables (tables_in l.grades) l.m l.n l.lower;
      row : (S : ℕ) → S < l.set
          → get_or l.lower (layout.grades * l.n + S) 0 ≡ meaning (program_in l.tables) (tables_in l.grades) (node_at (method_at (program_in l.tables) l.m)) l.n S;
    }
