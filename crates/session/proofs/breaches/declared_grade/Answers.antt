-- `declared_grade` meets its contract: the tables that are read stand for the text's program.
-- Assumes nothing.
use Rattle.std.proofs.Common.{sym, ◌∙◌}
use Rattle.session.proofs.Laws.Breach.{declared-read}
use Rattle.session.proofs.breaches.declared_grade.Goals as goal

pub returns : goal.returns
returns c = declared-read c.args.text.now c.args.method c.args.set c.requires c.unwrap-tables.result c.entry.result (sym c.read.ensures ∙ c.unwrap-tables.ensures) c.entry.ensures.is
