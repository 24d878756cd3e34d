-- `explainer::known::know` meets its contract.
-- Assumes nothing.
use Rattle.std.proofs.Common.{sym, refl, ◌∙◌}
use Rattle.explainer.proofs.Laws.Known.{read-tables, some-room}
use Rattle.explainer.proofs.known.know.Goals as goal

pub unwrap-risen-requires : goal.unwrap-risen-requires
unwrap-risen-requires c = let read = read-tables c.args.text.now c.in_ok-tables.tables (sym c.read.ensures ∙ c.in_ok-tables.was) in
    let some = c.solve_rises.ensures ∙ some-room c.in_ok-tables.tables.bytes read in
    rw some refl

pub returns : goal.returns
returns c = let read = sym c.read.ensures ∙ c.in_ok-tables.was in
    (read, record { read = read-tables c.args.text.now c.in_ok-tables.tables read; solved = sym c.unwrap-risen.ensures ∙ c.solve_rises.ensures })
