-- `read` meets its contract: one text, and nothing after it.
-- Assumes nothing.
use Rattle.frames.specs.Laws.WholeText.{read-long, read-refused, read-surplus, read_whole}
use Rattle.std.proofs.Common.{rules}
use Rattle.std.proofs.lemmas.Result.{err_from_is_err_and}
use mathlib.Core.Path.{sym}
use Rattle.frames.proofs.reading.read.Goals as goal

pub returns-then-text-gt-MOST_TEXT : goal.returns-then-text-gt-MOST_TEXT
returns-then-text-gt-MOST_TEXT c = sym (read-long _ c.if-text-gt-MOST_TEXT.true)

pub returns-in_err-one : goal.returns-in_err-one
returns-in_err-one c = let p = err_from_is_err_and c.from_residual.result c.from_residual.ensures.1 in
    rw (p.1, p.2) (sym (read-refused _ c.if-text-gt-MOST_TEXT.false _ c.in_err-one.ensures))

pub returns-then-one-text : goal.returns-then-one-text
returns-then-one-text c = let e = read-surplus _ c.if-text-gt-MOST_TEXT.false _ c.in_ok-one.ensures c.if-one-text.true in search rules

pub returns : goal.returns
returns c = sym (read_whole _ c.if-text-gt-MOST_TEXT.false _ c.in_ok-one.ensures c.if-one-text.false)
