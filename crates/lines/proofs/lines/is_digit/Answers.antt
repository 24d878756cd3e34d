use Rattle.std.proofs.Common.{◌∙◌}
use Rattle.lines.specs.Laws.Lines.{some-digit}
use Rattle.lines.proofs.lines.is_digit.Goals as goal

pub returns : goal.returns
returns c = c.is_some.ensures ∙ some-digit _ c.args.c c.digit.ensures
