-- `put_line` meets its contract: the digits, and the 0A behind them.
-- Assumes nothing.
use Rattle.std.proofs.Common.{◌∙◌, ◌++◌, [], ◌∷◌, List, ℕ, arith, ap, length, append_assoc, length-append}
use Rattle.lines.specs.Lines.{newline}
use Rattle.session.specs.Writing.{digits_of, line_of}
use Rattle.session.proofs.Laws.Writing.{length_digits}
use Rattle.session.proofs.writing.Page.put_line.Goals as goal

pub end_line-requires : goal.end_line-requires
end_line-requires c = let a = c.args in
    omega (arith, ap length c.put_bytes.ensures, length-append a.self.now (digits_of a.frame.now), length_digits a.frame.now)

pub returns : goal.returns
unfolding line_of
returns c = c.end_line.ensures ∙ (ap (λ (l : List ℕ). l ++ newline ∷ []) c.put_bytes.ensures ∙ append_assoc c.args.self.now (digits_of c.args.frame.now) (newline ∷ []))
