-- "The place by itself is a value that steps past one line and is handed back."
-- Assumes nothing.
use Rattle.std.specs.Prelude.{ℕ, ◌+◌, ◌-◌, ◌^◌, min, cond, List, ltb, length, take, drop}
use Rattle.lines.specs.Lines.{line_length}
use Rattle.lines.specs.declared.Place.{Place}

-- the place after the line that stands at a place; at the end of the text the place stays. The largest line number stays too.
unfoldable pub past_line : List ℕ → Place → Place
past_line t p =
    cond (ltb p.at (length t))
    (record { at = p.at + line_length (drop p.at t); line = min (p.line + 1) (2 ^ 64 - 1) })
    p

-- the line at a place of a text
abbrev pub line_from : List ℕ → ℕ → List ℕ
line_from text at = take (line_length (drop at text)) (drop at text)
