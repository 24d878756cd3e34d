-- `put_method` meets its contract: the frame's first three bytes, its grades, and the 0A behind them.
-- Assumes nothing.
use Rattle.std.proofs.Common.{◌∙◌, ◌++◌, ◌∷◌, [], List, ℕ, arith, ap, length, take, drop, ◌+◌, ◌*◌, ◌-◌, length-append}
use Rattle.lines.specs.Lines.{newline}
use Rattle.frames.specs.Layout.{layout}
use Rattle.session.specs.Writing.{digits_of}
use Rattle.session.proofs.Laws.Writing.{length_digits}
use Rattle.session.proofs.Laws.Page.{line_parts}
use Rattle.session.proofs.Laws.Session.{frame-parts}
use Rattle.session.proofs.frames_of.put_method.Goals as goal

pub put_bytes-requires-2 : goal.put_bytes-requires-2
put_bytes-requires-2 c = let a = c.args in
    let head : List ℕ = 0x11 ∷ c.low.result ∷ c.low-2.result ∷ [] in
    omega (arith, ap length c.put_bytes.ensures, length-append a.page.now (digits_of head), length_digits head, c.entries.ensures, c.requires.room)

pub end_line-requires : goal.end_line-requires
end_line-requires c = let a = c.args in
    let head : List ℕ = 0x11 ∷ c.low.result ∷ c.low-2.result ∷ [] in
    let tail = take (layout.grades * a.m + c.entries.result - layout.grades * a.m) (drop (layout.grades * a.m) a.answer.now) in
    omega (arith, ap length c.put_bytes.ensures, length-append a.page.now (digits_of head), length_digits head, ap length c.put_bytes-2.ensures, length-append c.put_bytes.new.self (digits_of tail), length_digits tail, c.entries.ensures, c.requires.room)

pub returns : goal.returns
returns c = let a = c.args in
    let pre = c.requires in
    c.end_line.ensures
    ∙ (ap (λ (l : List ℕ). l ++ newline ∷ []) c.put_bytes-2.ensures
    ∙ line_parts a.page.now c.put_bytes.new.self _ _ _ c.put_bytes.ensures
    (frame-parts a.tables.now a.answer.now a.m pre.well_formed pre.m_in_bounds pre.answer_len c.k-k.result (layout.grades * a.m + c.entries.result - layout.grades * a.m) _ _ c.k-k.ensures.is
    (omega (arith, c.entries.ensures)) c.low.ensures c.low-2.ensures))
