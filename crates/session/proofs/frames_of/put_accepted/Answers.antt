-- `put_accepted` meets its contract: the answer's line, and after m turns the lines of the methods below m behind it.
-- Assumes nothing.
use Rattle.std.proofs.Common.{◌≡◌, ◌∙◌, ◌++◌, [], ◌∷◌, List, ℕ, Ok, arith, ap, sym, refl, length, append-nil, append_assoc, length-append}
use Rattle.frames.specs.Program.{Program, method_at}
use Rattle.frames.specs.Tables.{cell, program_of}
use Rattle.session.specs.Writing.{line_of}
use Rattle.session.specs.Session.{answer_frame, method_frame, method_lines, session_by}
use Rattle.session.proofs.Laws.Session.{accepted-whole, stands, answer-bytes, answer-length, lines_more, lines-short}
use Rattle.session.proofs.frames_of.put_accepted.Goals as goal

pub unwrap-tables-requires : goal.unwrap-tables-requires
unwrap-tables-requires c = let whole = (accepted-whole c.args.text.now c.args.accepted.methods c.args.accepted.rounds c.requires.verdict).0 in
    let read = c.read.ensures ∙ whole.1 in rw read refl

pub loop-m-init : goal.loop-m-init
unfolding method_lines
loop-m-init c = let a = c.args in
    let n = a.accepted in
    let T = c.unwrap-tables.result in
    let s = stands a.text.now n.methods n.rounds T (sym c.read.ensures ∙ c.unwrap-tables.ensures) c.requires.verdict in
    let frame : List ℕ = 0x10 ∷ c.low.result ∷ c.high.result ∷ c.low-2.result ∷ [] in
    let own = answer-bytes n.methods n.rounds _ _ _ (omega (arith, s.formed.few_methods, s.count)) c.low.ensures c.high.ensures c.low-2.ensures in
    c.put_line.ensures ∙ (ap (λ (l : List ℕ). l ++ line_of frame) c.requires.front ∙ (ap line_of own ∙ sym (append-nil _)))

pub put_method-requires-clause-well_formed : goal.put_method-requires-clause-well_formed
put_method-requires-clause-well_formed c =
    (stands c.args.text.now c.args.accepted.methods c.args.accepted.rounds c.unwrap-tables.result (sym c.read.ensures ∙ c.unwrap-tables.ensures) c.requires.verdict).formed

pub put_method-requires-clause-m_in_bounds : goal.put_method-requires-clause-m_in_bounds
put_method-requires-clause-m_in_bounds c =
    let s = stands c.args.text.now c.args.accepted.methods c.args.accepted.rounds c.unwrap-tables.result (sym c.read.ensures ∙ c.unwrap-tables.ensures) c.requires.verdict in
    omega (arith, s.count, c.loop-m-test.true)

pub put_method-requires-clause-room : goal.put_method-requires-clause-room
put_method-requires-clause-room c = let a = c.args in
    let n = a.accepted in
    let T = c.unwrap-tables.result in
    let m = c.loop-m.m in
    let s = stands a.text.now n.methods n.rounds T (sym c.read.ensures ∙ c.unwrap-tables.ensures) c.requires.verdict in
    let head = line_of (answer_frame n.methods n.rounds) in
    let lines = method_lines (program_of (cell T.bytes)) a.answer.now m in
    omega (
      arith,
      ap length c.loop-m.invariant,
      length-append head lines,
      answer-length n.methods n.rounds,
      s.formed.few_methods,
      s.count,
      c.loop-m-test.true,
      lines-short T.bytes a.answer.now s.formed c.requires.answer_len m (omega (arith, s.count, c.loop-m-test.true)),
    )

pub loop-m-preserved : goal.loop-m-preserved
loop-m-preserved c = let a = c.args in
    let m = c.loop-m.m in
    let p = program_of (cell c.unwrap-tables.result.bytes) in
    let head = line_of (answer_frame a.accepted.methods a.accepted.rounds) in
    let line = line_of (method_frame a.answer.now m (method_at p m).k) in
    c.put_method.ensures
    ∙ (ap (λ (l : List ℕ). l ++ line) c.loop-m.invariant
    ∙ (append_assoc head (method_lines p a.answer.now m) line ∙ ap (λ (l : List ℕ). head ++ l) (sym (lines_more p a.answer.now m))))

pub returns : goal.returns
returns c = let a = c.args in
    let n = a.accepted in
    let s = stands a.text.now n.methods n.rounds c.unwrap-tables.result (sym c.read.ensures ∙ c.unwrap-tables.ensures) c.requires.verdict in
    let all : c.loop-m.m ≡ n.methods = omega arith in
    c.loop-m.invariant
    ∙ (ap (λ (m : ℕ). line_of (answer_frame n.methods n.rounds) ++ method_lines (program_of (cell c.unwrap-tables.result.bytes)) a.answer.now m) all
    ∙ ap (λ (p : Program). session_by (Ok n) p a.answer.now) s.same)
