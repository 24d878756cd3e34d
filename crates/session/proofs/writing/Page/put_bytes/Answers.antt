-- `put_bytes` meets its contract: after i turns the digits of the first i bytes stand there.
-- Assumes nothing.
use Rattle.std.proofs.Common.{◌∙◌, ◌++◌, List, ℕ, arith, ap, sym, length, take, get_or, [], ◌∷◌, append-nil, append_assoc, length-append, length-take-le}
use Rattle.session.specs.Writing.{digits_of}
use Rattle.session.proofs.Laws.Writing.{length_digits}
use Rattle.session.proofs.Laws.Page.{digits_more}
use Rattle.session.proofs.writing.Page.put_bytes.Goals as goal

pub loop-byte-init : goal.loop-byte-init
unfolding digits_of
loop-byte-init c = sym (append-nil _)

pub put_byte-requires : goal.put_byte-requires
put_byte-requires c = let done = take c.loop-byte.byte-index c.args.bytes.now in
    omega (arith, ap length c.loop-byte.invariant, length-append c.args.self.now (digits_of done), length_digits done, length-take-le c.loop-byte.byte-index c.args.bytes.now (omega arith))

pub loop-byte-preserved : goal.loop-byte-preserved
loop-byte-preserved c = let a = c.args in
    let i = c.loop-byte.byte-index in
    let done = digits_of (take i a.bytes.now) in
    let more = digits_of (get_or a.bytes.now i 0 ∷ []) in
    c.put_byte.ensures
    ∙ (ap (λ (l : List ℕ). l ++ more) c.loop-byte.invariant
    ∙ (append_assoc a.self.now done more ∙ ap (λ (l : List ℕ). a.self.now ++ l) (digits_more a.bytes.now i c.loop-byte-test.true)))
