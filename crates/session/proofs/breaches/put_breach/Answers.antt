-- `put_breach` meets its contract: the frame's five bytes, as one line.
-- Assumes nothing.
use Rattle.std.proofs.Common.{◌∙◌, ◌++◌, [], ◌∷◌, List, ℕ, ap, sym, refl}
use Rattle.session.specs.Writing.{line_of}
use Rattle.session.proofs.Laws.Breach.{root-given, breach-bytes}
use Rattle.session.proofs.breaches.put_breach.Goals as goal

pub unwrap-root-requires : goal.unwrap-root-requires
unwrap-root-requires c = let given = c.lowest_root.ensures ∙ root-given c.args.text.now c.args.method c.args.set c.requires.breach in rw given refl

pub returns : goal.returns
returns c = let root = c.unwrap-root in
    let own = breach-bytes c.args.text.now c.args.method c.args.set c.requires.breach _ _ _ root.result c.low.ensures c.low-2.ensures c.declared_grade-declared.ensures (sym root.ensures ∙ c.lowest_root.ensures) in
    let frame : List ℕ = 0x1E ∷ c.low.result ∷ c.low-2.result ∷ c.declared_grade-declared.result ∷ root.result ∷ [] in
    c.put_line.ensures ∙ (ap (λ (l : List ℕ). l ++ line_of frame) c.requires.front ∙ ap line_of own)
