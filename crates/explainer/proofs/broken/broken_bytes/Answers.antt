-- `explainer::broken::broken_bytes` meets its contract.
-- Assumes nothing.
use Rattle.std.proofs.Common.{List, length, sym, ap, ◌∙◌, arith}
use Rattle.explainer.specs.declared.walk.Step.{Step}
use Rattle.explainer.specs.Explain.{bytes_over}
use Rattle.explainer.proofs.Laws.Known.{broken-read, broken-refused}
use Rattle.explainer.proofs.Laws.Broken.{no_room, all-put, none-put}
use Rattle.explainer.proofs.broken.broken_bytes.Goals as goal

pub returns-in_default : goal.returns-in_default
returns-in_default c = let none = broken-refused c.args.text.now c.in_default.field-0 c.in_default.ensures in
    record { value = ap length none; bytes_after = none-put c.args.text.now c.args.bytes.now none }

pub returns-in_default-find_broken : goal.returns-in_default-find_broken
returns-in_default-find_broken c = let none = sym c.in_default-find_broken.ensures ∙ broken-read c.args.text.now c.in-Ok.known.tables c.in-Ok.ensures.0 in
    record { value = ap length none; bytes_after = none-put c.args.text.now c.args.bytes.now none }

pub returns-then-chain-room : goal.returns-then-chain-room
returns-then-chain-room c = let a = c.args in
    let gives = c.in-Some.ensures in
    let same = broken-read a.text.now c.in-Ok.known.tables c.in-Ok.ensures.0 in
    let all = gives.all ∙ ap length same in
    record {
      value = all;
      bytes_after =
          c.fill.ensures ∙ ap (λ (s : List Step). bytes_over s a.bytes.now) (gives.along.chain ∙ same)
          ∙ all-put a.text.now a.bytes.now (omega (arith, all, c.room.ensures, c.if-chain-room.true));
    }

pub returns-else-chain-room : goal.returns-else-chain-room
returns-else-chain-room c = let a = c.args in
    let all = c.in-Some.ensures.all ∙ ap length (broken-read a.text.now c.in-Ok.known.tables c.in-Ok.ensures.0) in
    record { value = all; bytes_after = no_room a.text.now a.bytes.now (omega (arith, all, c.room.ensures, c.if-chain-room.false)) }
