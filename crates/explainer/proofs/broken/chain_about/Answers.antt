-- `explainer::broken::chain_about` meets its contract.
-- Assumes nothing.
use Rattle.std.proofs.Common.{sym, ◌∙◌}
use Rattle.solver.specs.Flat.{program_in}
use Rattle.explainer.proofs.Laws.Asked.{entry-there}
use Rattle.explainer.proofs.Laws.Known.{ready-known}
use Rattle.explainer.proofs.Laws.Broken.{along-body, no-about, body-about, entry-about, gives-same}
use Rattle.explainer.proofs.broken.chain_about.Goals as goal

pub returns-then-not-is_entry : goal.returns-then-not-is_entry
returns-then-not-is_entry c = let a = c.args in
    no-about (program_in a.known.now.tables.bytes) a.method a.kind a.set (sym c.is_entry.ensures ∙ c.if-not-is_entry.true)

pub body_place-at-requires-clause-entry : goal.body_place-at-requires-clause-entry
body_place-at-requires-clause-entry c = let a = c.args in
    entry-there (program_in a.known.now.tables.bytes) a.method a.set (sym c.is_entry.ensures ∙ c.if-not-is_entry.false)

pub whole-requires : goal.whole-requires
whole-requires c = let a = c.args in
    let k = a.known.now in
    let entry = entry-there (program_in k.tables.bytes) a.method a.set (sym c.is_entry.ensures ∙ c.if-not-is_entry.false) in
    let along = along-body k.tables.bytes k.risen.rises (ready-known k c.requires) a.method a.set entry c.body_place-at.result c.body_place-at.ensures.0 c.body_place-at.ensures.1 in
    (along.going, along.entered)

pub returns-then-kind-eq1 : goal.returns-then-kind-eq1
returns-then-kind-eq1 c = let a = c.args in
    let k = a.known.now in
    let p = program_in k.tables.bytes in
    let there = sym c.is_entry.ensures ∙ c.if-not-is_entry.false in
    let along = along-body k.tables.bytes k.risen.rises (ready-known k c.requires) a.method a.set (entry-there p a.method a.set there) c.body_place-at.result c.body_place-at.ensures.0 c.body_place-at.ensures.1 in
    gives-same k.tables.bytes k.risen.rises c.whole.result _ _ (along.chain ∙ sym (body-about p a.method a.kind a.set there c.if-kind-eq1.true)) c.whole.ensures

pub entry_chain-requires-clause-entry : goal.entry_chain-requires-clause-entry
entry_chain-requires-clause-entry c = let a = c.args in
    entry-there (program_in a.known.now.tables.bytes) a.method a.set (sym c.is_entry.ensures ∙ c.if-not-is_entry.false)

pub returns : goal.returns
returns c = let a = c.args in
    let k = a.known.now in
    let p = program_in k.tables.bytes in
    let there = sym c.is_entry.ensures ∙ c.if-not-is_entry.false in
    gives-same k.tables.bytes k.risen.rises c.entry_chain.result _ _ (sym (entry-about p a.method a.kind a.set there c.if-kind-eq1.false)) c.entry_chain.ensures
