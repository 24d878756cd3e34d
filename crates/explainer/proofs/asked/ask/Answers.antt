-- `explainer::asked::ask` meets its contract.
-- Assumes nothing.
use Rattle.std.proofs.Common.{sym, ◌∙◌}
use Rattle.solver.specs.Flat.{program_in}
use Rattle.explainer.proofs.Laws.Asked.{no-entry, entry-there, too_short, all-given, none-left}
use Rattle.explainer.proofs.Laws.Known.{met-reason, broken-reason}
use Rattle.explainer.proofs.asked.ask.Goals as goal

pub returns-in-Some : goal.returns-in-Some
returns-in-Some c = let a = c.args in
    let k = a.known.now in
    broken-reason k.tables.bytes c.requires.read k.risen c.requires.solved c.in-Some.broken c.in-Some.is a.method a.set a.room

pub returns-then-not-is_entry : goal.returns-then-not-is_entry
returns-then-not-is_entry c = let a = c.args in
    let k = a.known.now in
    let t = k.tables.bytes in
    no-entry (program_in t) a.method a.set a.room (sym c.is_entry.ensures ∙ c.if-not-is_entry.true)
    ∙ met-reason t c.requires.read a.known.now.risen c.requires.solved (none-left _ c.in_default.not-Some) a.method a.set a.room

pub entry_chain-chain-requires-clause-entry : goal.entry_chain-chain-requires-clause-entry
entry_chain-chain-requires-clause-entry c = let a = c.args in
    entry-there (program_in a.known.now.tables.bytes) a.method a.set (sym c.is_entry.ensures ∙ c.if-not-is_entry.false)

pub returns-then-room-chain : goal.returns-then-room-chain
returns-then-room-chain c = let a = c.args in
    let t = a.known.now.tables.bytes in
    let there = sym c.is_entry.ensures ∙ c.if-not-is_entry.false in
    too_short (program_in t) a.method a.set a.room there c.entry_chain-chain.result.count c.entry_chain-chain.ensures.all c.if-room-chain.true
    ∙ met-reason t c.requires.read a.known.now.risen c.requires.solved (none-left _ c.in_default.not-Some) a.method a.set a.room

pub returns : goal.returns
returns c = let a = c.args in
    let t = a.known.now.tables.bytes in
    let there = sym c.is_entry.ensures ∙ c.if-not-is_entry.false in (
      all-given (program_in t) a.method a.set a.room there c.entry_chain-chain.result.count c.entry_chain-chain.ensures.all c.if-room-chain.false
          ∙ met-reason t c.requires.read a.known.now.risen c.requires.solved (none-left _ c.in_default.not-Some) a.method a.set a.room,
      c.if-room-chain.false,
      c.entry_chain-chain.ensures,
    )
