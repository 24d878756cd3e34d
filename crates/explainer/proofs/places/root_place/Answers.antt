-- `explainer::places::root_place` meets its contract.
-- Assumes nothing.
use mathlib.Core.Path.{◌∙◌}
use native.Mathlib.Omega.{arith}
use Rattle.explainer.proofs.Laws.Places.{rises-size, methods-few, set-few, root-found, root_in, grade-few, round-found}
use Rattle.explainer.proofs.places.root_place.Goals as goal

pub overflow_mul-m : goal.overflow_mul-m
overflow_mul-m c = let a = c.args in
    omega (arith, methods-few a.tables.now a.rises.now c.requires.ready a.m c.requires.has_been.entry.method)

pub overflow_add-m : goal.overflow_add-m
overflow_add-m c = let a = c.args in
    let ready = c.requires.ready in
    let been = c.requires.has_been in
    omega (arith, methods-few a.tables.now a.rises.now ready a.m been.entry.method, set-few a.tables.now a.rises.now ready a.m a.set been.entry)

pub first_round-round-requires : goal.first_round-round-requires
first_round-round-requires c = let a = c.args in
    let t = a.tables.now in
    let ready = c.requires.ready in
    let been = c.requires.has_been in
    let few = set-few t a.rises.now ready a.m a.set been.entry in
    let small = methods-few t a.rises.now ready a.m been.entry.method in
    (rises-size t a.rises.now ready, omega (arith, few, small), grade-few t a.rises.now ready a.m a.set a.grade been)

pub returns : goal.returns
returns c = let a = c.args in
    let t = a.tables.now in
    let ready = c.requires.ready in
    let been = c.requires.has_been in
    let round = c.first_round-round.ensures ∙ round-found t a.rises.now ready a.m a.set a.grade been in (
      root-found t a.rises.now ready a.m a.set been.entry c.first_round-round.result c.at_root.result c.at_root.ensures a.grade round,
      root_in t a.rises.now ready a.m a.set been.entry c.first_round-round.result c.at_root.result c.at_root.ensures a.grade round,
    )
