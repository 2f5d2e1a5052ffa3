use Rattle.std.proofs.Common.{◌∙◌, arith, ap, length}
use Rattle.tn_symbols.specs.Sources.{offer, named_sources, stock_sources}
use Rattle.tn_symbols.specs.Inner.Sourcing.{IsHere}
use Rattle.std.proofs.lemmas.List.Elements.{All-same}
use Rattle.tn_symbols.proofs.Sourcing.{few-named, named-here, stock-here}
use Rattle.tn_symbols.proofs.OneChoice.{one_is_chosen}
use Rattle.tn_symbols.proofs.choices.chosen_sources.Goals as goal

pub named_sources-requires : goal.named_sources-requires
named_sources-requires c = few-named (offer c.args.pool.now c.args.named.now c.args.shelf.now c.args.used.now) c.requires

pub picks-requires-clause-first : goal.picks-requires-clause-first
picks-requires-clause-first c =
    let o = offer c.args.pool.now c.args.named.now c.args.shelf.now c.args.used.now in
    All-same (IsHere o) c.deref.result.now (named_sources o) (c.deref.ensures.value ∙ c.in_ok-first.ensures) (named-here o c.requires)

pub picks-requires-clause-stock : goal.picks-requires-clause-stock
picks-requires-clause-stock c =
    let o = offer c.args.pool.now c.args.named.now c.args.shelf.now c.args.used.now in
    All-same (IsHere o) c.deref-2.result.now (stock_sources o) (c.deref-2.ensures.value ∙ c.in_ok-stock.ensures) (stock-here o c.requires)

pub picks-requires-clause-few : goal.picks-requires-clause-few
picks-requires-clause-few c = omega (arith, c.requires.few, ap length c.in_ok-stock.ensures)

pub returns-in_err-first-clause-one : goal.returns-in_err-first-clause-one
returns-in_err-first-clause-one c = λ named stock. one_is_chosen named stock

pub returns-in_err-stock-clause-one : goal.returns-in_err-stock-clause-one
returns-in_err-stock-clause-one c = λ named stock. one_is_chosen named stock

pub returns-in_err-picks-clause-one : goal.returns-in_err-picks-clause-one
returns-in_err-picks-clause-one c = λ named stock. one_is_chosen named stock

pub returns-clause-one : goal.returns-clause-one
returns-clause-one c = λ named stock. one_is_chosen named stock

pub stock_sources-requires : goal.stock_sources-requires
stock_sources-requires c = c.requires
