use Rattle.std.proofs.Common.{◌<◌, ◌^◌, length, ap, sym, ◌∙◌, subst}
use Rattle.std.specs.List.{All}
use Rattle.std.proofs.lemmas.List.Elements.{All-same}
use Rattle.tn_module.specs.Modules.{IsShort}
use Rattle.tn_symbols.specs.Sources.{offer, modules_of}
use Rattle.tn_symbols.specs.Inner.Sourcing.{IsHere}
use Rattle.tn_symbols.proofs.Sourcing.{choice-here, choice-few, here-short}
use Rattle.tn_symbols.proofs.OneChoice.{one_is_chosen}
use Rattle.tn_symbols.proofs.choices.choose.Goals as goal

pub copies-requires : goal.copies-requires
copies-requires c =
    let o = offer c.args.pool.now c.args.named.now c.args.shelf.now c.args.used.now in
    All-same (IsHere o) c.deref.result.now _ c.deref.ensures.value (choice-here o c.requires _ c.in_ok-sources.ensures.choice)

pub check-requires-clause-few : goal.check-requires-clause-few
check-requires-clause-few c =
    let o = offer c.args.pool.now c.args.named.now c.args.shelf.now c.args.used.now in
    subst (λ l. length l < 2 ^ 30) (sym (c.deref-2.ensures.value ∙ c.in_ok-modules.ensures ∙ ap (modules_of o) c.deref.ensures.value))
    (choice-few o c.requires _ c.in_ok-sources.ensures.choice)

pub check-requires-clause-short : goal.check-requires-clause-short
check-requires-clause-short c =
    let o = offer c.args.pool.now c.args.named.now c.args.shelf.now c.args.used.now in
    subst (All IsShort) (sym (c.deref-2.ensures.value ∙ c.in_ok-modules.ensures ∙ ap (modules_of o) c.deref.ensures.value))
    (here-short o c.requires _ (choice-here o c.requires _ c.in_ok-sources.ensures.choice))

pub returns-in_err-sources-clause-one : goal.returns-in_err-sources-clause-one
returns-in_err-sources-clause-one c = λ named stock. one_is_chosen named stock

pub returns-in_err-modules-clause-one : goal.returns-in_err-modules-clause-one
returns-in_err-modules-clause-one c = λ named stock. one_is_chosen named stock

pub returns-in_err-check-clause-one : goal.returns-in_err-check-clause-one
returns-in_err-check-clause-one c = λ named stock. one_is_chosen named stock

pub returns-clause-one : goal.returns-clause-one
returns-clause-one c = λ named stock. one_is_chosen named stock
