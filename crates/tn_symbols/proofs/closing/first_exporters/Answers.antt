use Rattle.std.proofs.Common.{Some, None, take, arith, ap, sym, ◌∙◌, if◌then◌else◌}
use Rattle.std.specs.Option.{option_or}
use Rattle.std.proofs.lemmas.List.{map_more, length-map, length-take-le}
use Rattle.tn_module.specs.Modules.{Parts}
use Rattle.tn_module.specs.Names.{is_among}
use Rattle.tn_symbols.specs.Sources.{source, source_at, module_of, modules_of}
use Rattle.tn_symbols.specs.Definitions.{first_exporter}
use Rattle.tn_symbols.specs.Inner.Sourcing.{offered}
use Rattle.tn_symbols.proofs.Exporting.{exporter-more}
use Rattle.tn_symbols.proofs.closing.first_exporters.Goals as goal

pub loop-place-preserved : goal.loop-place-preserved
loop-place-preserved c = λ name.
    let before = modules_of (offered c.args.offer.now) (take c.loop-place.place c.args.stock.now) in
    let exports = c.deref.ensures.value ∙ ap (λ (m : Parts). m.exports) (c.raw-module.ensures.parts ∙ c.module_of.ensures) in
    let m = module_of (offered c.args.offer.now) (source_at c.args.stock.now c.loop-place.place) in
    c.in_ok-add_place.ensures.told name
    ∙ ap (λ o. option_or o (if is_among c.deref.result.now name then Some c.loop-place.place else None)) (c.loop-place.invariant name)
    ∙ ap (λ l. option_or (first_exporter before name) (if is_among l name then Some c.loop-place.place else None)) exports
    ∙ ap (λ k. option_or (first_exporter before name) (if is_among m.exports name then Some k else None))
    (sym (length-map (take c.loop-place.place c.args.stock.now) (module_of (offered c.args.offer.now))
    ∙ length-take-le c.loop-place.place c.args.stock.now (omega arith)))
    ∙ sym (exporter-more before name m)
    ∙ ap (λ ms. first_exporter ms name) (sym (map_more (module_of (offered c.args.offer.now)) c.args.stock.now c.loop-place.place
    (source None 0) c.loop-place-test.true))
