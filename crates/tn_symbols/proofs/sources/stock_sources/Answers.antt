use Rattle.std.proofs.Common.{◌∙◌, ◌++◌, ◌<◌, ap, sym, length, get_or, Some}
use Rattle.std.proofs.lemmas.List.Elements.{All-get_or}
use Rattle.tn_symbols.specs.Sources.{sources_in}
use Rattle.tn_symbols.specs.Inner.Sourcing.{offered}
use Rattle.tn_symbols.proofs.Sourcing.{stock-more, modules-here}
use Rattle.tn_symbols.proofs.sources.stock_sources.Goals as goal

pub loop-u-preserved : goal.loop-u-preserved
loop-u-preserved c =
    stock-more (offered c.args.offer.now) c.loop-u.sources.items c.add_sources.new.sources.items c.loop-u.u c.loop-u.invariant
    (c.in_ok-add_sources.ensures
    ∙ ap (λ n. c.loop-u.sources.items ++ sources_in (Some c.loop-u.u) n)
    (ap length (c.deref-modules.ensures.value ∙ sym (modules-here c.args.offer.now.shelf.now (get_or c.args.offer.now.used.now c.loop-u.u 0)
    _ (All-get_or (λ u. u < length c.args.offer.now.shelf.now) c.args.offer.now.used.now c.loop-u.u 0
    c.loop-u-test.true c.requires.used)))))
