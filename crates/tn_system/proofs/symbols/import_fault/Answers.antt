use Rattle.std.proofs.Common.{sym, ap, ◌∙◌, subst, length, ◌<◌}
use Rattle.tn_module.specs.Modules.{Parts}
use Rattle.tn_config.specs.Configurations.{block_of}
use Rattle.tn_system.specs.Inner.Offers.{offer_of, text_of}
use Rattle.tn_system.proofs.Choosing.{part-same}
use Rattle.tn_system.proofs.Telling.{import-told}
use Rattle.tn_system.proofs.symbols.import_fault.Goals as goal

pub returns : goal.returns
returns c =
    import-told (text_of (offer_of c.args.offer.now) (block_of c.args.offer.now.block.now) c.args.source) c.args.i c.args.code
    c.file_of.result.now c.lines_before.result c.import_line.result c.module_of-module.result.now
    (c.module_of-module.ensures
    ∙ sym (part-same (offer_of c.args.offer.now) (block_of c.args.offer.now.block.now) c.args.source.index c.args.source.library))
    c.file_of.ensures c.lines_before.ensures.before c.fault_in.result c.raw.result.now.imports.items c.index-import.result.now
    (ap (λ (m : Parts). m.imports) c.raw.ensures.parts)
    (subst (λ (m : Parts). c.args.i < length m.imports) (sym c.module_of-module.ensures) c.requires.within)
    c.index-import.ensures c.import_line.ensures c.fault_in.ensures
