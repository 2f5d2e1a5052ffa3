use Rattle.std.proofs.Common.{sym, ap, ◌∙◌, subst, length, ◌<◌}
use Rattle.tn_text.specs.declared.faults.FaultCode.TheVariants as code
use Rattle.tn_module.specs.Modules.{Parts}
use Rattle.tn_config.specs.Configurations.{block_of}
use Rattle.tn_system.specs.Inner.Offers.{offer_of, text_of}
use Rattle.tn_system.proofs.Choosing.{part-same}
use Rattle.tn_system.proofs.Telling.{export-told}
use Rattle.tn_system.proofs.symbols.export_fault.Goals as goal

pub returns : goal.returns
returns c =
    export-told (text_of (offer_of c.args.offer.now) (block_of c.args.offer.now.block.now) c.args.source) c.args.i code.DuplicateSymbol
    c.file_of.result.now c.lines_before.result c.export_line.result c.module_of-module.result.now
    (c.module_of-module.ensures
    ∙ sym (part-same (offer_of c.args.offer.now) (block_of c.args.offer.now.block.now) c.args.source.index c.args.source.library))
    c.file_of.ensures c.lines_before.ensures.before c.fault_in.result c.raw.result.now.exports.items c.index-name.result.now
    (ap (λ (m : Parts). m.exports) c.raw.ensures.parts)
    (subst (λ (m : Parts). c.args.i < length m.exports) (sym c.module_of-module.ensures) c.requires.within)
    c.index-name.ensures c.export_line.ensures c.fault_in.ensures
