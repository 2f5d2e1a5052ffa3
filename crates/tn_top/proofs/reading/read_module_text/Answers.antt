use Rattle.std.proofs.Common.{subst}
use Rattle.tn_text.proofs.Results.{of-error}
use Rattle.tn_module.specs.Modules.{Parts}
use Rattle.tn_modtext.specs.ModuleReading.{module_read}
use Rattle.tn_top.specs.ModulePlans.{or_fault, module_plan}
use Rattle.tn_top.specs.Inner.Stages.{Staged, Makes}
use Rattle.tn_top.proofs.StageLaws.{staged-read, staged-unread}
use Rattle.tn_top.proofs.reading.read_module_text.Goals as goal

abbrev same : Parts → Parts
same m = m

pub returns-in_err-text-clause-staged : goal.returns-in_err-text-clause-staged
returns-in_err-text-clause-staged g c =
    let source = c.args.source.now in
    let before = g.S.Store.stored c.args.store.now in
    let after = g.S.Store.stored c.read_file.new.store in
    of-error (Staged same (module_plan source) before after) c.from_residual.result c.in_err-text.field-0.0 c.from_residual.ensures.1
    (staged-unread same (λ t. or_fault source (module_read t)) source before after c.in_err-text.field-0.0 c.in_err-text.ensures.staged)

pub returns-clause-staged : goal.returns-clause-staged
returns-clause-staged g c =
    let source = c.args.source.now in
    staged-read same (λ t. or_fault source (module_read t)) source (g.S.Store.stored c.args.store.now)
    (g.S.Store.stored c.read_file.new.store) c.in_ok-text.text c.module_in.result c.in_ok-text.ensures.staged
    (subst (λ t. Makes same (or_fault source (module_read t)) c.module_in.result) c.deref.ensures.value c.module_in.ensures.made)
