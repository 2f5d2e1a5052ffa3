use Rattle.std.proofs.Common.{subst}
use Rattle.tn_text.proofs.Results.{of-error}
use Rattle.tn_config.specs.declared.configurations.Config.{Config}
use Rattle.tn_config.specs.Configurations.{ConfigState, config_of}
use Rattle.tn_top.specs.SystemPlans.{config_in, config_plan}
use Rattle.tn_top.specs.Inner.Stages.{Staged, Makes}
use Rattle.tn_top.proofs.StageLaws.{staged-read, staged-unread}
use Rattle.tn_top.proofs.systems.read_config_file.Goals as goal

abbrev seen : Config → ConfigState
seen c = config_of c

pub returns-in_err-text-clause-staged : goal.returns-in_err-text-clause-staged
returns-in_err-text-clause-staged g c =
    let file = c.args.file.now in
    let before = g.S.Store.stored c.args.store.now in
    let after = g.S.Store.stored c.read_file.new.store in
    of-error (Staged seen (config_plan file) before after) c.from_residual.result c.in_err-text.field-0.0 c.from_residual.ensures.1
    (staged-unread seen (config_in file) file before after c.in_err-text.field-0.0 c.in_err-text.ensures.staged)

pub returns-clause-staged : goal.returns-clause-staged
returns-clause-staged g c =
    let file = c.args.file.now in
    staged-read seen (config_in file) file (g.S.Store.stored c.args.store.now) (g.S.Store.stored c.read_file.new.store)
    c.in_ok-text.text c.config_in.result c.in_ok-text.ensures.staged
    (subst (λ t. Makes seen (config_in file t) c.config_in.result) c.deref.ensures.value c.config_in.ensures.made)
