use Rattle.std.proofs.Common.{Ok, refl}
use Rattle.tn_text.proofs.Results.{of-error}
use Rattle.tn_config.specs.declared.configurations.Config.{Config}
use Rattle.tn_config.specs.Configurations.{ConfigState, config_of}
use Rattle.tn_system.specs.declared.systems.System.{System}
use Rattle.tn_system.specs.Systems.{SystemState, system_of}
use Rattle.tn_top.specs.declared.systems.Configured.{Configured}
use Rattle.tn_top.specs.Plans.{gives, then_plan}
use Rattle.tn_top.specs.SystemPlans.{config_plan, files_plan, system_plan}
use Rattle.tn_top.specs.Inner.Stages.{Staged}
use Rattle.tn_top.specs.Inner.Systems.{configured}
use Rattle.tn_top.proofs.StageLaws.{staged-stopped, staged-then, staged-seen}
use Rattle.tn_top.proofs.systems.read_system.Goals as goal

abbrev of_config : Config → ConfigState
of_config c = config_of c

abbrev of_system : System → SystemState
of_system y = system_of y

abbrev seen : Configured → ConfigState × SystemState
seen c = configured c

pub returns-in_err-config-clause-staged : goal.returns-in_err-config-clause-staged
returns-in_err-config-clause-staged g c =
    let file = c.args.file.now in
    let before = g.S.Store.stored c.args.store.now in
    let after = g.S.Store.stored c.read_config_file.new.store in
    of-error (Staged seen (system_plan file) before after) c.from_residual.result c.in_err-config.field-0.0 c.from_residual.ensures.1
    (staged-stopped of_config seen (λ k. then_plan (files_plan file k) (λ y. gives (k, y))) (config_plan file) before after
    c.in_err-config.field-0.0 c.in_err-config.ensures.staged)

pub returns-in_err-system-clause-staged : goal.returns-in_err-system-clause-staged
returns-in_err-system-clause-staged g c =
    let file = c.args.file.now in
    let before = g.S.Store.stored c.args.store.now in
    let mid = g.S.Store.stored c.read_config_file.new.store in
    let after = g.S.Store.stored c.read_files.new.store in
    let config = c.in_ok-config.config in
    of-error (Staged seen (system_plan file) before after) c.from_residual-in_err-system.result c.in_err-system.field-0.0
    c.from_residual-in_err-system.ensures.1
    (staged-then of_config seen (λ k. then_plan (files_plan file k) (λ y. gives (k, y))) (config_plan file) before mid after config _
    c.in_ok-config.ensures.staged
    (staged-stopped of_system seen (λ y. gives (of_config config, y)) (files_plan file (of_config config)) mid after
    c.in_err-system.field-0.0 c.in_err-system.ensures.staged))

pub returns-clause-staged : goal.returns-clause-staged
returns-clause-staged g c =
    let file = c.args.file.now in
    let before = g.S.Store.stored c.args.store.now in
    let mid = g.S.Store.stored c.read_config_file.new.store in
    let after = g.S.Store.stored c.read_files.new.store in
    let config = c.in_ok-config.config in
    let system = c.in_ok-system.system in
    staged-then of_config seen (λ k. then_plan (files_plan file k) (λ y. gives (k, y))) (config_plan file) before mid after config
    (Ok (record { config = config; system = system })) c.in_ok-config.ensures.staged
    (staged-seen of_system seen (λ y. (of_config config, y)) (files_plan file (of_config config)) mid after system
    (record { config = config; system = system }) refl c.in_ok-system.ensures.staged)
