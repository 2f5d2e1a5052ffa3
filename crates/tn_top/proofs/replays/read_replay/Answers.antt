use Rattle.std.proofs.Common.{◌≡◌, ℕ, List, length, Ok, Err, refl, ap, ◌∙◌, subst, sym, arith}
use Rattle.std.proofs.lemmas.List.{length-map}
use Rattle.tn_text.proofs.Results.{of-error}
use Rattle.tn_config.specs.declared.configurations.Block.{Block}
use Rattle.tn_config.specs.Configurations.{ConfigState}
use Rattle.tn_system.specs.Systems.{SystemState}
use Rattle.tn_schedule.specs.Schedules.{ScheduleState}
use Rattle.tn_top.specs.declared.refusals.Refusal.TheVariants.{NoMemory}
use Rattle.tn_top.specs.declared.replays.ReplayInput.{ReplayInput}
use Rattle.tn_top.specs.declared.replays.Scheduled.{Scheduled}
use Rattle.tn_top.specs.declared.systems.Configured.{Configured}
use Rattle.tn_top.specs.Plans.{gives, then_plan}
use Rattle.tn_top.specs.SystemPlans.{system_plan}
use Rattle.tn_top.specs.ReplayPlans.{processor_names, schedule_plan, ReplaySources, replay_sources, replay_sources_plan}
use Rattle.tn_top.specs.Inner.Stages.{Staged}
use Rattle.tn_top.specs.Inner.Systems.{configured}
use Rattle.tn_top.specs.Inner.Replays.{scheduled, replayed_of, AreWithin}
use Rattle.tn_top.proofs.StageLaws.{staged-stopped, staged-then, staged-seen, staged-wanting}
use Rattle.tn_top.proofs.TreeTexts.{names-same}
use Rattle.tn_top.proofs.replays.read_replay.Goals as goal

abbrev seen : Configured → ConfigState × SystemState
seen c = configured c

abbrev seen_schedule : Scheduled → List ℕ × ScheduleState
seen_schedule s = scheduled s

abbrev seen_all : ReplayInput → ReplaySources
seen_all r = replayed_of r

pub returns-in_err-read-clause-staged : goal.returns-in_err-read-clause-staged
returns-in_err-read-clause-staged g c =
    let file = c.args.schedule.now in
    let before = g.S.Store.stored c.args.store.now in
    let after = g.S.Store.stored c.read_system.new.store in
    of-error (Staged seen_all (replay_sources_plan c.args.config.now file) before after) c.from_residual.result c.in_err-read.field-0.0
    c.from_residual.ensures.1
    (staged-stopped seen seen_all (λ x. then_plan (schedule_plan file (processor_names x.0)) (λ s. gives (replay_sources x s)))
    (system_plan c.args.config.now) before after c.in_err-read.field-0.0 c.in_err-read.ensures.staged)

pub returns-in_err-names-clause-staged : goal.returns-in_err-names-clause-staged
returns-in_err-names-clause-staged g c =
    let file = c.args.schedule.now in
    let before = g.S.Store.stored c.args.store.now in
    let after = g.S.Store.stored c.read_system.new.store in
    of-error (Staged seen_all (replay_sources_plan c.args.config.now file) before after) c.from_residual-in_err-names.result NoMemory
    c.from_residual-in_err-names.ensures.1
    (staged-wanting seen_all (replay_sources_plan c.args.config.now file) before after c.in_ok-read.ensures.staged.same
    c.in_ok-read.ensures.staged.count)

pub read_scheduled-requires : goal.read_scheduled-requires
read_scheduled-requires g c =
    let blocks = c.in_ok-read.read.config.blocks.items in
    let few = c.in_ok-read.ensures.few in
    let many : length c.deref-2.result.now ≡ length blocks =
    ap (λ (names : List (List ℕ)). length names) (c.deref-2.ensures.value ∙ (rw c.deref.ensures.value at c.in_ok-names.ensures))
    ∙ length-map blocks (λ (b : Block). b.name) in
    omega (arith, few, many)

pub returns-in_err-scheduled-clause-staged : goal.returns-in_err-scheduled-clause-staged
returns-in_err-scheduled-clause-staged g c =
    let file = c.args.schedule.now in
    let before = g.S.Store.stored c.args.store.now in
    let mid = g.S.Store.stored c.read_system.new.store in
    let after = g.S.Store.stored c.read_scheduled.new.store in
    let read = c.in_ok-read.read in
    let names : c.deref-2.result.now ≡ processor_names (seen read).0 =
    c.deref-2.ensures.value ∙ (rw c.deref.ensures.value at c.in_ok-names.ensures ∙ sym (names-same read.config.blocks.items)) in
    of-error (Staged seen_all (replay_sources_plan c.args.config.now file) before after) c.from_residual-in_err-scheduled.result
    c.in_err-scheduled.field-0.0 c.from_residual-in_err-scheduled.ensures.1
    (staged-then seen seen_all (λ x. then_plan (schedule_plan file (processor_names x.0)) (λ s. gives (replay_sources x s)))
    (system_plan c.args.config.now) before mid after read _ c.in_ok-read.ensures.staged
    (staged-stopped seen_schedule seen_all (λ s. gives (replay_sources (seen read) s)) (schedule_plan file (processor_names (seen read).0))
    mid after c.in_err-scheduled.field-0.0
    (subst (λ ns. Staged seen_schedule (schedule_plan file ns) mid after (Err c.in_err-scheduled.field-0.0)) names
    c.in_err-scheduled.ensures.staged)))

pub returns-clause-staged : goal.returns-clause-staged
returns-clause-staged g c =
    let file = c.args.schedule.now in
    let before = g.S.Store.stored c.args.store.now in
    let mid = g.S.Store.stored c.read_system.new.store in
    let after = g.S.Store.stored c.read_scheduled.new.store in
    let read = c.in_ok-read.read in
    let made = c.in_ok-scheduled.scheduled in
    let names : c.deref-2.result.now ≡ processor_names (seen read).0 =
    c.deref-2.ensures.value ∙ (rw c.deref.ensures.value at c.in_ok-names.ensures ∙ sym (names-same read.config.blocks.items)) in
    let input : ReplayInput = record { read = read; names = c.in_ok-names.names; scheduled = made } in
    staged-then seen seen_all (λ x. then_plan (schedule_plan file (processor_names x.0)) (λ s. gives (replay_sources x s)))
    (system_plan c.args.config.now) before mid after read (Ok input) c.in_ok-read.ensures.staged
    (staged-seen seen_schedule seen_all (λ s. replay_sources (seen read) s) (schedule_plan file (processor_names (seen read).0))
    mid after made input refl
    (subst (λ ns. Staged seen_schedule (schedule_plan file ns) mid after (Ok made)) names c.in_ok-scheduled.ensures.staged))

pub returns-clause-within : goal.returns-clause-within
returns-clause-within g c =
    subst (λ (names : List (List ℕ)). AreWithin (length names) c.in_ok-scheduled.scheduled.schedule.lines.items) c.deref-2.ensures.value
    c.in_ok-scheduled.ensures.within
