use Rattle.std.proofs.Common.{ℕ, List}
use Rattle.tn_text.proofs.Results.{of-error}
use Rattle.tn_schedule.specs.Schedules.{ScheduleState}
use Rattle.tn_top.specs.declared.replays.Scheduled.{Scheduled}
use Rattle.tn_top.specs.ReplayPlans.{schedule_in, with_text, schedule_plan}
use Rattle.tn_top.specs.Inner.Stages.{Staged}
use Rattle.tn_top.specs.Inner.Replays.{scheduled}
use Rattle.tn_top.proofs.StageLaws.{staged-read, staged-unread}
use Rattle.tn_top.proofs.replays.read_scheduled.Goals as goal

abbrev seen : Scheduled → List ℕ × ScheduleState
seen s = scheduled s

pub returns-in_err-text-clause-staged : goal.returns-in_err-text-clause-staged
returns-in_err-text-clause-staged g c =
    let file = c.args.file.now in
    let names = c.args.names.now in
    let before = g.S.Store.stored c.args.store.now in
    let after = g.S.Store.stored c.read_file.new.store in
    of-error (Staged seen (schedule_plan file names) before after) c.from_residual.result c.in_err-text.field-0.0 c.from_residual.ensures.1
    (staged-unread seen (λ text. with_text text (schedule_in file names text)) file before after c.in_err-text.field-0.0
    c.in_err-text.ensures.staged)

pub returns-clause-staged : goal.returns-clause-staged
returns-clause-staged g c =
    let file = c.args.file.now in
    let names = c.args.names.now in
    let before = g.S.Store.stored c.args.store.now in
    let after = g.S.Store.stored c.read_file.new.store in
    staged-read seen (λ text. with_text text (schedule_in file names text)) file before after c.in_ok-text.text c.schedule_in.result
    c.in_ok-text.ensures.staged c.schedule_in.ensures.made
