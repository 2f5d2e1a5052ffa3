use Rattle.std.proofs.Common.{refl, sym, ◌∙◌}
use Rattle.std.proofs.lemmas.List.{length-map}
use Rattle.tn_text.proofs.Results.{of-error}
use Rattle.tn_stream.specs.Images.{image_of}
use Rattle.tn_top.specs.declared.replays.ReplayInput.{ReplayInput}
use Rattle.tn_top.specs.Plans.{then_plan}
use Rattle.tn_top.specs.ReplayPlans.{ReplaySources, replay_sources_plan, replay_of, replay_answer, replay_printed}
use Rattle.tn_top.specs.Inner.Ends.{Ends}
use Rattle.tn_top.specs.Inner.Replays.{replayed_of}
use Rattle.tn_top.proofs.BuildLaws.{replay-found}
use Rattle.tn_top.proofs.EndLaws.{ends_stopped, ends_replied}
use Rattle.tn_top.proofs.ReplayLaws.{said-prints}
use Rattle.tn_top.proofs.SystemBoots.{system-images, system-known}
use Rattle.tn_top.proofs.commands.replay.Goals as goal

abbrev seen : ReplayInput → ReplaySources
seen r = replayed_of r

pub returns-in_err-input-clause-ends : goal.returns-in_err-input-clause-ends
returns-in_err-input-clause-ends g c =
    let plan = replay_sources_plan c.args.config.now c.args.schedule.now in
    let rest = replay_printed c.args.schedule.now in
    let before = g.S.Store.stored c.args.store.now in
    let after = g.S.Store.stored c.read_replay.new.store in
    let said = g.O.Out.printed c.args.out.now in
    of-error (Ends (then_plan plan rest) before after said said) c.from_residual.result c.in_err-input.field-0.0
    c.from_residual.ensures.1
    (ends_stopped seen rest plan before after said c.in_err-input.field-0.0 c.in_err-input.ensures.staged)

pub returns-clause-ends : goal.returns-clause-ends
returns-clause-ends g c =
    let before = g.S.Store.stored c.args.store.now in
    let read = g.S.Store.stored c.read_replay.new.store in
    let made = c.in_ok-input.input in
    let file = c.args.schedule.now in
    let r = seen made in
    ends_replied seen (replay_printed file) (replay_sources_plan c.args.config.now file) before read read
    (g.O.Out.printed c.args.out.now) (g.O.Out.printed c.print_replay.new.out) made c.in_ok-input.ensures.staged
    (replay_answer file r) c.print_replay.result refl
    (said-prints file r.text r.schedule.lines (replay_of r).text (replay_of r).refused) c.print_replay.ensures.replies

pub print_replay-requires-clause-entries : goal.print_replay-requires-clause-entries
print_replay-requires-clause-entries g c =
    let made = c.in_ok-input.input in
    let of = replay-found (g.S.Store.stored c.args.store.now).files c.args.config.now c.args.schedule.now (seen made)
    c.in_ok-input.ensures.staged.ok in
    sym (length-map made.read.system.images.items image_of) ∙ system-images of.0 (seen made).system of.3

pub print_replay-requires-clause-known : goal.print_replay-requires-clause-known
print_replay-requires-clause-known g c =
    let made = c.in_ok-input.input in
    let of = replay-found (g.S.Store.stored c.args.store.now).files c.args.config.now c.args.schedule.now (seen made)
    c.in_ok-input.ensures.staged.ok in
    system-known of.0 (seen made) of.2 of.3
