use Rattle.std.proofs.Common.{refl, sym, subst}
use Rattle.tn_schedule.specs.declared.acts.Act.{Act}
use Rattle.tn_schedule.specs.declared.acts.Act.TheVariants as act
use Rattle.tn_replay.specs.Inner.LineEnds.{state_of, LineEnds}
use Rattle.tn_replay.specs.Inner.Lookups.{known_in}
use Rattle.tn_replay.proofs.LineLaws.{printed_as, show_prints, links_print, word_prints, host_prints, got_prints, steps_print, same_prints}
use Rattle.tn_replay.proofs.replay_lines.do_line.Goals as goal

pub returns-in-Pick-clause-ends : goal.returns-in-Pick-clause-ends
returns-in-Pick-clause-ends c =
    let k = known_in c.args.lookup.now in
    let s = state_of c.args.net.now c.args.symbolic.now c.args.steps in
    let before = c.args.text.now.items in
    subst (λ (a : Act). LineEnds k a s c.do_pick.new.net c.do_pick.new.symbolic before before c.do_pick.result) (sym c.in-Pick.is)
    (c.do_pick.ensures.ends k before)

pub returns-in-Settle-clause-ends : goal.returns-in-Settle-clause-ends
returns-in-Settle-clause-ends c =
    let k = known_in c.args.lookup.now in
    let s = state_of c.args.net.now c.args.symbolic.now c.args.steps in
    let before = c.args.text.now.items in
    subst (λ (a : Act). LineEnds k a s c.do_settle.new.net c.do_settle.new.symbolic before c.do_settle.new.text.items
    c.do_settle.result) (sym c.in-Settle.is) (c.do_settle.ensures.ends k)

pub returns-in-Release-clause-ends : goal.returns-in-Release-clause-ends
returns-in-Release-clause-ends c =
    let k = known_in c.args.lookup.now in
    let s = state_of c.args.net.now c.args.symbolic.now c.args.steps in
    let before = c.args.text.now.items in
    subst (λ (a : Act). LineEnds k a s c.do_release.new.net c.do_release.new.symbolic before before c.do_release.result)
    (sym c.in-Release.is) (c.do_release.ensures.ends before)

pub returns-in-Show-clause-ends : goal.returns-in-Show-clause-ends
returns-in-Show-clause-ends c =
    let k = known_in c.args.lookup.now in
    printed_as k c.args.act (act.Show c.in-Show.p) c.in-Show.is c.args.net.now c.args.symbolic.now c.args.steps _
    c.args.text.now.items c.show.new.text.items c.show.result c.told.result (show_prints k _ c.in-Show.p) c.show.ensures
    c.told.ensures.ok c.told.ensures.err

pub returns-in-Links-clause-ends : goal.returns-in-Links-clause-ends
returns-in-Links-clause-ends c =
    let k = known_in c.args.lookup.now in
    printed_as k c.args.act (act.Links c.in-Links.p) c.in-Links.is c.args.net.now c.args.symbolic.now c.args.steps _
    c.args.text.now.items c.put_links.new.text.items c.put_links.result c.told-in-Links.result (links_print k _ c.in-Links.p) (c.put_links.ensures k refl)
    c.told-in-Links.ensures.ok c.told-in-Links.ensures.err

pub returns-in-Word-clause-ends : goal.returns-in-Word-clause-ends
returns-in-Word-clause-ends c =
    let k = known_in c.args.lookup.now in
    printed_as k c.args.act (act.Word c.in-Word.p c.in-Word.address) c.in-Word.is c.args.net.now c.args.symbolic.now c.args.steps _
    c.args.text.now.items c.put_loaded.new.text.items c.put_loaded.result c.told-in-Word.result (word_prints k _ c.in-Word.p c.in-Word.address) (c.put_loaded.ensures k refl)
    c.told-in-Word.ensures.ok c.told-in-Word.ensures.err

pub returns-in-Host-clause-ends : goal.returns-in-Host-clause-ends
returns-in-Host-clause-ends c =
    let k = known_in c.args.lookup.now in
    printed_as k c.args.act act.Host c.in-Host.is c.args.net.now c.args.symbolic.now c.args.steps _
    c.args.text.now.items c.put_hosted.new.text.items c.put_hosted.result c.told-in-Host.result (host_prints k _) c.put_hosted.ensures
    c.told-in-Host.ensures.ok c.told-in-Host.ensures.err

pub returns-in-Got-clause-ends : goal.returns-in-Got-clause-ends
returns-in-Got-clause-ends c =
    let k = known_in c.args.lookup.now in
    printed_as k c.args.act (act.Got c.in-Got.place) c.in-Got.is c.args.net.now c.args.symbolic.now c.args.steps _
    c.args.text.now.items c.put_kept.new.text.items c.put_kept.result c.told-in-Got.result (got_prints k _ c.in-Got.place) c.put_kept.ensures
    c.told-in-Got.ensures.ok c.told-in-Got.ensures.err

pub returns-in-Steps-clause-ends : goal.returns-in-Steps-clause-ends
returns-in-Steps-clause-ends c =
    let k = known_in c.args.lookup.now in
    printed_as k c.args.act act.Steps c.in-Steps.is c.args.net.now c.args.symbolic.now c.args.steps _
    c.args.text.now.items c.put_steps.new.out.items c.put_steps.result c.told-in-Steps.result (steps_print k _) c.put_steps.ensures
    c.told-in-Steps.ensures.ok c.told-in-Steps.ensures.err

pub returns-in-Same-clause-ends : goal.returns-in-Same-clause-ends
returns-in-Same-clause-ends c =
    let k = known_in c.args.lookup.now in
    printed_as k c.args.act act.Same c.in-Same.is c.args.net.now c.args.symbolic.now c.args.steps _
    c.args.text.now.items c.put_same.new.text.items c.put_same.result c.told-in-Same.result (same_prints k _) (c.put_same.ensures k refl)
    c.told-in-Same.ensures.ok c.told-in-Same.ensures.err
