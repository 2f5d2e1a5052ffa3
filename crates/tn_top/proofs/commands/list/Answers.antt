use Rattle.std.proofs.Common.{refl}
use Rattle.tn_text.proofs.Results.{of-error}
use Rattle.tn_config.specs.Configurations.{ConfigState}
use Rattle.tn_system.specs.Systems.{SystemState}
use Rattle.tn_top.specs.declared.systems.Configured.{Configured}
use Rattle.tn_top.specs.Plans.{then_plan}
use Rattle.tn_top.specs.ListPlans.{system_listing, listing_printed}
use Rattle.tn_top.specs.SystemPlans.{system_plan}
use Rattle.tn_top.specs.Inner.Ends.{Ends}
use Rattle.tn_top.specs.Inner.Systems.{configured}
use Rattle.tn_top.proofs.EndLaws.{ends_stopped, ends_shown}
use Rattle.tn_top.proofs.commands.list.Goals as goal

abbrev seen : Configured → ConfigState × SystemState
seen c = configured c

pub returns-in_err-read-clause-ends : goal.returns-in_err-read-clause-ends
returns-in_err-read-clause-ends g c =
    let plan = system_plan c.args.config.now in
    let before = g.S.Store.stored c.args.store.now in
    let after = g.S.Store.stored c.read_system.new.store in
    let said = g.O.Out.printed c.args.out.now in
    of-error (Ends (then_plan plan listing_printed) before after said said) c.from_residual.result c.in_err-read.field-0.0
    c.from_residual.ensures.1
    (ends_stopped seen listing_printed plan before after said c.in_err-read.field-0.0 c.in_err-read.ensures.staged)

pub returns-clause-ends : goal.returns-clause-ends
returns-clause-ends g c =
    let before = g.S.Store.stored c.args.store.now in
    let read = g.S.Store.stored c.read_system.new.store in
    let made = c.in_ok-read.read in
    ends_shown seen listing_printed (system_plan c.args.config.now) before read read (g.O.Out.printed c.args.out.now)
    (g.O.Out.printed c.print_list.new.out) made c.in_ok-read.ensures.staged (system_listing (seen made)) c.print_list.result refl
    c.print_list.ensures.shows
