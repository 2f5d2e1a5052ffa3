use Rattle.std.proofs.Common.{refl}
use Rattle.tn_text.proofs.Results.{of-error}
use Rattle.tn_config.specs.Configurations.{ConfigState}
use Rattle.tn_system.specs.Systems.{SystemState}
use Rattle.tn_top.specs.declared.systems.Configured.{Configured}
use Rattle.tn_top.specs.Plans.{then_plan}
use Rattle.tn_top.specs.SystemPlans.{system_plan, system_stream, stream_written}
use Rattle.tn_top.specs.Inner.Ends.{Ends}
use Rattle.tn_top.specs.Inner.Systems.{configured}
use Rattle.tn_top.proofs.EndLaws.{ends_stopped, ends_written}
use Rattle.tn_top.proofs.commands.build.Goals as goal

abbrev seen : Configured → ConfigState × SystemState
seen c = configured c

pub returns-in_err-read : goal.returns-in_err-read
returns-in_err-read g c = λ said.
    let rest = stream_written c.args.target.now in
    let plan = system_plan c.args.config.now in
    let before = g.S.Store.stored c.args.store.now in
    let after = g.S.Store.stored c.read_system.new.store in
    of-error (Ends (then_plan plan rest) before after said said) c.from_residual.result c.in_err-read.field-0.0 c.from_residual.ensures.1
    (ends_stopped seen rest plan before after said c.in_err-read.field-0.0 c.in_err-read.ensures.staged)

pub returns : goal.returns
returns g c = λ said.
    let before = g.S.Store.stored c.args.store.now in
    let read = g.S.Store.stored c.read_system.new.store in
    let after = g.S.Store.stored c.write_stream.new.store in
    let made = c.in_ok-read.read in
    ends_written seen (stream_written c.args.target.now) (system_plan c.args.config.now) before read after said said made
    c.in_ok-read.ensures.staged c.args.target.now (system_stream (seen made).1) c.write_stream.result refl
    (rw c.deref.ensures.value at c.write_stream.ensures)

pub write_stream-requires-clause-whole : goal.write_stream-requires-clause-whole
write_stream-requires-clause-whole g c = rw c.deref.ensures.value c.in_ok-read.ensures.loadable.whole
