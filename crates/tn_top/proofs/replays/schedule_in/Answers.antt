use Rattle.std.proofs.Common.{arith}
use Rattle.tn_schedule.specs.Schedules.{schedule_of}
use Rattle.tn_top.proofs.ReplayLaws.{schedule-given, schedule-fault, schedule-long}
use Rattle.tn_top.proofs.replays.schedule_in.Goals as goal

pub returns-in-Ok-clause-made : goal.returns-in-Ok-clause-made
returns-in-Ok-clause-made c =
    schedule-given c.args.file.now c.args.names.now c.args.text.items (schedule_of c.in-Ok.schedule)
    (rw c.deref.ensures.value at c.in-Ok.ensures.gives)

pub returns-in-Ok-clause-within : goal.returns-in-Ok-clause-within
returns-in-Ok-clause-within c =
    let few = c.in-Ok.ensures.few in
    record { placed = c.in-Ok.ensures.placed; few = omega (arith, few) }

pub returns-in-Err-Fault-clause-made : goal.returns-in-Err-Fault-clause-made
returns-in-Err-Fault-clause-made c =
    rw (c.copied.ensures, c.in-Err-Fault.first-is) (schedule-fault c.args.file.now c.args.names.now c.args.text.items c.in-Err-Fault.first
    (rw (c.in-Err-Fault.field-0-is, c.deref.ensures.value) at c.in-Err-Fault.ensures.gives))

pub returns-in-Err-Lines-clause-made : goal.returns-in-Err-Lines-clause-made
returns-in-Err-Lines-clause-made c =
    schedule-long c.args.file.now c.args.names.now c.args.text.items c.in-Err-Lines.count
    (rw (c.in-Err-Lines.field-0-is, c.deref.ensures.value) at c.in-Err-Lines.ensures.gives)
