use Rattle.std.proofs.Common.{◌≡◌, ◌≤◌, length, Result, Err, sym, ap, ◌∙◌, subst, arith}
use Rattle.std.specs.Str.Lines.{lines}
use Rattle.tn_text.specs.declared.limits.TheConstants.{LINE_LIMIT}
use Rattle.tn_text.specs.declared.faults.Fault.{Fault}
use Rattle.tn_text.specs.declared.faults.ReadFault.{ReadFault}
use Rattle.tn_text.specs.declared.faults.ReadFault.TheVariants as read
use Rattle.tn_text.specs.Reading.{Gives}
use Rattle.tn_schedule.specs.Schedules.{ScheduleState, schedule_of}
use Rattle.tn_schedule.specs.ScheduleReading.{faulted}
use Rattle.tn_schedule.proofs.ScheduleLaws.{schedule_found, schedule_only, schedule_fault}
use Rattle.tn_schedule.proofs.PlacedActs.{acts_placed, acts_few}
use Rattle.tn_schedule.proofs.readers.read_schedule.Goals as goal

-- a reader that answers a fault
told : {answer : Result ScheduleState Fault} (why : ReadFault) (fault : Fault) → why ≡ read.Fault fault
    → Gives schedule_of (Err why) answer → Err fault ≡ answer
told {answer} why fault is gives = subst (λ w. Gives schedule_of (Err w) answer) is gives

pub returns-in-Ok-clause-found : goal.returns-in-Ok-clause-found
returns-in-Ok-clause-found c =
    let short : length (lines c.args.text.now) ≤ LINE_LIMIT = omega (arith, c.if-count.false, c.count_lines-count.ensures) in
    (short, schedule_found c.args.names.now c.args.text.now (schedule_of c.in-Ok.schedule) (sym c.in-Ok.ensures))

pub returns-in-Ok-clause-few : goal.returns-in-Ok-clause-few
returns-in-Ok-clause-few c =
    let short : length (lines c.args.text.now) ≤ LINE_LIMIT = omega (arith, c.if-count.false, c.count_lines-count.ensures) in
    acts_few c.args.names.now c.args.text.now (schedule_of c.in-Ok.schedule)
    (short, schedule_found c.args.names.now c.args.text.now (schedule_of c.in-Ok.schedule) (sym c.in-Ok.ensures))

pub returns-in-Ok-clause-placed : goal.returns-in-Ok-clause-placed
returns-in-Ok-clause-placed c =
    let short : length (lines c.args.text.now) ≤ LINE_LIMIT = omega (arith, c.if-count.false, c.count_lines-count.ensures) in
    acts_placed c.args.names.now c.args.text.now (schedule_of c.in-Ok.schedule)
    (short, schedule_found c.args.names.now c.args.text.now (schedule_of c.in-Ok.schedule) (sym c.in-Ok.ensures))

pub returns-in-Ok-clause-only : goal.returns-in-Ok-clause-only
returns-in-Ok-clause-only c = λ s is. ap faulted (c.in-Ok.ensures ∙ schedule_only c.args.names.now c.args.text.now s is.1)

pub returns-in-Err-Fault-clause-only : goal.returns-in-Err-Fault-clause-only
returns-in-Err-Fault-clause-only c = λ s is. ap faulted
    (told c.in-Err-Fault.field-0 c.in-Err-Fault.fault c.in-Err-Fault.field-0-is c.in-Err-Fault.ensures ∙ schedule_only c.args.names.now
    c.args.text.now s is.1)

pub returns-in-Err-Fault-clause-fault : goal.returns-in-Err-Fault-clause-fault
returns-in-Err-Fault-clause-fault c = λ fault e.
    let short : length (lines c.args.text.now) ≤ LINE_LIMIT = omega (arith, c.if-count.false, c.count_lines-count.ensures) in
    let same : c.in-Err-Fault.fault ≡ fault = cc in (
      short,
      schedule_fault c.args.names.now c.args.text.now fault
          (sym (told c.in-Err-Fault.field-0 c.in-Err-Fault.fault c.in-Err-Fault.field-0-is c.in-Err-Fault.ensures) ∙ ap Err same),
    )
