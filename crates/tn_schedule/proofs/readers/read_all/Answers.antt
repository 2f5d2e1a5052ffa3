use Rattle.std.proofs.Common.{◌≡◌, ◌+◌, ◌≤◌, length, Result, sym, arith}
use Rattle.tn_text.specs.declared.faults.ReadFault.{ReadFault}
use Rattle.tn_text.specs.Reading.{Gives}
use Rattle.tn_text.proofs.ReadingLoops.{reads-end}
use Rattle.tn_text.proofs.Results.{of-error}
use Rattle.tn_schedule.specs.declared.acts.Schedule.{Schedule}
use Rattle.tn_schedule.specs.Schedules.{schedule_of}
use Rattle.tn_schedule.specs.ScheduleReading.{schedule_line, finish, schedule_read}
use Rattle.tn_schedule.specs.Inner.Readers.{reader_of}
use Rattle.tn_schedule.proofs.ReadLoop.{line_good, line_longer, line_stopped}
use Rattle.tn_schedule.proofs.readers.read_all.Goals as goal

pub returns-in_err-read_line : goal.returns-in_err-read_line
returns-in_err-read_line c =
    of-error (λ (read : Result Schedule ReadFault). Gives schedule_of read (schedule_read c.args.names.now c.args.text.now))
    c.from_residual.result c.in_err-read_line.field-0.0 c.from_residual.ensures.1
    (line_stopped c.args.names.now (reader_of c.loop-line.reader) c.loop-line.rest.now (schedule_read c.args.names.now c.args.text.now)
    c.loop-line.invariant.0 c.in-Some.line.now c.in-Some.behind.now c.in-Some.ensures.value
    (λ (u : Unit {0}). reader_of c.read_line.new.reader) (λ (found : Schedule). schedule_of found) c.in_err-read_line.field-0.0
    c.in_err-read_line.ensures)

pub loop-line-preserved : goal.loop-line-preserved
loop-line-preserved c = (
  line_good c.args.names.now (reader_of c.loop-line.reader) c.loop-line.rest.now (schedule_read c.args.names.now c.args.text.now)
      c.loop-line.invariant.0 c.in-Some.line.now c.in-Some.behind.now c.in-Some.ensures.value (reader_of c.read_line.new.reader)
      c.in_ok-read_line.ensures,
  counted,
)
  where
    longer : c.read_line.new.reader.lines ≡ c.loop-line.reader.lines + 1
    longer =
        line_longer c.args.names.now (reader_of c.loop-line.reader) c.loop-line.rest.now
        (schedule_read c.args.names.now c.args.text.now) c.loop-line.invariant.0 c.in-Some.line.now c.in-Some.behind.now
        c.in-Some.ensures.value (reader_of c.read_line.new.reader) c.in_ok-read_line.ensures

    counted : c.read_line.new.reader.lines + length c.in-Some.behind.now ≤ length c.args.text.now
    counted = omega (arith, longer, c.loop-line.invariant.1, c.in-Some.ensures.shorter)

pub returns : goal.returns
returns c =
    sym (reads-end (schedule_line c.args.names.now) finish (reader_of c.loop-line.reader) c.loop-line.reader.lines
    c.loop-line.rest.now (schedule_read c.args.names.now c.args.text.now) c.loop-line.invariant.0 c.in_default.ensures.value)
