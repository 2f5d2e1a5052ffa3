use Rattle.std.proofs.Common.{◌+◌, ◌≤◌, length}
use Rattle.tn_text.proofs.ReadingLoops.{ReadsOn}
use Rattle.tn_schedule.specs.ScheduleReading.{schedule_line, finish, schedule_read}
use Rattle.tn_schedule.specs.Inner.Readers.{reader_of}
use Rattle.tn_schedule.proofs.readers.read_all.Given as goal

-- reading what is left gives what reading the text gives, and each line took a byte at least
abbrev pub invariant-loop-line : goal.invariant-loop-line
invariant-loop-line l =
    ReadsOn (schedule_line l.names) finish (reader_of l.reader) l.reader.lines l.rest (schedule_read l.names l.text)
    × (l.reader.lines + length l.rest ≤ length l.text)

abbrev pub decreases-loop-line : goal.decreases-loop-line
decreases-loop-line l = length l.rest
