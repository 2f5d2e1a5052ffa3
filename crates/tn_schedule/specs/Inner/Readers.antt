-- What a reader holds.
use Rattle.tn_schedule.specs.declared.readers.Reader.{Reader}
use Rattle.tn_schedule.specs.ScheduleReading.{ReaderState}

abbrev pub reader_of : Reader → ReaderState
reader_of r = record { lines = r.lines; first = r.first; power = r.power; acts = r.acts.items }
