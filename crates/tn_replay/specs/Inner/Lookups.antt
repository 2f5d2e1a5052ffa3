-- What lines look things up in, of what a replay is given.
use Rattle.tn_replay.specs.declared.lookups.Lookup.{Lookup}
use Rattle.tn_replay.specs.Replays.{Known, known}

abbrev pub known_in : Lookup → Known
known_in l = known l.names.now l.programs.now l.images.now
