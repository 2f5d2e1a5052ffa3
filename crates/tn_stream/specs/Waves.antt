-- The three waves of a stream by one name: what each gives a processor first, and last.
use Rattle.std.specs.Prelude.{ℕ, List}
use Rattle.tn_stream.specs.declared.waves.Wave.{Wave}
use Rattle.tn_stream.specs.declared.waves.Wave.TheVariants as wave
use Rattle.tn_stream.specs.declared.length_tables.NodeLengths.{NodeLengths}
use Rattle.tn_stream.specs.Branches.{Branch}
use Rattle.tn_stream.specs.Streams.{Site, wave as wave_of, own_load, nothing, nop_of, run_of}

abbrev pub first_of : Wave → Site → List ℕ
first_of wave.Load = own_load
first_of wave.Sync = nothing
first_of wave.Start = nothing

abbrev pub last_of : Wave → Site → List ℕ
last_of wave.Load = nothing
last_of wave.Sync = nop_of
last_of wave.Start = run_of

-- a branch's part of the wave
abbrev pub part_of : Wave → Branch Site → List ℕ
part_of w branch = wave_of (first_of w) (last_of w) branch

-- its length among those of the three
abbrev pub length_in : Wave → NodeLengths → ℕ
length_in wave.Load lengths = lengths.load
length_in wave.Sync lengths = lengths.sync
length_in wave.Start lengths = lengths.start
