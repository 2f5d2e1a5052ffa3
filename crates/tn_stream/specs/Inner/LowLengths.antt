-- Lengths as a table holds them.
use Rattle.std.specs.Prelude.{◌^◌, ◌<◌}
use Rattle.tn_stream.specs.declared.length_tables.NodeLengths.{NodeLengths}

-- what stands where no lengths do
abbrev pub no_lengths : NodeLengths
no_lengths = record { load = 0; sync = 0; start = 0 }

-- lengths that a word holds, of parts that are not empty
pub record IsLow (lengths : NodeLengths) : Type 0 where
  pub load : 0 < lengths.load
  pub sync : 0 < lengths.sync
  pub start : 0 < lengths.start
  pub load_bound : lengths.load < 2 ^ 30
  pub sync_bound : lengths.sync < 2 ^ 30
  pub start_bound : lengths.start < 2 ^ 30
