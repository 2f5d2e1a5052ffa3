-- Stores in memory that never fail.
use Rattle.std.specs.Prelude.{ℕ, List, Option, Some}
use Rattle.tn_io.specs.FileLists.{Files}
use Rattle.tn_io.specs.Stores.{Stored}

-- what contracts see of a store that never fails
pub record Safe : Type 0 where
  pub files : Files
  pub opened : Option (List ℕ)

-- it tells its files, and its counts stay 0
abbrev pub safely_stored : Safe → Stored
safely_stored s = record { files = Some s.files; opened = s.opened; read_faults = 0; write_faults = 0 }
