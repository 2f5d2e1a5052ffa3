-- Stores in memory.
use Rattle.std.specs.Prelude.{◌≡◌, ℕ, ◌+◌, ◌-◌, ◌^◌, List, map, min, Option, Some, Contains, Vec}
use Rattle.std.specs.declared.alloc.Global.{Global}
use Rattle.tn_io.specs.FileLists.{Files}
use Rattle.tn_io.specs.Stores.{Stored}

-- what contracts see of a store in memory: what they see of a store, the numbers of the calls that
-- it refuses, and how many calls there were
pub record InMemory : Type 0 where
  pub files : Files
  pub opened : Option (List ℕ)
  pub failing : List ℕ
  pub calls : ℕ
  pub read_faults : ℕ
  pub write_faults : ℕ

-- a file as contracts see it, and not where it lies in memory
abbrev pub file_of : List ℕ × Vec ℕ Global → List ℕ × List ℕ
file_of file = (file.0, file.1.items)

abbrev pub files_of : List (List ℕ × Vec ℕ Global) → Files
files_of files = map file_of files

-- it tells its files
abbrev pub stored_of : InMemory → Stored
stored_of s = record { files = Some s.files; opened = s.opened; read_faults = s.read_faults; write_faults = s.write_faults }

-- the next call is one to be refused
abbrev pub IsListed : InMemory → Type 0
IsListed s = Contains s.failing s.calls

-- one call more was made
pub record CountsCall (before after : InMemory) : Type 0 where
  pub calls : after.calls ≡ min (before.calls + 1) (2 ^ 64 - 1)
  pub failing : after.failing ≡ before.failing
