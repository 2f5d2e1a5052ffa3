-- Outputs in memory.
use Rattle.std.specs.Prelude.{◌≡◌, ℕ, ◌+◌, ◌-◌, ◌^◌, List, min, Some, Contains}
use Rattle.tn_io.specs.Outs.{Printed}

-- what contracts see of an output in memory: its bytes, the numbers of the writes that it refuses,
-- how many writes there were, and how often it failed
pub record OutInMemory : Type 0 where
  pub bytes : List ℕ
  pub failing : List ℕ
  pub calls : ℕ
  pub faults : ℕ

-- it tells its bytes
abbrev pub printed_of : OutInMemory → Printed
printed_of out = record { bytes = Some out.bytes; faults = out.faults }

-- the next write is one to be refused
abbrev pub IsListed : OutInMemory → Type 0
IsListed out = Contains out.failing out.calls

-- one write more was made
pub record CountsCall (before after : OutInMemory) : Type 0 where
  pub calls : after.calls ≡ min (before.calls + 1) (2 ^ 64 - 1)
  pub failing : after.failing ≡ before.failing
