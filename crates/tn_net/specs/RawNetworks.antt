-- What a configuration says of a network, as contracts see it.
use Rattle.std.specs.Prelude.{ℕ, List, Option}
use Rattle.tn_net.specs.declared.lines.RawNetwork.{RawNetwork}

-- The processors with name, size of memory and line; the host's end with name, link and line; the
-- wires with name and link of both ends and line; and the number of lines.
pub record RawLists : Type 0 where
  pub names : List (List ℕ × ℕ × ℕ)
  pub host : Option (List ℕ × ℕ × ℕ)
  pub wires : List (List ℕ × ℕ × List ℕ × ℕ × ℕ)
  pub lines : ℕ

-- the lists of a description
abbrev pub raw_of : RawNetwork → RawLists
raw_of raw = record { names = raw.names.items; host = raw.host; wires = raw.wires.items; lines = raw.lines }
