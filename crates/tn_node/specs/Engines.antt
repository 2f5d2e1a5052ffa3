-- The engines of the four links of a processor.
use Rattle.std.specs.Prelude.{ℕ, ◌+◌, ◌-◌, false, List, Option, Some, None, slice_index_or}
use Rattle.tn_cpu.specs.declared.outcomes.Transfer.{Transfer}
use Rattle.tn_cpu.specs.States.{wrap}
use Rattle.tn_node.specs.declared.engines.Engine.{Engine}

-- the engine of a link that is open, if it is
abbrev pub engine_of : List (Option Engine) → ℕ → Option Engine
engine_of engines l = slice_index_or engines l None

-- an engine that opens for a transfer
abbrev pub opened : Transfer → Engine
opened t = record { pointer = t.pointer; left = t.count; process = t.process; sent = false }

-- one byte of its transfer has moved
abbrev pub moved : Engine → Engine
moved e = record e { pointer = wrap (e.pointer + 1); left = e.left - 1 }

-- the bit of a link whose engine is open
abbrev pub bit_of : ℕ → Option Engine → ℕ
bit_of bit (Some e) = bit
bit_of bit None = 0
