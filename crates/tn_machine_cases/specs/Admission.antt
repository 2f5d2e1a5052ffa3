-- Tests of a description of a network, which it passes before it is checked.
use Rattle.std.specs.Prelude.{ℕ, ◌%◌, ◌==◌, Bool, true, not, ◌&&◌, nat_le, List, [], ◌∷◌, Option, None, Some}
use Rattle.std.specs.List.{list_all}
use Rattle.tn_mem.specs.Sizes.{memory_size_least, memory_size_most}
use Rattle.tn_net.specs.RawNetworks.{RawLists}

-- the size of a processor's memory is one
abbrev pub has_size : (List ℕ × ℕ × ℕ) → Bool
has_size processor =
    nat_le memory_size_least processor.1 && (nat_le processor.1 memory_size_most && processor.1 % 4 == 0)

-- the links of a wire are those of processors
abbrev pub has_links : (List ℕ × ℕ × List ℕ × ℕ × ℕ) → Bool
has_links wire = nat_le wire.1 3 && nat_le wire.3 3

-- no wire stands on the line with this number
abbrev pub is_apart : ℕ → List (List ℕ × ℕ × List ℕ × ℕ × ℕ) → Bool
is_apart number wires = list_all (λ wire. not (wire.4 == number)) wires

-- no two wires stand on one line
abbrev pub are_apart : List (List ℕ × ℕ × List ℕ × ℕ × ℕ) → Bool
are_apart [] = true
are_apart (wire ∷ wires) = is_apart wire.4 wires && are_apart wires

-- the host's link is one, and its line is that of no wire
abbrev pub host_fits : Option (List ℕ × ℕ × ℕ) → List (List ℕ × ℕ × List ℕ × ℕ × ℕ) → Bool
host_fits None wires = true
host_fits (Some host) wires = nat_le host.1 3 && is_apart host.2 wires

-- a description passes all of them
abbrev pub passes : RawLists → Bool
passes raw = list_all has_size raw.names && (list_all has_links raw.wires && (are_apart raw.wires && host_fits raw.host raw.wires))
