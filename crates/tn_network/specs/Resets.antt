-- A network after power-up.
use Rattle.std.specs.Prelude.{◌≡◌, ℕ, ◌*◌, Bool, true, false, List, map, length, replicate, None}
use Rattle.tn_net.specs.Networks.{NetworkState}
use Rattle.tn_cpu.specs.States.{powered_up}
use Rattle.tn_node.specs.Nodes.{NodeState, reset_node}
use Rattle.tn_network.specs.declared.powers.Power.{Power}
use Rattle.tn_network.specs.Hosts.{new_host}
use Rattle.tn_network.specs.Boards.{BoardState}
use Rattle.tn_network.specs.Nets.{NetState}

-- what the memory of a processor holds at power-up, and its Error and HaltOnError
pub record PowerState : Type 0 where
  pub bytes : List ℕ
  pub error : Bool
  pub halt : Bool

abbrev pub power_of : Power → PowerState
power_of power = record { bytes = power.bytes.items; error = power.error; halt = power.halt }

-- a processor in reset
abbrev pub powered_node : PowerState → NodeState (List ℕ)
powered_node power = reset_node (powered_up power.bytes power.error power.halt)

-- a board of these nodes: all latches are empty, and the host has these bytes to send
abbrev pub new_board : {N : Type 0} → List N → List ℕ → BoardState N
new_board nodes bytes = record { nodes = nodes; latches = replicate (4 * length nodes) None; host = new_host bytes }

-- every processor in reset
abbrev pub reset_board : List PowerState → List ℕ → BoardState (NodeState (List ℕ))
reset_board powers bytes = new_board (map powered_node powers) bytes

-- there is a power for each processor of a network, of as many bytes as its memory has
abbrev pub AreSized : List PowerState → NetworkState → Type 0
AreSized powers network = map (λ power. length power.bytes) powers ≡ network.sizes

-- a network after power-up, with these bytes to come from the host and these entries
abbrev pub reset_net : NetworkState → List PowerState → List ℕ → List ℕ → NetState
reset_net network powers bytes entries =
    record {
      board = record { network = network; state = reset_board powers bytes };
      holds = record { entries = entries; held = true };
    }
