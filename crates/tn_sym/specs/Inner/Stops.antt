-- What a symbolic network shows of a board: where an instruction was not found, the board is as before and
-- the stop alone is known.
use Rattle.std.specs.Prelude.{◌≡◌, ℕ, List, [], length, Option, Some, None}
use Rattle.tn_net.specs.declared.networks.Far.{Far}
use Rattle.tn_mem.specs.Guards.{Guarded}
use Rattle.tn_cpu.specs.declared.outcomes.Why.{Why}
use Rattle.tn_cpu.specs.declared.outcomes.Why.TheVariants.{Undefined, Outside, Code, Halted, BadOp, Stray}
use Rattle.tn_cpu.specs.Turns.{halted_for}
use Rattle.tn_node.specs.declared.modes.Mode.{Mode}
use Rattle.tn_node.specs.declared.modes.Mode.TheVariants.{Reset, Poking, Peeking, Replying, Booting, Running, Idle, Stopped}
use Rattle.tn_node.specs.Nodes.{NodeState, mode_of}
use Rattle.tn_network.specs.Boards.{WiredBoard, changed}
use Rattle.tn_sym.specs.Symbolic.{CodeState, SymbolicState}

abbrev pub strayed_in : Mode → NodeState Guarded → NodeState Guarded
strayed_in Running n = record n { cpu = halted_for Stray n.cpu }
strayed_in Reset n = n
strayed_in Poking n = n
strayed_in Peeking n = n
strayed_in Replying n = n
strayed_in Booting n = n
strayed_in Idle n = n
strayed_in (Stopped why) n = n

abbrev pub strayed : NodeState Guarded → NodeState Guarded
strayed n = strayed_in (mode_of n) n

abbrev pub seen_by : Why → ℕ → List (NodeState Guarded) → List (NodeState Guarded)
seen_by Stray p nodes = changed strayed nodes p
seen_by Undefined p nodes = nodes
seen_by Outside p nodes = nodes
seen_by Code p nodes = nodes
seen_by Halted p nodes = nodes
seen_by BadOp p nodes = nodes

abbrev pub seen : Option (ℕ × Why) → List (NodeState Guarded) → List (NodeState Guarded)
seen None nodes = nodes
seen (Some stop) nodes = seen_by stop.1 stop.0 nodes

abbrev pub seen_board : Option (ℕ × Why) → WiredBoard (NodeState Guarded) → WiredBoard (NodeState Guarded)
seen_board stop b = record b { state = record b.state { nodes = seen stop b.state.nodes } }

abbrev pub symbolic_of : WiredBoard (NodeState Guarded) → List CodeState → Option (ℕ × Why) → SymbolicState
symbolic_of board codes stop = record { board = seen_board stop board; codes = codes; stop = stop }

-- each processor has a code, the wires are those of the board, and the host has nothing left to send
pub record IsSymbolic (board : WiredBoard (NodeState Guarded)) (codes : List CodeState) (fars : List Far) (root : ℕ) : Type 0 where
  pub count : length codes ≡ length board.state.nodes
  pub fars_are : fars ≡ board.network.fars
  pub root_is : root ≡ board.network.root
  pub spent : board.state.host.left ≡ []
