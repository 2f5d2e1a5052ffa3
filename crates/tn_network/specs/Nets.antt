-- A network of processors with its holds.
use Rattle.std.specs.Prelude.{ℕ, Bool, false, List}
use Rattle.tn_mem.specs.Memories.{plain_access}
use Rattle.tn_node.specs.Nodes.{NodeState}
use Rattle.tn_network.specs.declared.picks.Pick.{Pick}
use Rattle.tn_network.specs.Boards.{BoardState, WiredBoard}
use Rattle.tn_network.specs.NodeOps.{NodeOps, node_ops}
use Rattle.tn_network.specs.Steps.{after_pick}
use Rattle.tn_network.specs.Holds.{HoldState, enabled}

pub record NetState : Type 0 where
  pub board : WiredBoard (NodeState (List ℕ))
  pub holds : HoldState

-- the operations of its nodes, over memories
abbrev pub memory_ops : NodeOps (NodeState (List ℕ))
memory_ops = node_ops plain_access

abbrev pub net_enabled : NetState → Pick → Bool
net_enabled n pick = enabled memory_ops n.board.network n.holds n.board.state pick

-- after a pick
abbrev pub net_after : Pick → NetState → NetState
net_after pick n = record n { board = after_pick memory_ops pick n.board }

-- a network of a board and its holds, and a network once the hold is lifted
abbrev pub net_of : WiredBoard (NodeState (List ℕ)) → HoldState → NetState
net_of board holds = record { board = board; holds = holds }

abbrev pub released : NetState → NetState
released n = record n { holds = record n.holds { held = false } }
