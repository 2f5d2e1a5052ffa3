-- Boards over copies of the memories, in each of which a region of addresses is guarded.
use Rattle.std.specs.Prelude.{ℕ, List, [], ◌∷◌, All}
use Rattle.tn_mem.specs.Guards.{Guarded}
use Rattle.tn_node.specs.Nodes.{NodeState, node_over, IsQuiet}
use Rattle.tn_network.specs.Boards.{BoardState, WiredBoard}

-- a node with the addresses from one up to, but not including, another guarded
abbrev pub guarded_node : ℕ × ℕ → NodeState (List ℕ) → NodeState Guarded
guarded_node region n = node_over (record { bytes = n.cpu.memory; from = region.0; to = region.1 }) n

-- nodes, each with a region of its own
unfoldable pub guarded_nodes : List (ℕ × ℕ) → List (NodeState (List ℕ)) → List (NodeState Guarded)
guarded_nodes [] nodes = []
guarded_nodes (region ∷ regions) [] = []
guarded_nodes (region ∷ regions) (n ∷ nodes) = guarded_node region n ∷ guarded_nodes regions nodes

abbrev pub guarded_board : List (ℕ × ℕ) → BoardState (NodeState (List ℕ)) → BoardState (NodeState Guarded)
guarded_board regions s = record { nodes = guarded_nodes regions s.nodes; latches = s.latches; host = s.host }

abbrev pub guarded_wired : List (ℕ × ℕ) → WiredBoard (NodeState (List ℕ)) → WiredBoard (NodeState Guarded)
guarded_wired regions b = record { network = b.network; state = guarded_board regions b.state }

-- no engine of any node is open
abbrev pub AreQuiet : List (NodeState (List ℕ)) → Type 0
AreQuiet nodes = All (λ n. IsQuiet n) nodes
