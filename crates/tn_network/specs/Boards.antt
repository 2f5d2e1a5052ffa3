-- Boards: nodes of any kind with the latches of their links, and the host.
use Rattle.std.specs.Prelude.{ℕ, zero, suc, ◌+◌, ◌*◌, List, [], ◌∷◌, Option, Some, None, slice_get, slice_index_or}
use Rattle.tn_net.specs.Networks.{NetworkState}
use Rattle.tn_network.specs.Hosts.{HostState}

-- The nodes by processor; the latches, each of which holds a byte that has arrived or none, four for
-- each processor in order of its links; and the host.
pub record BoardState (N : Type 0) : Type 0 where
  pub nodes : List N
  pub latches : List (Option ℕ)
  pub host : HostState

abbrev pub board_of : {N : Type 0} → List N → List (Option ℕ) → HostState → BoardState N
board_of nodes latches host = record { nodes = nodes; latches = latches; host = host }

-- a board on the wires of a network
pub record WiredBoard (N : Type 0) : Type 0 where
  pub network : NetworkState
  pub state : BoardState N

-- what a function gives of a node, or another value where there is none
abbrev pub given : {N Y : Type 0} → Y → (N → Y) → Option N → Y
given other f None = other
given other f (Some n) = f n

-- what a function gives of the node of processor p, or another value where there is no such processor
abbrev pub at_node : {N Y : Type 0} → Y → (N → Y) → List N → ℕ → Y
at_node other f nodes p = given other f (slice_get nodes p)

-- the nodes, that of processor p changed
unfoldable pub changed : {N : Type 0} → (N → N) → List N → ℕ → List N
changed f [] p = []
changed f (n ∷ nodes) zero = f n ∷ nodes
changed f (n ∷ nodes) (suc p) = n ∷ changed f nodes p

-- what the latch of link l of processor p holds
abbrev pub latch_at : List (Option ℕ) → ℕ → ℕ → Option ℕ
latch_at latches p l = slice_index_or latches (4 * p + l) None
