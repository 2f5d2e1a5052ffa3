-- What is asked of the far end of a link.
use Rattle.std.specs.Prelude.{◌≡◌, ℕ, ◌+◌, ◌*◌, ◌<◌, true, false, List, length}
use Rattle.tn_net.specs.declared.networks.Far.{Far}
use Rattle.tn_net.specs.declared.networks.Far.TheVariants.{Nothing, Host, Link}
use Rattle.tn_network.specs.Boards.{at_node}
use Rattle.tn_network.specs.NodeOps.{NodeOps}

-- its latch stands among so many
abbrev pub EndsIn : ℕ → Far → Type 0
EndsIn count Nothing = Unit {0}
EndsIn count Host = Unit {0}
EndsIn count (Link q m) = 4 * q + m < count

-- the node there, if it is a node, has a byte that is unacknowledged
abbrev pub Awaits : {N : Type 0} → NodeOps N → List N → Far → Type 0
Awaits ops nodes Nothing = Unit {0}
Awaits ops nodes Host = Unit {0}
Awaits ops nodes (Link q m) = (q < length nodes) × (m < 4) × (at_node false (ops.awaits m) nodes q ≡ true)
