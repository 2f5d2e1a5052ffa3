-- What a pick leaves as it was.
use Rattle.std.specs.Prelude.{◌≡◌, ◌≢◌, ℕ, ◌<◌, Option, Some, slice_get}
use Rattle.tn_net.specs.declared.networks.Far.{Far}
use Rattle.tn_net.specs.declared.networks.Far.TheVariants.{Nothing, Host, Link}
use Rattle.tn_net.specs.Networks.{NetworkState, far_at}
use Rattle.tn_network.specs.declared.picks.Pick.{Pick}
use Rattle.tn_network.specs.declared.picks.Pick.TheVariants.{HostSend, HostTake, Proc, Send, Take}
use Rattle.tn_network.specs.Boards.{BoardState, latch_at}

-- the processor that a pick is of; the host's picks are of the one that it is wired to
abbrev pub actor : NetworkState → Pick → ℕ
actor network HostSend = network.root
actor network HostTake = network.root
actor network (Proc p slice clock) = p
actor network (Send p l) = p
actor network (Take p l) = p

-- the other end of the one wire that a pick uses
abbrev pub other_end : NetworkState → Pick → Far
other_end network HostSend = Host
other_end network HostTake = Host
other_end network (Proc p slice clock) = Nothing
other_end network (Send p l) = far_at network p l
other_end network (Take p l) = far_at network p l

-- a processor is not at that end
abbrev pub IsNotAt : ℕ → Far → Type 0
IsNotAt q Nothing = Unit {0}
IsNotAt q Host = Unit {0}
IsNotAt q (Link p l) = q ≢ p

-- the node of a processor and its four latches are as before
pub record IsSameAt {N : Type 0} (q : ℕ) (old new : BoardState N) : Type 0 where
  pub node : slice_get new.nodes q ≡ slice_get old.nodes q
  pub latches : (l : ℕ) → l < 4 → latch_at new.latches q l ≡ latch_at old.latches q l

-- a pick leaves each processor but its own and the one at the other end of its wire, and it leaves the
-- host unless it uses its wire
pub record IsLocal {N : Type 0} (network : NetworkState) (pick : Pick) (old new : BoardState N) : Type 0 where
  pub others : (q : ℕ) → q ≢ actor network pick → IsNotAt q (other_end network pick) → IsSameAt q old new
  pub host : other_end network pick ≢ Host → new.host ≡ old.host
