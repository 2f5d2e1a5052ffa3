-- A network under way: its state is that of a plan.
use Rattle.std.specs.Prelude.{◌≡◌, ℕ, ◌*◌, ◌<◌, ◌≤◌, false, List, [], ◌++◌, length, Some, is_some, slice_get}
use Rattle.tn_net.specs.declared.networks.Far.{Far}
use Rattle.tn_net.specs.declared.networks.Far.TheVariants.{Nothing, Link}
use Rattle.tn_net.specs.Networks.{NetworkState, IsEnd, IsPairing, far_at}
use Rattle.tn_network.specs.declared.hosts.TheConstants.{KEPT_LIMIT}
use Rattle.tn_network.specs.Boards.{BoardState}
use Rattle.tn_network.specs.Holds.{HoldState}
use Rattle.tn_network.specs.NodeOps.{NodeOps}
use Rattle.tn_load.specs.Acts.{Act}
use Rattle.tn_load.specs.Plans.{Plan, IsCourse, now}
use Rattle.tn_load.specs.Shares.{IsWireEnd, other_end, incoming, outgoing, waiting, latch_of, bytes_in}

-- Each processor stands where its course begins. What an end still takes is the byte in its latch, what
-- the other end still sends, and what never comes (nothing, where the plan fits together); a latch is full
-- exactly where the other end waits. Nothing is sent where there is no wire. The host has kept the
-- beginning of what it is to keep, and there is room for all of that.
pub record IsUnderWay {N : Type 0} (ops : NodeOps N) (network : NetworkState) (holds : HoldState) (Q : ℕ → N → List Act → Type 0)
    (missing : Far → List ℕ) (kept : List ℕ) (plan : Plan N) (s : BoardState N) : Type 0 where
  pub pairing : IsPairing network
  pub count : length s.nodes ≡ length network.sizes
  pub latches : length s.latches ≡ 4 * length network.sizes
  pub nodes : (p : ℕ) → p < length network.sizes → slice_get s.nodes p ≡ Some (now (plan.courses p))
  pub courses : (p : ℕ) → p < length network.sizes → IsCourse ops holds Q p (plan.courses p)
  pub bytes : (e : Far) → IsWireEnd network e
      → incoming plan e ≡ bytes_in (latch_of s e) ++ (outgoing plan (other_end network e) ++ missing e)
  pub full : (e : Far) → IsWireEnd network e → is_some (latch_of s e) ≡ waiting plan (other_end network e)
  pub wired : (p l : ℕ) → IsEnd network p l → far_at network p l ≡ Nothing → outgoing plan (Link p l) ≡ []
  pub quiet : (p l : ℕ) → IsEnd network p l → far_at network p l ≡ Nothing → waiting plan (Link p l) ≡ false
  pub sends : s.host.left ≡ plan.sends
  pub waits : s.host.sent ≡ plan.waits
  pub keeps : s.host.kept ++ plan.keeps ≡ kept
  pub room : length kept ≤ KEPT_LIMIT

-- A plan for a network whose wires are empty: what an end takes is what the other end sends, and what never
-- comes; nothing is sent where there is no wire; no acknowledge is waited for; and there is room for what the
-- host keeps.
pub record FitsTogether {N : Type 0} (network : NetworkState) (missing : Far → List ℕ) (plan : Plan N) : Type 0 where
  pub bytes : (e : Far) → IsWireEnd network e → incoming plan e ≡ outgoing plan (other_end network e) ++ missing e
  pub wired : (p l : ℕ) → IsEnd network p l → far_at network p l ≡ Nothing → outgoing plan (Link p l) ≡ []
  pub quiet : (e : Far) → IsWireEnd network e → waiting plan e ≡ false
  pub room : length plan.keeps ≤ KEPT_LIMIT
