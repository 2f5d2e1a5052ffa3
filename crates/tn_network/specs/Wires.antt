-- What holds of every board: the sender of a byte that is in a latch waits for its acknowledge.
use Rattle.std.specs.Prelude.{◌≡◌, ◌≢◌, ℕ, ◌+◌, ◌*◌, ◌<◌, ◌≤◌, Bool, true, false, List, length, Option, Some, None, IsSome}
use Rattle.std.specs.Prelude.{◌^◌, slice_get, slice_index_or}
use Rattle.tn_net.specs.declared.networks.Far.{Far}
use Rattle.tn_net.specs.declared.networks.Far.TheVariants.{Nothing, Host, Link}
use Rattle.tn_net.specs.Networks.{NetworkState, IsEnd, IsPairing, far_at}
use Rattle.tn_network.specs.declared.hosts.TheConstants.{KEPT_LIMIT}
use Rattle.tn_network.specs.declared.picks.Pick.{Pick}
use Rattle.tn_network.specs.declared.picks.Pick.TheVariants.{HostSend, HostTake, Proc, Send, Take}
use Rattle.tn_network.specs.Hosts.{next_byte}
use Rattle.tn_network.specs.Boards.{BoardState, at_node, latch_at}
use Rattle.tn_network.specs.NodeOps.{NodeOps}
use Rattle.tn_network.specs.Steps.{offered}

-- What a board needs of the acts of a node, where all nodes are sound: each keeps a sound node sound; a
-- byte that goes out is unacknowledged, an acknowledge ends that, and nothing else does either; and a
-- node offers nothing on a link while a byte is unacknowledged.
pub record AreLawful {N : Type 0} (ops : NodeOps N) (IsSound : N → Type 0) : Type 0 where
  pub run_sound :
      (p clock : ℕ) (slice : Bool) (n : N) → ops.runs n ≡ true → IsSound n → IsSound (ops.run p slice clock n)
  pub run_awaits :
      (p clock l : ℕ) (slice : Bool) (n : N) → ops.runs n ≡ true → IsSound n → ops.awaits l (ops.run p slice clock n) ≡ ops.awaits l n
  pub take_sound :
      (l byte : ℕ) (n : N) → l < 4 → byte < 2 ^ 8 → ops.wants l n ≡ true → IsSound n → IsSound (ops.take l byte n)
  pub take_awaits : (k byte l : ℕ) (n : N) → IsSound n → ops.awaits l (ops.take k byte n) ≡ ops.awaits l n
  pub send_sound : (l byte : ℕ) (n : N) → l < 4 → ops.offers l n ≡ Some byte → IsSound n → IsSound (ops.send l n)
  pub send_awaits : (l byte : ℕ) (n : N) → ops.offers l n ≡ Some byte → ops.awaits l (ops.send l n) ≡ true
  pub send_others : (l m : ℕ) (n : N) → m ≢ l → ops.awaits m (ops.send l n) ≡ ops.awaits m n
  pub acknowledge_sound : (l : ℕ) (n : N) → l < 4 → ops.awaits l n ≡ true → IsSound n → IsSound (ops.acknowledge l n)
  pub acknowledge_awaits : (l : ℕ) (n : N) → ops.awaits l n ≡ true → IsSound n → ops.awaits l (ops.acknowledge l n) ≡ false
  pub acknowledge_others : (l m : ℕ) (n : N) → m ≢ l → ops.awaits m (ops.acknowledge l n) ≡ ops.awaits m n
  pub awaits_offers : (l : ℕ) (n : N) → ops.awaits l n ≡ true → ops.offers l n ≡ None

-- the sender at a far end has a byte that is unacknowledged
abbrev pub sender_waits : {N : Type 0} → NodeOps N → BoardState N → Far → Bool
sender_waits ops s Nothing = false
sender_waits ops s Host = s.host.sent
sender_waits ops s (Link q m) = at_node false (ops.awaits m) s.nodes q

-- The wires pair the links of the nodes, each of which has four latches; all nodes are sound; and where a
-- latch holds a byte, its sender waits.
pub record IsBoard {N : Type 0} (ops : NodeOps N) (IsSound : N → Type 0) (network : NetworkState) (s : BoardState N) : Type 0 where
  pub pairing : IsPairing network
  pub nodes : length s.nodes ≡ length network.sizes
  pub latches : length s.latches ≡ 4 * length s.nodes
  pub kept : length s.host.kept ≤ KEPT_LIMIT
  pub bytes : (place byte : ℕ) → slice_index_or s.latches place None ≡ Some byte → byte < 2 ^ 8
  pub sound : (p : ℕ) (n : N) → slice_get s.nodes p ≡ Some n → IsSound n
  pub waits :
      (p l byte : ℕ) → IsEnd network p l → latch_at s.latches p l ≡ Some byte → sender_waits ops s (far_at network p l) ≡ true
  pub host_waits : (byte : ℕ) → s.host.latch ≡ Some byte → at_node false (ops.awaits network.root_link) s.nodes network.root ≡ true

-- what a pick puts into a latch is a byte
abbrev pub MovesByte : {N : Type 0} → NodeOps N → BoardState N → Pick → Type 0
MovesByte ops s HostSend = (byte : ℕ) → next_byte s.host.left ≡ Some byte → byte < 2 ^ 8
MovesByte ops s HostTake = Unit {0}
MovesByte ops s (Proc p slice clock) = Unit {0}
MovesByte ops s (Send p l) = (byte : ℕ) → offered ops s.nodes p l ≡ Some byte → byte < 2 ^ 8
MovesByte ops s (Take p l) = Unit {0}
