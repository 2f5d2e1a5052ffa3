-- A new board.
use Rattle.std.proofs.Common.{◌≡◌, ℕ, zero, suc, ◌+◌, ◌*◌, ◌<◌, ◌≤◌, List, [], length, replicate, Option, Some, None, refl, sym, ap}
use Rattle.std.proofs.Common.{◌∙◌, arith}
use Rattle.std.specs.Prelude.{slice_get, slice_index_or}
use Rattle.std.proofs.lemmas.List.{length-replicate}
use Rattle.tn_net.specs.Networks.{NetworkState, IsPairing}
use Rattle.tn_network.specs.Hosts.{HostState}
use Rattle.tn_network.specs.Boards.{board_of}
use Rattle.tn_network.specs.NodeOps.{NodeOps}
use Rattle.tn_network.specs.Wires.{IsBoard}

none_full : (n place byte : ℕ) → slice_index_or (replicate n None) place None ≡ Some byte → ⊥
none_full zero place byte full = cc
none_full (suc n) zero byte full = cc
none_full (suc n) (suc place) byte full = none_full n place byte full

-- its latches are empty, so no sender waits
pub new_board_is : {N : Type 0} (ops : NodeOps N) (IsSound : N → Type 0) (network : NetworkState) (nodes : List N)
    (latches : List (Option ℕ)) (host : HostState) → IsPairing network → length nodes ≡ length network.sizes
    → ((p : ℕ) (n : N) → slice_get nodes p ≡ Some n → IsSound n) → latches ≡ replicate (4 * length nodes) None → host.latch ≡ None
    → host.kept ≡ [] → IsBoard ops IsSound network (board_of nodes latches host)
new_board_is ops IsSound network nodes latches host pairing count sound empty latch kept = record {
  pairing = pairing;
  nodes = count;
  latches = ap length empty ∙ length-replicate (4 * length nodes) None;
  kept = rw kept (omega arith);
  bytes = λ place byte full. absurd (none_full (4 * length nodes) place byte (rw empty at full));
  sound = sound;
  waits = λ p l byte end full. absurd (none_full (4 * length nodes) (4 * p + l) byte (rw empty at full));
  host_waits = λ byte full. absurd (let none : None ≡ Some byte = sym latch ∙ full in cc);
}
