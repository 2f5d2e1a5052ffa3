-- A loaded network.
use Rattle.std.specs.Prelude.{◌≡◌, ℕ, true, false, List, [], ◌∷◌, length, None, Ok, All, ⊤}
use Rattle.tn_word.specs.Words.{not_process}
use Rattle.tn_mem.specs.Memories.{block, load}
use Rattle.tn_cpu.specs.declared.registers.Reg.TheVariants.{Word}
use Rattle.tn_node.specs.Nodes.{NodeState, IsQuiet}
use Rattle.tn_network.specs.Boards.{BoardState}
use Rattle.tn_network.specs.NodeOps.{stands_at}

-- bytes, and the address at which the first of them is to stand
pub record PlacedBytes : Type 0 where
  pub base : ℕ
  pub bytes : List ℕ

-- what a processor is to hold once it is loaded
pub record Target : Type 0 where
  pub pieces : List PlacedBytes
  pub entry : ℕ
  pub wptr : ℕ
  pub a : ℕ
  pub b : ℕ
  pub c : ℕ

-- they stand in a memory
abbrev pub StandsIn : List ℕ → PlacedBytes → Type 0
StandsIn memory piece = block memory piece.base (length piece.bytes) ≡ piece.bytes

-- A loaded processor, whose memory is the list that a function gives of its space: it stands at its
-- entry with an empty queue, no engine open and both timer queues empty, and each piece is whole.
pub record IsLoadedNode {M : Type 0} (memory : M → List ℕ) (n : NodeState M) (t : Target) : Type 0 where
  pub stands : stands_at t.entry n ≡ true
  pub wptr : n.cpu.wptr ≡ t.wptr
  pub queue : n.cpu.front ≡ Word not_process
  pub error : n.cpu.error ≡ false
  pub halt : n.cpu.halt ≡ false
  pub a : n.cpu.a ≡ Word t.a
  pub b : n.cpu.b ≡ Word t.b
  pub c : n.cpu.c ≡ Word t.c
  pub quiet : IsQuiet n
  pub high_timer : load (memory n.cpu.memory) 0x80000024 ≡ Ok not_process
  pub low_timer : load (memory n.cpu.memory) 0x80000028 ≡ Ok not_process
  pub whole : All (StandsIn (memory n.cpu.memory)) t.pieces

-- each of the nodes, there being as many of both
abbrev pub AreLoadedNodes : {M : Type 0} → (M → List ℕ) → List (NodeState M) → List Target → Type 0
AreLoadedNodes memory [] [] = Unit {0}
AreLoadedNodes memory [] (t ∷ targets) = ⊥
AreLoadedNodes memory (n ∷ nodes) [] = ⊥
AreLoadedNodes memory (n ∷ nodes) (t ∷ targets) = IsLoadedNode memory n t × AreLoadedNodes memory nodes targets

-- A loaded board: the host has no byte left and none unacknowledged, and all latches are empty.
pub record IsLoaded {M : Type 0} (memory : M → List ℕ) (s : BoardState (NodeState M)) (targets : List Target) : Type 0 where
  pub left : s.host.left ≡ []
  pub sent : s.host.sent ≡ false
  pub host_latch : s.host.latch ≡ None
  pub latches : All (λ byte. byte ≡ None) s.latches
  pub nodes : AreLoadedNodes memory s.nodes targets
