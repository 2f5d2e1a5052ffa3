-- The symbolic network: a processor takes whole instructions, which it finds by their addresses. Its
-- memory guards its code, so that no access reads a byte of it or changes one.
use Rattle.std.specs.Prelude.{◌≡◌, ℕ, ◌+◌, ◌==◌, Bool, true, not, ◌&&◌, is_some, List, [], ◌∷◌, find, slice_index_or, Option, Some, None}
use Rattle.std.specs.Option.{option_or}
use Rattle.tn_net.specs.declared.networks.Far.{Far}
use Rattle.tn_net.specs.declared.networks.Far.TheVariants.{Nothing, Host, Link}
use Rattle.tn_net.specs.Networks.{NetworkState}
use Rattle.tn_mem.specs.Guards.{Guarded, guarded}
use Rattle.tn_cpu.specs.declared.outcomes.Why.{Why}
use Rattle.tn_cpu.specs.declared.outcomes.Why.TheVariants.{Stray}
use Rattle.tn_cpu.specs.Turns.{Ended, stopped}
use Rattle.tn_node.specs.declared.modes.Mode.{Mode}
use Rattle.tn_node.specs.declared.modes.Mode.TheVariants.{Reset, Poking, Peeking, Replying, Booting, Running, Idle, Stopped}
use Rattle.tn_node.specs.Nodes.{NodeState, mode_of}
use Rattle.tn_node.specs.Runs.{node_item_step, ended, made_by}
use Rattle.tn_network.specs.declared.picks.Pick.{Pick}
use Rattle.tn_network.specs.Boards.{BoardState, WiredBoard, at_node}
use Rattle.tn_network.specs.NodeOps.{NodeOps, node_ops}
use Rattle.tn_network.specs.Steps.{ready, after_pick}
use Rattle.tn_network.specs.Locality.{actor, other_end}
use Rattle.tn_sym.specs.declared.codes.Instruction.{Instruction}

-- The code of a processor: the address of its first byte, its bytes, and its instructions in order of
-- their addresses. The bytes are there to compare with; no step reads them.
pub record CodeState : Type 0 where
  pub base : ℕ
  pub bytes : List ℕ
  pub instructions : List Instruction

-- the board, the codes by processor, and the first stop: a processor, and why it stopped
pub record SymbolicState : Type 0 where
  pub board : WiredBoard (NodeState Guarded)
  pub codes : List CodeState
  pub stop : Option (ℕ × Why)

-- ---- what a processor does

-- the code of processor p
abbrev pub code_at : List CodeState → ℕ → CodeState
code_at codes p = slice_index_or codes p (record { base = 0; bytes = []; instructions = [] })

-- the instruction that begins at an address, if one does
abbrev pub instruction_at : CodeState → ℕ → Option Instruction
instruction_at code a = find (λ instruction. instruction.address == a) code.instructions

-- A whole instruction, behind which the next one lies. Where none begins the processor stops as stray.
abbrev pub turn : Option Instruction → Bool → ℕ → NodeState Guarded → Ended Guarded
turn (Some i) slice clock n = node_item_step guarded i.fun i.operand (i.address + i.size) slice clock n
turn None slice clock n = stopped Stray n.cpu

abbrev pub turn_of : List CodeState → ℕ → Bool → ℕ → NodeState Guarded → Ended Guarded
turn_of codes p slice clock n = turn (instruction_at (code_at codes p) n.cpu.iptr) slice clock n

-- a step is the whole instruction that begins at the instruction pointer; on its links a node does what
-- every node does
abbrev pub symbolic_ops : List CodeState → NodeOps (NodeState Guarded)
symbolic_ops codes =
    record (node_ops guarded) {
      run = λ p slice clock n. ended (turn_of codes p slice clock n) n;
      made = λ p slice clock n. made_by (turn_of codes p slice clock n).outcome;
    }

-- ---- stops

abbrev pub stop_in : ℕ → Mode → Option (ℕ × Why)
stop_in p (Stopped why) = Some (p, why)
stop_in p Reset = None
stop_in p Poking = None
stop_in p Peeking = None
stop_in p Replying = None
stop_in p Booting = None
stop_in p Running = None
stop_in p Idle = None

-- why processor p has stopped, if it has
abbrev pub stop_at : List (NodeState Guarded) → ℕ → Option (ℕ × Why)
stop_at nodes p = at_node None (λ n. stop_in p (mode_of n)) nodes p

abbrev pub stop_there : List (NodeState Guarded) → Far → Option (ℕ × Why)
stop_there nodes Nothing = None
stop_there nodes Host = None
stop_there nodes (Link q m) = stop_at nodes q

-- The stop that a pick brings: that of its own processor goes before that at the other end of its wire.
-- A pick changes no other node.
abbrev pub stop_by : NetworkState → Pick → BoardState (NodeState Guarded) → Option (ℕ × Why)
stop_by network pick s = option_or (stop_at s.nodes (actor network pick)) (stop_there s.nodes (other_end network pick))

-- ---- picks

-- a pick is enabled where nothing has stopped and the board is ready for it
abbrev pub symbolic_enabled : SymbolicState → Pick → Bool
symbolic_enabled s pick = not (is_some s.stop) && ready (symbolic_ops s.codes) s.board.network s.board.state pick

-- the network after a pick
abbrev pub symbolic_after : Pick → SymbolicState → SymbolicState
symbolic_after pick s =
    record s {
      board = after_pick (symbolic_ops s.codes) pick s.board;
      stop = stop_by s.board.network pick (after_pick (symbolic_ops s.codes) pick s.board).state;
    }

-- each pick of a list is enabled when it comes
abbrev pub AreSymbolic : SymbolicState → List Pick → Type 0
AreSymbolic s [] = Unit {0}
AreSymbolic s (pick ∷ picks) = (symbolic_enabled s pick ≡ true) × AreSymbolic (symbolic_after pick s) picks

-- the network after them
abbrev pub symbolic_behind : SymbolicState → List Pick → SymbolicState
symbolic_behind s [] = s
symbolic_behind s (pick ∷ picks) = symbolic_behind (symbolic_after pick s) picks
