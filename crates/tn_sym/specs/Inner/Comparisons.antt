-- Parts of the comparison of a network with a symbolic one.
use Rattle.std.specs.Prelude.{◌≡◌, ℕ, Bool, ◌==◌, if◌then◌else◌, List, slice_get, take, drop, Option, Some, None}
use Rattle.tn_mem.specs.Guards.{Guarded}
use Rattle.tn_cpu.specs.declared.outcomes.Why.{Why}
use Rattle.tn_cpu.specs.declared.outcomes.Why.TheVariants.{Undefined, Outside, Code, Halted, BadOp, Stray}
use Rattle.tn_cpu.specs.States.{State}
use Rattle.tn_node.specs.declared.modes.Mode.{Mode}
use Rattle.tn_node.specs.declared.modes.Mode.TheVariants.{Reset, Poking, Peeking, Replying, Booting, Running, Idle, Stopped}
use Rattle.tn_node.specs.Nodes.{NodeState, mode_of}
use Rattle.tn_network.specs.Boards.{BoardState}
use Rattle.tn_sym.specs.Symbolic.{CodeState, SymbolicState}
use Rattle.tn_sym.specs.Same.{SameMemory, place, Stands, SameNode}

-- the registers but the operand register and the instruction pointer
pub record SameRegisters (s : State (List ℕ)) (u : State Guarded) : Type 0 where
  pub a : s.a ≡ u.a
  pub b : s.b ≡ u.b
  pub c : s.c ≡ u.c
  pub wptr : s.wptr ≡ u.wptr
  pub front : s.front ≡ u.front
  pub back : s.back ≡ u.back
  pub error : s.error ≡ u.error
  pub halt : s.halt ≡ u.halt

pub record SameEngines (n : NodeState (List ℕ)) (v : NodeState Guarded) : Type 0 where
  pub inputs : n.inputs ≡ v.inputs
  pub outputs : n.outputs ≡ v.outputs

-- nodes that are the same where the symbolic one is in a mode
pub record SameIn (mode : Mode) (code : CodeState) (n : NodeState (List ℕ)) (v : NodeState Guarded) : Type 0 where
  pub mode_is : mode_of n ≡ mode
  pub expects : n.expects ≡ v.expects
  pub engines : SameEngines n v
  pub registers : SameRegisters n.cpu v.cpu
  pub stands : Stands mode code (place n.cpu) (place v.cpu)
  pub memory : SameMemory code n.cpu.memory v.cpu.memory.bytes

-- the nodes of processor p
abbrev pub SameAt : BoardState (NodeState (List ℕ)) → SymbolicState → ℕ → Type 0
SameAt n s p =
    (node : NodeState (List ℕ)) (other : NodeState Guarded) (code : CodeState) → slice_get n.nodes p ≡ Some node
    → slice_get s.board.state.nodes p ≡ Some other → slice_get s.codes p ≡ Some code → SameNode code node other

-- the mode that is seen of processor p, where this one stopped for a cause
abbrev pub strayed_mode : Mode → Mode
strayed_mode Running = Stopped Stray
strayed_mode Reset = Reset
strayed_mode Poking = Poking
strayed_mode Peeking = Peeking
strayed_mode Replying = Replying
strayed_mode Booting = Booting
strayed_mode Idle = Idle
strayed_mode (Stopped why) = Stopped why

abbrev pub mode_by : Why → Bool → Mode → Mode
mode_by Stray here mode = if here then strayed_mode mode else mode
mode_by Undefined here mode = mode
mode_by Outside here mode = mode
mode_by Code here mode = mode
mode_by Halted here mode = mode
mode_by BadOp here mode = mode

abbrev pub seen_mode : Option (ℕ × Why) → ℕ → Mode → Mode
seen_mode None p mode = mode
seen_mode (Some stop) p mode = mode_by stop.1 (stop.0 == p) mode

-- so many bytes at a place
abbrev pub part : List ℕ → ℕ → ℕ → List ℕ
part bytes at count = take count (drop at bytes)
