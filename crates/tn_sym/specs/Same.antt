-- A network over bytes and a symbolic one in the same state.
use Rattle.std.specs.Prelude.{◌≡◌, ⊤, ℕ, ◌+◌, ◌-◌, ◌<◌, ◌≤◌, ◌⊎◌, List, length, take, drop, slice_get, slice_index, Option, Some, None}
use Rattle.tn_isa.specs.OperandRegister.{register_after}
use Rattle.tn_mem.specs.Memories.{most_neg, block}
use Rattle.tn_mem.specs.Guards.{Guarded}
use Rattle.tn_cpu.specs.States.{State}
use Rattle.tn_node.specs.declared.modes.Mode.{Mode}
use Rattle.tn_node.specs.declared.modes.Mode.TheVariants.{Reset, Poking, Peeking, Replying, Booting, Running, Idle, Stopped}
use Rattle.tn_node.specs.Nodes.{NodeState, mode_of}
use Rattle.tn_network.specs.Boards.{BoardState}
use Rattle.tn_sym.specs.declared.codes.Instruction.{Instruction}
use Rattle.tn_sym.specs.Symbolic.{CodeState, SymbolicState, instruction_at}

-- ---- memories

-- the address behind the last byte of code
abbrev pub code_end : CodeState → ℕ
code_end code = code.base + length code.bytes

-- an address at which there is no code
abbrev pub IsElsewhere : CodeState → ℕ → Type 0
IsElsewhere code a = (a < code.base) ⊎ (code_end code ≤ a)

-- The memories hold the same bytes wherever there is no code, and the code is whole in that over bytes.
pub record SameMemory (code : CodeState) (memory other : List ℕ) : Type 0 where
  pub size : length memory ≡ length other
  pub elsewhere :
      (a : ℕ) → most_neg ≤ a → IsElsewhere code a → slice_index memory (a - most_neg) ≡ slice_index other (a - most_neg)
  pub whole : block memory code.base (length code.bytes) ≡ code.bytes

-- ---- where processors stand

-- the instruction pointer and the operand register of a processor
pub record Place : Type 0 where
  pub iptr : ℕ
  pub oreg : ℕ

abbrev pub place : {M : Type 0} → State M → Place
place s = record { iptr = s.iptr; oreg = s.oreg }

-- Of an instruction at which the symbolic processor stands, the one over bytes has read so many bytes,
-- and not all: its pointer is as much further, and its operand register is what these bytes make of 0.
pub record HasRead (code : CodeState) (i : Instruction) (own symbolic : Place) : Type 0 where
  pub read : ℕ
  pub more : read < i.size
  pub iptr : own.iptr ≡ symbolic.iptr + read
  pub oreg : own.oreg ≡ register_after 0 (take read (drop (i.address - code.base) code.bytes))

-- where no instruction begins it may stand anywhere
abbrev pub StandsWithin : CodeState → Option Instruction → Place → Place → Type 0
StandsWithin code (Some i) own symbolic = HasRead code i own symbolic
StandsWithin code None own symbolic = ⊤

abbrev pub StandsAlike : Place → Place → Type 0
StandsAlike own symbolic = (own.iptr ≡ symbolic.iptr) × (own.oreg ≡ symbolic.oreg)

-- By what the processor does: a running one may stand within an instruction, and no other. While it runs
-- or is idle the operand register of the symbolic one is 0.
abbrev pub Stands : Mode → CodeState → Place → Place → Type 0
Stands Running code own symbolic = (symbolic.oreg ≡ 0) × StandsWithin code (instruction_at code symbolic.iptr) own symbolic
Stands Idle code own symbolic = (symbolic.oreg ≡ 0) × StandsAlike own symbolic
Stands Reset code own symbolic = StandsAlike own symbolic
Stands Poking code own symbolic = StandsAlike own symbolic
Stands Peeking code own symbolic = StandsAlike own symbolic
Stands Replying code own symbolic = StandsAlike own symbolic
Stands Booting code own symbolic = StandsAlike own symbolic
Stands (Stopped why) code own symbolic = StandsAlike own symbolic

-- ---- nodes

pub record SameNode (code : CodeState) (n : NodeState (List ℕ)) (v : NodeState Guarded) : Type 0 where
  pub mode : mode_of n ≡ mode_of v
  pub expects : n.expects ≡ v.expects
  pub inputs : n.inputs ≡ v.inputs
  pub outputs : n.outputs ≡ v.outputs
  pub a : n.cpu.a ≡ v.cpu.a
  pub b : n.cpu.b ≡ v.cpu.b
  pub c : n.cpu.c ≡ v.cpu.c
  pub wptr : n.cpu.wptr ≡ v.cpu.wptr
  pub front : n.cpu.front ≡ v.cpu.front
  pub back : n.cpu.back ≡ v.cpu.back
  pub error : n.cpu.error ≡ v.cpu.error
  pub halt : n.cpu.halt ≡ v.cpu.halt
  pub stands : Stands (mode_of v) code (place n.cpu) (place v.cpu)
  pub memory : SameMemory code n.cpu.memory v.cpu.memory.bytes

-- ---- networks

pub record Same (n : BoardState (NodeState (List ℕ))) (s : SymbolicState) : Type 0 where
  pub host : n.host ≡ s.board.state.host
  pub latches : n.latches ≡ s.board.state.latches
  pub count : length n.nodes ≡ length s.board.state.nodes
  pub nodes :
      (p : ℕ) (node : NodeState (List ℕ)) (other : NodeState Guarded) (code : CodeState) → slice_get n.nodes p ≡ Some node
      → slice_get s.board.state.nodes p ≡ Some other → slice_get s.codes p ≡ Some code → SameNode code node other
