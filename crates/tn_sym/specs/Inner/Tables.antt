-- Instructions in order of their addresses.
use Rattle.std.specs.Prelude.{ℕ, ◌+◌, ◌<◌, ◌^◌, List, length, slice_index_or}
use Rattle.tn_isa.specs.OperandRegister.{IsCoded}
use Rattle.tn_sym.specs.declared.codes.Instruction.{Instruction}

-- the addresses rise
abbrev pub AreRising : List Instruction → Type 0
AreRising instructions =
    (i j : ℕ) (d : Instruction) → i < j → j < length instructions
    → (slice_index_or instructions i d).address < (slice_index_or instructions j d).address

-- an instruction that a processor can execute, behind which there is an address
pub record IsRunnable (i : Instruction) : Type 0 where
  pub coded : IsCoded i.fun
  pub end : i.address + i.size < 2 ^ 32

abbrev pub AreRunnable : List Instruction → Type 0
AreRunnable instructions = (i : ℕ) (d : Instruction) → i < length instructions → IsRunnable (slice_index_or instructions i d)

pub record IsTable (instructions : List Instruction) : Type 0 where
  pub rising : AreRising instructions
  pub runnable : AreRunnable instructions
