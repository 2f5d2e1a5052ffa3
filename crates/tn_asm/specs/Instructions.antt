-- Instructions as contracts see them.
use Rattle.std.specs.Prelude.{ℤ}
use Rattle.tn_isa.specs.declared.functions.Fun.{Fun}
use Rattle.tn_asm.specs.declared.instructions.Instruction.{Instruction}

-- an instruction's function and operand
abbrev pub instruction_of : Instruction → Fun × ℤ
instruction_of i = (i.fun, i.operand)
