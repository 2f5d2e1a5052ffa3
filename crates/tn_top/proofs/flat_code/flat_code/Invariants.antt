use Rattle.std.proofs.Common.{◌≡◌, map, take}
use Rattle.tn_asm.specs.Instructions.{instruction_of}
use Rattle.tn_top.specs.FlatCode.{flat_code as code}
use Rattle.tn_top.proofs.flat_code.flat_code.Given as goal

-- the code so far is that of the instructions so far
abbrev pub invariant-loop-instruction : goal.invariant-loop-instruction
invariant-loop-instruction l = l.code.items ≡ code (map instruction_of (take l.instruction-index l.instructions))
