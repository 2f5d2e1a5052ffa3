use Rattle.std.proofs.Common.{◌≡◌, take}
use Rattle.tn_isa.specs.OperandRegister.{register_after}
use Rattle.tn_sym.proofs.comparing.register_after.Given as goal

abbrev pub invariant-loop-byte : goal.invariant-loop-byte
invariant-loop-byte l = l.register ≡ register_after 0 (take l.byte-index l.bytes)
