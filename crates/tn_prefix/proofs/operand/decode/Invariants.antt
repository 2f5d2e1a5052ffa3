use Rattle.std.proofs.Common.{◌≡◌, take, All}
use Rattle.tn_isa.specs.OperandRegister.{IsPrefix, register_after}
use Rattle.tn_prefix.proofs.operand.decode.Given as goal

abbrev pub invariant-loop-index : goal.invariant-loop-index
invariant-loop-index l =
    (l.register ≡ register_after 0 (take l.index l.bytes)) × All IsPrefix (take l.index l.bytes)
