use Rattle.std.proofs.Common.{refl}
use Rattle.tn_isa.proofs.operations.op_code.Goals as goal

pub returns-in-Lmul : goal.returns-in-Lmul
returns-in-Lmul c = rw c.in-Lmul.is refl
