use Rattle.std.proofs.Common.{rules}
use Rattle.tn_isa.proofs.operand_register.operand_after.Goals as goal

pub returns-in-Nfix : goal.returns-in-Nfix
returns-in-Nfix c = search rules
