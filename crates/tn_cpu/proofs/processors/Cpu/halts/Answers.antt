use Rattle.std.proofs.Common.{rules}
use Rattle.tn_cpu.proofs.processors.Cpu.halts.Goals as goal

pub returns-then-error : goal.returns-then-error
returns-then-error g c = search rules

pub returns-else-error : goal.returns-else-error
returns-else-error g c = search rules
