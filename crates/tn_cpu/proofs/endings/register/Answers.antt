use Rattle.std.proofs.Common.{rules}
use Rattle.tn_cpu.proofs.endings.register.Goals as goal

pub returns-in-None : goal.returns-in-None
returns-in-None c = search rules
