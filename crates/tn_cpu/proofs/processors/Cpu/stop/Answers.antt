use Rattle.std.proofs.Common.{rules}
use Rattle.tn_cpu.proofs.processors.Cpu.stop.Goals as goal

pub returns : goal.returns
returns g c = search rules
