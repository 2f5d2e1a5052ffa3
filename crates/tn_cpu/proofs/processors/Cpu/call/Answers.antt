use Rattle.std.proofs.Common.{rules}
use Rattle.tn_cpu.proofs.processors.Cpu.call.Goals as goal

pub store_frame-requires : goal.store_frame-requires
store_frame-requires g c = search rules

pub returns-in-Some : goal.returns-in-Some
returns-in-Some g c = search rules

pub returns : goal.returns
returns g c = search rules
