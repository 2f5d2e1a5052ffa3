use Rattle.std.proofs.Common.{rules}
use Rattle.tn_asm.proofs.flat_sources.alone.Goals as goal

pub returns-in-Some-Plain : goal.returns-in-Some-Plain
returns-in-Some-Plain c = search rules
