use Rattle.std.proofs.Common.{rules}
use Rattle.tn_mem.proofs.guards.unmet.Goals as goal

pub returns-else-first-end : goal.returns-else-first-end
returns-else-first-end c = search rules
