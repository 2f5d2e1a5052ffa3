use Rattle.std.proofs.Common.{rules}
use Rattle.tn_mem.proofs.memories.is_reachable.Goals as goal

pub returns-then-a-ge-LOWEST : goal.returns-then-a-ge-LOWEST
returns-then-a-ge-LOWEST c = search rules
