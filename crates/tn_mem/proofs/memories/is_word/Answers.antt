use Rattle.std.proofs.Common.{rules}
use Rattle.tn_mem.proofs.memories.is_word.Goals as goal

pub returns-then-a-eq0 : goal.returns-then-a-eq0
returns-then-a-eq0 c = search rules
