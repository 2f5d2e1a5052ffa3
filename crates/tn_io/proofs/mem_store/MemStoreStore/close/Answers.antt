use Rattle.std.proofs.Common.{rules}
use Rattle.tn_io.proofs.mem_store.MemStoreStore.close.Goals as goal

pub returns-then-refused-clause-closes : goal.returns-then-refused-clause-closes
returns-then-refused-clause-closes c = search rules

pub returns-clause-closes : goal.returns-clause-closes
returns-clause-closes c = search rules
