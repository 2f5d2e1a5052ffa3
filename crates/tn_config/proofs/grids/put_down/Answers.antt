use Rattle.std.proofs.Common.{rules}
use Rattle.tn_config.proofs.grids.put_down.Goals as goal

pub returns-then-k-n : goal.returns-then-k-n
returns-then-k-n c = search rules
