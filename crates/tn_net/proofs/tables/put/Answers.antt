use Rattle.std.proofs.Common.{rules}
use Rattle.tn_net.proofs.tables.put.Goals as goal

pub returns : goal.returns
returns c = search rules
