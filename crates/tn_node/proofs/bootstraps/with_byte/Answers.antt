use Rattle.std.proofs.Common.{rules}
use Rattle.tn_node.proofs.bootstraps.with_byte.Goals as goal

pub returns-in-0 : goal.returns-in-0
returns-in-0 c = search rules
