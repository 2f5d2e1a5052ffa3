use Rattle.std.proofs.Common.{rules}
use Rattle.tn_node.proofs.bootstraps.stage_of.Goals as goal

pub returns-in-1 : goal.returns-in-1
returns-in-1 c = search rules
