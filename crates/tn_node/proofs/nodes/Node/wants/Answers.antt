use Rattle.std.proofs.Common.{rules}
use Rattle.tn_node.proofs.nodes.Node.wants.Goals as goal

pub returns-in-Reset : goal.returns-in-Reset
returns-in-Reset g c = search rules
