use Rattle.std.proofs.Common.{rules}
use Rattle.tn_node.proofs.nodes.Node.output_byte.Goals as goal

pub returns-in-Some : goal.returns-in-Some
returns-in-Some g c = search rules
