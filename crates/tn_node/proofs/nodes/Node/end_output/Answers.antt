use Rattle.std.proofs.Common.{rules}
use Rattle.tn_node.proofs.nodes.Node.end_output.Goals as goal

pub invariant_of-self : goal.invariant_of-self
invariant_of-self g c = search rules

pub returns-then-engine-eq0-clause-node : goal.returns-then-engine-eq0-clause-node
returns-then-engine-eq0-clause-node g c = invariant_of-self g c

pub invariant_of-self-else-engine-eq0 : goal.invariant_of-self-else-engine-eq0
invariant_of-self-else-engine-eq0 g c = search rules

pub returns-else-engine-eq0-clause-node : goal.returns-else-engine-eq0-clause-node
returns-else-engine-eq0-clause-node g c = invariant_of-self-else-engine-eq0 g c
