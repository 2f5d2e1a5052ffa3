use Rattle.std.proofs.Common.{rules}
use Rattle.tn_node.proofs.nodes.Node.open.Goals as goal

pub invariant_of-self : goal.invariant_of-self
invariant_of-self g c = search rules

pub returns-in-OpensIn-clause-node : goal.returns-in-OpensIn-clause-node
returns-in-OpensIn-clause-node g c = invariant_of-self g c

pub invariant_of-self-in-OpensOut : goal.invariant_of-self-in-OpensOut
invariant_of-self-in-OpensOut g c = search rules

pub returns-in-OpensOut-clause-node : goal.returns-in-OpensOut-clause-node
returns-in-OpensOut-clause-node g c = invariant_of-self-in-OpensOut g c
