use Rattle.std.proofs.Common.{rules}
use Rattle.tn_node.proofs.nodes.Node.mark_sent.Goals as goal

pub returns-then-is_reply-clause-state : goal.returns-then-is_reply-clause-state
unfolding Rattle.tn_node.specs.Links.marked_sent
returns-then-is_reply-clause-state g c = search rules

pub invariant_of-self-else-is_reply : goal.invariant_of-self-else-is_reply
invariant_of-self-else-is_reply g c = search rules

pub returns-else-is_reply-clause-node : goal.returns-else-is_reply-clause-node
returns-else-is_reply-clause-node g c = invariant_of-self-else-is_reply g c
