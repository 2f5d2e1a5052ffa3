use Rattle.tn_net.specs.Inner.Loads.{AreNodes}
use Rattle.tn_net.proofs.trees.nodes.Given as goal

-- the nodes so far
abbrev pub invariant-loop-k : goal.invariant-loop-k
invariant-loop-k l = AreNodes l.order l.load l.parents l.nodes.items l.k
