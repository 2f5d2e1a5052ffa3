use Rattle.tn_net.specs.Inner.Loads.{IsInLoadOrder}
use Rattle.tn_net.proofs.trees.load_order.Given as goal

-- the steps so far stand in load order
abbrev pub invariant-loop-place : goal.invariant-loop-place
invariant-loop-place l = IsInLoadOrder l.order l.load.items l.place
