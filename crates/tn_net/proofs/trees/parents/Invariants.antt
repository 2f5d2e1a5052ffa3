use Rattle.tn_net.specs.Inner.Loads.{AreParents}
use Rattle.tn_net.proofs.trees.parents.Given as goal

-- the parents so far
abbrev pub invariant-loop-place : goal.invariant-loop-place
invariant-loop-place l = AreParents l.order l.load l.parents.items l.place-index
