use Rattle.tn_net.specs.Inner.Loads.{EndsAt}
use Rattle.tn_net.proofs.trees.family_end.Given as goal

-- the end among the places so far
abbrev pub invariant-loop-t : goal.invariant-loop-t
invariant-loop-t l = EndsAt l.order l.load l.parent l.t l.end
