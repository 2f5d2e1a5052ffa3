use Rattle.tn_net.specs.Lines.{AreDistinct}
use Rattle.tn_net.proofs.names.first_repeated.Given as goal

-- no name so far is repeated
abbrev pub invariant-loop-i : goal.invariant-loop-i
invariant-loop-i l = AreDistinct l.names l.i
