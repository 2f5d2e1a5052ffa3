use Rattle.std.proofs.Common.{◌-◌, length}
use Rattle.tn_net.specs.Inner.Visits.{IsVisited}
use Rattle.tn_net.proofs.paths.walk.Given as goal

-- all links of the processors so far were followed
abbrev pub invariant-loop-i : goal.invariant-loop-i
invariant-loop-i l = IsVisited l.network l.order.items l.i 0

abbrev pub decreases-loop-i : goal.decreases-loop-i
decreases-loop-i l = length l.network.sizes - l.i
