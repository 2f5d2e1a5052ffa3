use Rattle.std.proofs.Common.{◌<◌, length}
use Rattle.tn_net.specs.Inner.Visits.{IsVisited}
use Rattle.tn_net.proofs.paths.visit_links.Given as goal

-- the links so far were followed
abbrev pub invariant-loop-l : goal.invariant-loop-l
invariant-loop-l l = (l.i < length l.order.items) × IsVisited l.network l.order.items l.i l.l
