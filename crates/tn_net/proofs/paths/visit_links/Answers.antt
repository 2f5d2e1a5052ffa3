use Rattle.tn_net.proofs.paths.visit_links.Goals as goal

pub visit-requires-clause-here : goal.visit-requires-clause-here
visit-requires-clause-here c = c.loop-l.invariant.0

pub visit-requires-clause-visited : goal.visit-requires-clause-visited
visit-requires-clause-visited c = c.loop-l.invariant.1

pub loop-l-preserved : goal.loop-l-preserved
loop-l-preserved c = (c.in_ok-visit.ensures.here, c.in_ok-visit.ensures.visited)
