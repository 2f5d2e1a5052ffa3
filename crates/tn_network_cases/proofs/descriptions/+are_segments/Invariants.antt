use Rattle.std.proofs.Common.{length}
use Rattle.tn_network_cases.proofs.descriptions.+are_segments.Given as goal

abbrev pub decreases-are_segments : goal.decreases-are_segments
decreases-are_segments l = length l.segments.now
