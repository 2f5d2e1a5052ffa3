use Rattle.std.proofs.Common.{length}
use Rattle.tn_machine_cases.proofs.descriptions.+are_apart.Given as goal

abbrev pub decreases-are_apart : goal.decreases-are_apart
decreases-are_apart l = length l.wires.now
