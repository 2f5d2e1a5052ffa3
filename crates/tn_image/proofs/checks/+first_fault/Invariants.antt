use Rattle.std.proofs.Common.{length}
use Rattle.tn_image.proofs.checks.+first_fault.Given as goal

abbrev pub decreases-first_fault : goal.decreases-first_fault
decreases-first_fault l = length l.checks.now
