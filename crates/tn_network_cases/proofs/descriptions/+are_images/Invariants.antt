use Rattle.std.proofs.Common.{length}
use Rattle.tn_network_cases.proofs.descriptions.+are_images.Given as goal

abbrev pub decreases-are_images : goal.decreases-are_images
decreases-are_images l = length l.images.now
