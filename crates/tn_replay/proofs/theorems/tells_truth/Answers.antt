use Rattle.tn_replay.proofs.TruthLaws.{truth}
use Rattle.tn_replay.proofs.theorems.tells_truth.Goals as goal

pub returns : goal.returns
returns c = record { law = truth }
