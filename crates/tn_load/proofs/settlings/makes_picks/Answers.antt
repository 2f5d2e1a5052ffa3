use Rattle.tn_load.proofs.PicksMade.{made-picks}
use Rattle.tn_load.proofs.settlings.makes_picks.Goals as goal

pub returns : goal.returns
returns c = record { law = made-picks }
