use Rattle.tn_load.proofs.PicksMade.{boots-shown}
use Rattle.tn_load.proofs.settlings.shows_boots.Goals as goal

pub returns : goal.returns
returns c = record { law = boots-shown }
