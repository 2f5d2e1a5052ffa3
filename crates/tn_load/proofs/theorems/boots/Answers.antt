use Rattle.tn_load.proofs.Booting.{boots as all_loaded}
use Rattle.tn_load.proofs.theorems.boots.Goals as goal

pub returns : goal.returns
returns c = record { law = all_loaded }
