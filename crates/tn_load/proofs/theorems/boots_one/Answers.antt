use Rattle.tn_load.proofs.BootingOne.{boots-one}
use Rattle.tn_load.proofs.theorems.boots_one.Goals as goal

pub returns : goal.returns
returns c = record { law = boots-one }
