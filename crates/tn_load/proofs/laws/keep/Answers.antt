use Rattle.tn_load.proofs.NetworkLaws.{keep}
use Rattle.tn_load.proofs.laws.keep.Goals as goal

-- src/laws.rt
pub returns : goal.returns
returns g c = record { law = λ ops. keep ops }
