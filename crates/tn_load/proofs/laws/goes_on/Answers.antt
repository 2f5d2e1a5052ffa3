use Rattle.tn_load.proofs.NetworkLaws.{goes_on}
use Rattle.tn_load.proofs.laws.goes_on.Goals as goal

-- src/laws.rt
pub returns : goal.returns
returns g c = record { law = λ ops. goes_on ops }
