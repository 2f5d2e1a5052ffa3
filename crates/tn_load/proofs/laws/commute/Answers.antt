use Rattle.tn_load.proofs.NetworkLaws.{commute}
use Rattle.tn_load.proofs.laws.commute.Goals as goal

-- src/laws.rt
pub returns : goal.returns
returns g c = record { law = λ ops. commute ops }
