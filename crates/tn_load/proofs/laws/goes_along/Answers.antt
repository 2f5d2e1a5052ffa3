use Rattle.tn_load.proofs.NetworkLaws.{goes_along}
use Rattle.tn_load.proofs.laws.goes_along.Goals as goal

-- src/laws.rt
pub returns : goal.returns
returns g c = record { law = λ ops. goes_along ops }
