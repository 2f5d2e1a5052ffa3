use Rattle.tn_load.proofs.NetworkLaws.{exchange}
use Rattle.tn_load.proofs.laws.exchange.Goals as goal

-- src/laws.rt
pub returns : goal.returns
returns g c = record { law = λ ops. exchange ops }
