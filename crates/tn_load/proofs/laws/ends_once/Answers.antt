use Rattle.tn_load.proofs.NetworkLaws.{ends_once}
use Rattle.tn_load.proofs.laws.ends_once.Goals as goal

-- src/laws.rt
pub returns : goal.returns
returns g c = record { law = λ ops. ends_once ops }
