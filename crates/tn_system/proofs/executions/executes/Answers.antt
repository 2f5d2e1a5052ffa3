use Rattle.tn_system.proofs.Executing.{executes}
use Rattle.tn_system.proofs.executions.executes.Goals as goal

pub returns : goal.returns
returns c = record { law = λ s y is. executes s y is }
