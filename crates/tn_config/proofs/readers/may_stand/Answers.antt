use Rattle.std.proofs.Common.{rules}
use Rattle.tn_config.proofs.readers.may_stand.Goals as goal

pub returns-in-Host : goal.returns-in-Host
unfolding Rattle.tn_config.specs.ConfigFaults.may_stand
returns-in-Host c = search rules
