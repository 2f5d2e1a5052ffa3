use Rattle.std.proofs.Common.{rules}
use Rattle.tn_config.proofs.writers.put_values.Goals as goal

pub returns-in-Arg : goal.returns-in-Arg
returns-in-Arg c = search rules
