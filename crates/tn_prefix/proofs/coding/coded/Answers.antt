use Rattle.std.proofs.Common.{rules}
use Rattle.tn_prefix.proofs.coding.coded.Goals as goal

pub returns-in-Complement : goal.returns-in-Complement
unfolding Rattle.tn_prefix.specs.Coding.coding
returns-in-Complement c = search rules
