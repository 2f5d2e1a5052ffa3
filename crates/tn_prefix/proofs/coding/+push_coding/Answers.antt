use Rattle.std.proofs.Common.{arith}
use Rattle.std.proofs.lemmas.Grind.{common_steps}
use Rattle.tn_prefix.proofs.coding.+push_coding.Goals as goal

pub returns : goal.returns
unfolding Rattle.tn_prefix.specs.Coding.coding_up_to
returns t c = grind (arith, common_steps)
