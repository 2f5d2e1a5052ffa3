use Rattle.std.proofs.Common.{rules}
use Rattle.tn_layout.proofs.steps.Steps.add_one.Goals as goal

pub returns : goal.returns
returns g c = search rules
