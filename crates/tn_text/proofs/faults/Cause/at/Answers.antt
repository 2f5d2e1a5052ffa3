use Rattle.std.proofs.Common.{rules}
use Rattle.tn_text.proofs.faults.Cause.at.Goals as goal

pub returns : goal.returns
returns c = search rules
