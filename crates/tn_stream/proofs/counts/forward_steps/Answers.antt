use Rattle.std.proofs.Common.{rules}
use Rattle.tn_stream.proofs.counts.forward_steps.Goals as goal

pub returns : goal.returns
returns c = search rules
