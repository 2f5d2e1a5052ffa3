use Rattle.std.proofs.Common.{rules}
use Rattle.tn_word.proofs.channels.in_channel.Goals as goal

pub returns : goal.returns
returns c = search rules
