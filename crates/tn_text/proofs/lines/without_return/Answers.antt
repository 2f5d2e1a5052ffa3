use Rattle.std.proofs.Common.{rules}
use Rattle.tn_text.proofs.lines.without_return.Goals as goal

pub returns-in_default-2 : goal.returns-in_default-2
returns-in_default-2 c = search rules
