use Rattle.std.proofs.Common.{rules}
use Rattle.tn_link.proofs.programs.reach_of.Goals as goal

pub returns-in-CellWord : goal.returns-in-CellWord
returns-in-CellWord c = search rules
