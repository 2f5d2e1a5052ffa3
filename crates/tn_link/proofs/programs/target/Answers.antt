use Rattle.std.proofs.Common.{rules}
use Rattle.tn_link.proofs.programs.target.Goals as goal

pub returns-in-Some : goal.returns-in-Some
returns-in-Some c = search rules
