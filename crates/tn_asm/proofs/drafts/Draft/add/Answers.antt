use Rattle.std.proofs.Common.{rules}
use Rattle.tn_asm.proofs.drafts.Draft.add.Goals as goal

pub returns-in-Data : goal.returns-in-Data
returns-in-Data c = search rules
