use Rattle.std.proofs.Common.{rules}
use Rattle.tn_asm.proofs.drafts.Draft.add_said.Goals as goal

pub returns-in_ok-add-in-Both : goal.returns-in_ok-add-in-Both
returns-in_ok-add-in-Both c = search rules
