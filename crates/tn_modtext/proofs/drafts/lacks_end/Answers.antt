use Rattle.std.proofs.Common.{refl}
use Rattle.tn_modtext.proofs.drafts.lacks_end.Goals as goal

pub returns : goal.returns
returns c = refl
