use Rattle.std.proofs.Common.{rules}
use Rattle.tn_text.proofs.places.name_at.Goals as goal

pub returns-then-token-limit : goal.returns-then-token-limit
unfolding Rattle.tn_text.specs.Places.name_at
returns-then-token-limit c = search rules
