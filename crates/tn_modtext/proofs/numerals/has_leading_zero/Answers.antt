use Rattle.std.proofs.Common.{rules}
use Rattle.tn_modtext.proofs.numerals.has_leading_zero.Goals as goal

pub returns-in-len2-up : goal.returns-in-len2-up
returns-in-len2-up c = search rules
