use Rattle.std.proofs.Common.{rules}
use Rattle.tn_list.proofs.symbols.nearer.Goals as goal

pub returns-else-placed-address : goal.returns-else-placed-address
unfolding Rattle.tn_list.specs.Symbols.nearer
returns-else-placed-address c = search rules
