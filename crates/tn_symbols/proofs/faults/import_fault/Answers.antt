use Rattle.std.proofs.Common.{rules}
use Rattle.tn_symbols.proofs.faults.import_fault.Goals as goal

pub returns-in-None : goal.returns-in-None
returns-in-None c = search rules
