use Rattle.std.proofs.Common.{◌≡◌, length}
use Rattle.tn_network_cases.proofs.setups.entries.Given as goal

abbrev pub invariant-loop-k : goal.invariant-loop-k
invariant-loop-k l = length l.entries.items ≡ l.k
