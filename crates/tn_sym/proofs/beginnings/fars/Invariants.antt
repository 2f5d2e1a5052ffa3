use Rattle.std.proofs.Common.{◌≡◌, take}
use Rattle.tn_sym.proofs.beginnings.fars.Given as goal

abbrev pub invariant-loop-k : goal.invariant-loop-k
invariant-loop-k l = l.fars.items ≡ take l.k l.network.fars
