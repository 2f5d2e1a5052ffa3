use Rattle.std.proofs.Common.{◌≡◌, map, take}
use Rattle.tn_network.specs.Resets.{power_of}
use Rattle.tn_top.specs.SystemNets.{filled_powers}
use Rattle.tn_top.proofs.started_nets.filled_powers.Given as goal

-- the processors so far have their powers
abbrev pub invariant-loop-p : goal.invariant-loop-p
invariant-loop-p l = map power_of l.powers.items ≡ filled_powers (l.byte, l.error, l.halt) (take l.p l.network.sizes)
