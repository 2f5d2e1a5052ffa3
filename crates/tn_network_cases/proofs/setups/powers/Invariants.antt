use Rattle.std.proofs.Common.{◌≡◌, length, map, take}
use Rattle.tn_network.specs.Resets.{PowerState, power_of}
use Rattle.tn_network_cases.proofs.setups.powers.Given as goal

abbrev pub invariant-loop-p : goal.invariant-loop-p
invariant-loop-p l = map (λ (power : PowerState). length power.bytes) (map power_of l.powers.items) ≡ take l.p l.network.sizes
