use Rattle.std.proofs.Common.{◌≡◌, ℕ, ◌<◌, None}
use Rattle.tn_symbols.specs.Faults.{ImportAt, fault_at}
use Rattle.tn_symbols.proofs.faults.check_imports.Given as goal

abbrev pub invariant-loop-m : goal.invariant-loop-m
invariant-loop-m l =
    (k i : ℕ) → k < l.m → fault_at l.modules (ImportAt k i) ≡ None
