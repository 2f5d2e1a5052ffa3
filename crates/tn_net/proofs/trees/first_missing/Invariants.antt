use Rattle.std.proofs.Common.{◌<◌, ℕ}
use Rattle.tn_net.specs.Inner.Loads.{IsThere}
use Rattle.tn_net.proofs.trees.first_missing.Given as goal

-- a step is to each processor so far
abbrev pub invariant-loop-p : goal.invariant-loop-p
invariant-loop-p l = (q : ℕ) → q < l.p → IsThere l.order q
