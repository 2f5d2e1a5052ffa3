use Rattle.std.proofs.Common.{◌≡◌, ◌<◌, ℕ}
use Rattle.tn_net.specs.Inner.Loads.{place_at}
use Rattle.tn_net.proofs.trees.position.Given as goal

-- the place does not stand so far
abbrev pub invariant-loop-t : goal.invariant-loop-t
invariant-loop-t l = (s : ℕ) → s < l.t → place_at l.load s ≡ l.place → ⊥
