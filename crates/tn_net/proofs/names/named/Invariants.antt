use Rattle.std.proofs.Common.{◌≡◌, ◌<◌, ℕ}
use Rattle.tn_net.specs.Lines.{name_at}
use Rattle.tn_net.proofs.names.named.Given as goal

-- no processor so far has the name
abbrev pub invariant-loop-p : goal.invariant-loop-p
invariant-loop-p l = (k : ℕ) → k < l.p → name_at l.names k ≡ l.name → ⊥
