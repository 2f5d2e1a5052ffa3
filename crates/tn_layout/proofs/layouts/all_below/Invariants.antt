use Rattle.std.proofs.Common.{◌≡◌, ℕ, ◌<◌, length, All}
use Rattle.std.specs.List.{Contains}
use Rattle.tn_layout.proofs.layouts.all_below.Given as goal

-- the numbers so far
abbrev pub invariant-loop-x : goal.invariant-loop-x
invariant-loop-x l = record {
  each : (x : ℕ) → x < l.x → Contains l.queue.items x;
  below : All (λ x. x < l.x) l.queue.items;
  long : length l.queue.items ≡ l.x;
}
