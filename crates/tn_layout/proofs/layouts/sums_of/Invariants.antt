use Rattle.std.proofs.Common.{◌≡◌, ℕ, ◌+◌, ◌%◌, ◌^◌, ◌<◌, ◌≤◌, length, get_or}
use Rattle.tn_layout.specs.Inner.SegmentTrees.{IsJoined, leaf}
use Rattle.tn_layout.proofs.layouts.sums_of.Given as goal

-- the leaves so far are the sizes, and the others are 0
abbrev pub invariant-loop-i : goal.invariant-loop-i
invariant-loop-i l = record {
  joined : IsJoined (λ left right. (left + right) % 2 ^ 32) l.sums.nodes.items l.sums.width;
  wide : length l.sizes < l.sums.width;
  done : (k : ℕ) → k < l.i → leaf l.sums.nodes.items l.sums.width k ≡ get_or l.sizes k 0;
  rest : (k : ℕ) → l.i ≤ k → leaf l.sums.nodes.items l.sums.width k ≡ 0;
}
