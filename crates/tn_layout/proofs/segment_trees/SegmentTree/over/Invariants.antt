use Rattle.std.proofs.Common.{◌≡◌, ◌+◌, ◌*◌, ◌-◌, ◌^◌, ◌≤◌}
use Rattle.tn_layout.proofs.segment_trees.SegmentTree.over.Given as goal

-- the width is a power of two, and not much more than what it has to exceed
abbrev pub invariant-loop-width : goal.invariant-loop-width
invariant-loop-width g l = (l.width ≡ 2 ^ l.depth) × (l.width ≤ 2 * l.count + 1) × (1 ≤ l.width) × (l.depth ≤ l.width)

abbrev pub decreases-loop-width : goal.decreases-loop-width
decreases-loop-width g l = l.count + 1 - l.width
