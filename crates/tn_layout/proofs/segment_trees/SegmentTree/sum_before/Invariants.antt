use Rattle.std.proofs.Common.{◌≡◌, ◌+◌, ◌%◌, ◌^◌, ◌<◌, ◌≤◌}
use Rattle.tn_layout.specs.Inner.SegmentTrees.{sum_from}
use Rattle.tn_layout.proofs.segment_trees.SegmentTree.sum_before.Given as goal

-- what is summed and the nodes of this level before have the sum of the first leaves
abbrev pub invariant-loop-level : goal.invariant-loop-level
invariant-loop-level l = record {
  first : l.first ≡ 2 ^ l.level;
  wide : l.first ≤ l.self.width;
  before : l.before < l.first;
  sums : (l.sum + sum_from l.self.nodes.items l.first l.before) % 2 ^ 32 ≡ sum_from l.self.nodes.items l.self.width l.count % 2 ^ 32;
}

abbrev pub decreases-loop-level : goal.decreases-loop-level
decreases-loop-level l = l.level
