use Rattle.std.proofs.Common.{◌≡◌, ℕ, ◌*◌, ◌/◌, ◌<◌, ◌≤◌, ◌==◌, if◌then◌else◌}
use Rattle.tn_layout.specs.Inner.SegmentTrees.{IsJoined, leaf}
use Rattle.tn_layout.proofs.SegmentTreeLaws.{IsJoinedBut}
use Rattle.tn_layout.proofs.segment_trees.SegmentTree.set.Given as goal

-- all nodes are joined but the parent of the last that changed
abbrev pub invariant-loop-v : goal.invariant-loop-v
invariant-loop-v g l = record {
  same : l.self.width ≡ l.fn.self.width;
  some : 1 ≤ l.v;
  below : l.v < 2 * l.self.width;
  joined : IsJoined g.J.Join.joined l.fn.self.nodes.items l.fn.self.width
      → IsJoinedBut g.J.Join.joined l.self.nodes.items l.self.width (l.v / 2);
  leaves : (k : ℕ) → leaf l.self.nodes.items l.self.width k
      ≡ if k == l.i then l.number else leaf l.fn.self.nodes.items l.fn.self.width k;
}

abbrev pub decreases-loop-v : goal.decreases-loop-v
decreases-loop-v g l = l.v
