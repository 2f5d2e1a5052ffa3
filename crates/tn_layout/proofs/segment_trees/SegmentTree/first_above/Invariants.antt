use Rattle.std.proofs.Common.{◌*◌, ◌^◌, ◌<◌, ◌≤◌, get_or}
use Rattle.tn_layout.proofs.SegmentTreeLaws.{NoneBefore}
use Rattle.tn_layout.proofs.segment_trees.SegmentTree.first_above.Given as goal

-- the node exceeds the number, and none before it on its level does
abbrev pub invariant-loop-level : goal.invariant-loop-level
invariant-loop-level l = record {
  low : 2 ^ l._level ≤ l.v;
  high : l.v < 2 * 2 ^ l._level;
  some : 1 ≤ 2 ^ l._level;
  wide : (l._level ≤ l.self.depth) × (2 ^ l._level ≤ l.self.width);
  above : l.number < get_or l.self.nodes.items l.v 0;
  none : NoneBefore l.self.nodes.items l.number (2 ^ l._level) l.v;
}
