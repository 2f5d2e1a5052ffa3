use Rattle.std.proofs.Common.{◌≡◌, max}
use Rattle.tn_layout.specs.Inner.SegmentTrees.{IsJoined, leaf}
use Rattle.tn_layout.proofs.MarkLaws.{resting, IsMarking}
use Rattle.tn_layout.proofs.marks.mark.Given as goal

-- the tree is whole, and what doesn't wait yet is so marked
abbrev pub invariant-loop-j : goal.invariant-loop-j
invariant-loop-j l = record {
  joined : IsJoined (λ left right. max left right) l.ends.nodes.items l.ends.width;
  width : l.ends.width ≡ l.initial.ends.width;
  marking : IsMarking l.pieces l.order l.place (λ j. leaf l.initial.ends.nodes.items l.initial.ends.width j)
      (λ j. leaf l.ends.nodes.items l.ends.width j) l.initial.waiting.items l.waiting.items;
}

-- how many there are to come
abbrev pub decreases-loop-j : goal.decreases-loop-j
decreases-loop-j l = resting l.pieces (λ j. leaf l.ends.nodes.items l.ends.width j) l.place 0 l.order
