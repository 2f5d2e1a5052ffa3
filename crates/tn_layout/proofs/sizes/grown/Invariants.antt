use Rattle.std.proofs.Common.{◌+◌, ◌-◌, ◌*◌, ◌≤◌, length}
use Rattle.tn_layout.specs.Spans.{references, pairs}
use Rattle.tn_layout.specs.Inner.Layouts.{IsKept, potential}
use Rattle.tn_layout.proofs.sizes.grown.Given as goal

-- each step and each reference that waits is of a reference, or of a byte that it has grown
abbrev pub invariant-looks : goal.invariant-looks
invariant-looks g l = record {
  kept : IsKept l.pieces l.layout;
  cost : l.steps + length l.layout.waiting.items
      ≤ l.initial.steps + length (references l.pieces) + potential l.pieces l.layout.sizes.items;
}

abbrev pub decreases-looks : goal.decreases-looks
decreases-looks g l = 7 * pairs l.pieces + length l.layout.waiting.items - potential l.pieces l.layout.sizes.items
