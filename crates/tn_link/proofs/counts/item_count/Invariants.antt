use Rattle.std.proofs.Common.{◌≡◌, ◌*◌, ◌^◌, ◌≤◌, take}
use Rattle.tn_link.specs.Places.{item_count}
use Rattle.tn_link.proofs.counts.item_count.Given as goal

abbrev pub invariant-loop-module : goal.invariant-loop-module
invariant-loop-module l = record {
  count : l.count ≡ item_count (take l.module-index l.modules);
  bound : l.count ≤ l.module-index * 2 ^ 30;
}
