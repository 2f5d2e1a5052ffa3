use Rattle.std.proofs.Common.{◌≡◌, map, take}
use Rattle.std.specs.List.{range_with_len}
use Rattle.tn_link.specs.Places.{item_count, cells_end, start}
use Rattle.tn_link.proofs.tables.starts.Given as goal

abbrev pub invariant-loop-module : goal.invariant-loop-module
invariant-loop-module l = record {
  starts : l.starts.items ≡ map (start l.modules) (range_with_len 0 l.module-index);
  item : l.item ≡ item_count (take l.module-index l.modules);
  end : l.end ≡ cells_end (take l.module-index l.modules);
}
