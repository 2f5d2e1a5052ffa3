use Rattle.std.proofs.Common.{◌≡◌, ℕ, List, length, take}
use Rattle.std.specs.List.{flat_map, range_with_len}
use Rattle.tn_layout.specs.Inner.Positions.{ArePositions}
use Rattle.tn_link.specs.Places.{cells_end}
use Rattle.tn_link.specs.Cells.{module_cells}
use Rattle.tn_link.specs.Inner.Frames.{frame_of}
use Rattle.tn_link.proofs.cells.cells.Given as goal

abbrev pub invariant-loop-m : goal.invariant-loop-m
invariant-loop-m l = record {
  cells : (sizes : List ℕ) → ArePositions sizes l.frame.positions.now
      → l.bytes.items ≡ flat_map (module_cells l.plan.modules.now (frame_of l.frame sizes)) (range_with_len 0 l.m);
  long : length l.bytes.items ≡ cells_end (take l.m l.plan.modules.now);
}
