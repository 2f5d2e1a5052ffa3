use Rattle.std.proofs.Common.{◌≡◌, ℕ, ◌+◌, ◌++◌, List, length}
use Rattle.tn_layout.specs.Inner.Positions.{ArePositions}
use Rattle.tn_link.specs.Places.{cell_offset, told}
use Rattle.tn_link.specs.Cells.{bytes_of_cells}
use Rattle.tn_link.specs.Inner.Tables.{found}
use Rattle.tn_link.specs.Inner.Frames.{frame_of}
use Rattle.tn_link.proofs.cells.add_cells.Given as goal

abbrev pub invariant-loop-cell : goal.invariant-loop-cell
invariant-loop-cell l = record {
  at : l.at ≡ cell_offset l.cells l.cell-index;
  bytes : (sizes : List ℕ) → ArePositions sizes l.frame.positions.now
      → l.bytes.items ≡ l.initial.bytes.items ++ bytes_of_cells (frame_of l.frame sizes) (told (found l.scope)) l.cells l.cell-index;
  long : length l.bytes.items ≡ length l.initial.bytes.items + l.at;
}
