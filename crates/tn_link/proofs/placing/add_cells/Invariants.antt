use Rattle.std.proofs.Common.{◌≡◌, ◌++◌}
use Rattle.tn_link.specs.Places.{cell_offset}
use Rattle.tn_link.specs.Linking.{placed_cells}
use Rattle.tn_link.proofs.placing.add_cells.Given as goal

abbrev pub invariant-loop-item : goal.invariant-loop-item
invariant-loop-item l = record {
  at : l.at ≡ cell_offset l.cells l.item;
  places : l.places.items ≡ l.initial.places.items ++ placed_cells l.«module» l.cells l.from l.item;
}
