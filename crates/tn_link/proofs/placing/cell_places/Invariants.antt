use Rattle.std.proofs.Common.{◌≡◌}
use Rattle.std.specs.List.{flat_map, range_with_len}
use Rattle.tn_link.specs.Linking.{module_cells}
use Rattle.tn_link.proofs.placing.cell_places.Given as goal

abbrev pub invariant-loop-m : goal.invariant-loop-m
invariant-loop-m l = l.places.items ≡ flat_map (module_cells l.plan.modules.now l.cell_base) (range_with_len 0 l.m)
