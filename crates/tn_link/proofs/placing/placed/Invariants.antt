use Rattle.std.proofs.Common.{◌≡◌}
use Rattle.std.specs.List.{flat_map, range_with_len}
use Rattle.tn_link.specs.Linking.{module_items}
use Rattle.tn_link.specs.Inner.Frames.{frame_of}
use Rattle.tn_link.proofs.placing.placed.Given as goal

abbrev pub invariant-loop-m : goal.invariant-loop-m
invariant-loop-m l = l.places.items ≡ flat_map (module_items l.plan.modules.now (frame_of l.frame l.sizes)) (range_with_len 0 l.m)
