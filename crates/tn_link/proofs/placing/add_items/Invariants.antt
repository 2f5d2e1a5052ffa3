use Rattle.std.proofs.Common.{◌≡◌, ◌++◌}
use Rattle.tn_link.specs.Linking.{placed_items}
use Rattle.tn_link.specs.Inner.Frames.{frame_of}
use Rattle.tn_link.proofs.placing.add_items.Given as goal

abbrev pub invariant-loop-item : goal.invariant-loop-item
invariant-loop-item l =
    l.places.items ≡ l.initial.places.items ++ placed_items (frame_of l.frame l.sizes) l.«module» l.from l.item
