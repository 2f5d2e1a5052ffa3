use Rattle.std.proofs.Common.{◌≡◌, true, take}
use Rattle.std.specs.List.{list_all}
use Rattle.tn_stream.specs.Images.{segments_of}
use Rattle.tn_load.specs.Targets.{placed_all}
use Rattle.tn_load.specs.LoadTests.{is_placed}
use Rattle.tn_load.proofs.loads.are_placed.Given as goal

abbrev pub invariant-loop-segment : goal.invariant-loop-segment
invariant-loop-segment l =
    list_all (λ piece. is_placed l.memory piece) (placed_all (segments_of (take l.segment-index l.segments))) ≡ true
