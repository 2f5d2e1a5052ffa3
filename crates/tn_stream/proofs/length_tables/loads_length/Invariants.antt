use Rattle.std.proofs.Common.{◌≡◌, ◌*◌, ◌≤◌, length, take}
use Rattle.tn_stream.specs.Images.{segments_of}
use Rattle.tn_stream.specs.Streams.{loads_of}
use Rattle.tn_stream.proofs.length_tables.loads_length.Given as goal

-- the bytes of the LOADs so far
abbrev pub invariant-loop-segment : goal.invariant-loop-segment
invariant-loop-segment l =
    (l.length ≡ length (loads_of (segments_of (take l.segment-index l.segments)))) × (l.length ≤ l.segment-index * 1048588)
