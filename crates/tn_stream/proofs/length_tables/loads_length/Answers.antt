use Rattle.std.proofs.Common.{length, take, ap, arith, length-append}
use Rattle.tn_stream.specs.Images.{segment_of, segments_of, IsSegment}
use Rattle.tn_stream.specs.Streams.{load_of, loads_of}
use Rattle.tn_stream.proofs.Loads.{segment-at, loads_of-more}
use Rattle.tn_stream.proofs.LengthLaws.{length-load}
use Rattle.tn_stream.proofs.length_tables.loads_length.Goals as goal

pub overflow_add-length-in-loop-segment : goal.overflow_add-length-in-loop-segment
overflow_add-length-in-loop-segment c =
    let good = segment-at IsSegment c.args.segments.now c.loop-segment.segment-index c.segment-item.result c.requires.segments
    c.loop-segment-test.true c.segment-item.is in
    let small = good.bounded in
    omega (arith, small, c.len.ensures, c.loop-segment.invariant.1, c.requires.few, c.loop-segment-test.true)

pub loop-segment-preserved : goal.loop-segment-preserved
loop-segment-preserved c =
    let good = segment-at IsSegment c.args.segments.now c.loop-segment.segment-index c.segment-item.result c.requires.segments
    c.loop-segment-test.true c.segment-item.is in
    let small = good.bounded in
    let more = ap length (loads_of-more c.args.segments.now c.loop-segment.segment-index c.segment-item.result c.loop-segment-test.true
    c.segment-item.is) in
    let joined = length-append (loads_of (segments_of (take c.loop-segment.segment-index c.args.segments.now)))
    (load_of (segment_of c.segment-item.result)) in
    let one = length-load (segment_of c.segment-item.result) in (
      omega (arith, more, joined, one, c.len.ensures, c.loop-segment.invariant.0),
      omega (arith, small, c.len.ensures, c.loop-segment.invariant.1),
    )
