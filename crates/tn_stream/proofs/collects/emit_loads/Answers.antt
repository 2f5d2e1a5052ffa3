use Rattle.std.proofs.Common.{◌+◌, drop, sym}
use Rattle.tn_stream.specs.Images.{segments_of, IsSegment}
use Rattle.tn_stream.specs.Streams.{loads_of}
use Rattle.tn_stream.proofs.Loads.{segment-at, loads-split}
use Rattle.tn_stream.proofs.Printing.{Prints-as, Prints-joined, Prints-stopped, Prints-refused}
use Rattle.tn_stream.proofs.collects.emit_loads.Goals as goal

pub emit_load-requires : goal.emit_load-requires
emit_load-requires g c =
    segment-at IsSegment c.args.segments.now c.loop-segment.segment-index c.segment-item.result
    c.requires c.loop-segment-test.true c.segment-item.is

pub returns-in_err-emit_load-clause-prints : goal.returns-in_err-emit_load-clause-prints
returns-in_err-emit_load-clause-prints g c =
    Prints-refused c.from_residual.ensures.0 (Prints-as
    (sym (loads-split c.args.segments.now c.loop-segment.segment-index c.segment-item.result c.loop-segment-test.true c.segment-item.is))
    (Prints-stopped (loads_of (segments_of (drop (c.loop-segment.segment-index + 1) c.args.segments.now)))
    (Prints-joined c.loop-segment.invariant.0 c.in_err-emit_load.ensures.prints)))
