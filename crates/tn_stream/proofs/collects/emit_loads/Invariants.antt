use Rattle.std.proofs.Common.{take, Ok}
use Rattle.tn_io.specs.Outs.{Prints}
use Rattle.tn_stream.specs.Images.{segments_of}
use Rattle.tn_stream.specs.Streams.{loads_of}
use Rattle.tn_stream.proofs.collects.emit_loads.Given as goal

-- the LOADs so far were emitted
abbrev pub invariant-loop-segment : goal.invariant-loop-segment
invariant-loop-segment g l =
    Prints {T = Unit {0}} (loads_of (segments_of (take l.segment-index l.segments))) (Ok tt) (g.E.Out.printed l.fn.emit)
    (g.E.Out.printed l.emit) × g.E.Out.goes_on l.fn.emit l.emit
