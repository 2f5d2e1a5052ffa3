use Rattle.std.proofs.Common.{ap}
use Rattle.tn_stream.specs.Images.{segments_of}
use Rattle.tn_stream.specs.Streams.{loads_of}
use Rattle.tn_stream.proofs.Printing.{Prints-as, Prints-joined, Prints-stopped, Prints-refused}
use Rattle.tn_stream.proofs.collects.emit_own_load.Goals as goal

pub returns-in_err-emit_loader-clause-prints : goal.returns-in_err-emit_loader-clause-prints
returns-in_err-emit_loader-clause-prints g c =
    Prints-refused c.from_residual.ensures.0
    (Prints-stopped (loads_of (segments_of c.args.image.now.segments.items)) c.in_err-emit_loader.ensures.prints)

pub returns-clause-prints : goal.returns-clause-prints
returns-clause-prints g c =
    Prints-joined c.in_ok-emit_loader.ensures.prints
    (Prints-as (ap (λ ss. loads_of (segments_of ss)) c.deref.ensures.value) c.emit_loads.ensures.prints)
