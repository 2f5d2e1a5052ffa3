use Rattle.tn_loader.specs.Primary.{primary_bytes}
use Rattle.tn_stream.proofs.Printing.{Prints-as, Prints-joined, Prints-stopped, Prints-refused}
use Rattle.tn_stream.proofs.collects.emit_primary.Goals as goal

pub returns-in_err-write-clause-prints : goal.returns-in_err-write-clause-prints
returns-in_err-write-clause-prints g c =
    Prints-refused c.from_residual.ensures.0 (Prints-stopped (primary_bytes c.args.k) c.in_err-write.ensures.prints)

pub returns-clause-prints : goal.returns-clause-prints
returns-clause-prints g c = Prints-joined c.in_ok-write.ensures.prints (Prints-as c.primary.ensures.bytes c.write-2.ensures.prints)
