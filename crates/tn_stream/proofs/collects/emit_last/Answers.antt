use Rattle.std.proofs.Common.{sym, ap}
use Rattle.tn_stream.specs.Images.{image_of}
use Rattle.tn_stream.specs.Waves.{last_of}
use Rattle.tn_stream.proofs.Printing.{Prints-as}
use Rattle.tn_stream.proofs.collects.emit_last.Goals as goal

pub returns-in-Sync-clause-prints : goal.returns-in-Sync-clause-prints
returns-in-Sync-clause-prints g c =
    Prints-as (ap (λ w. last_of w (record { boot = c.args.k; image = image_of c.args.image.now })) (sym c.in-Sync.is))
    (Prints-as c.command.ensures.bytes c.write.ensures.prints)

pub returns-in-Start-clause-prints : goal.returns-in-Start-clause-prints
returns-in-Start-clause-prints g c =
    Prints-as (ap (λ w. last_of w (record { boot = c.args.k; image = image_of c.args.image.now })) (sym c.in-Start.is))
    (Prints-as c.command-in-Start.ensures.bytes c.write-in-Start.ensures.prints)
