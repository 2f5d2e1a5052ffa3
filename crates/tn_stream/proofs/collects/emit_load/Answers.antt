use Rattle.std.proofs.Common.{◌≡◌, length, arith, ap, ◌∙◌}
use Rattle.tn_loader.specs.Commands.{command_bytes}
use Rattle.tn_stream.proofs.Printing.{Prints-as, Prints-joined, Prints-stopped, Prints-refused}
use Rattle.tn_stream.proofs.collects.emit_load.Goals as goal

pub returns-in_err-write-clause-prints : goal.returns-in_err-write-clause-prints
returns-in_err-write-clause-prints g c =
    let size : c.len.result ≡ length c.args.segment.now.bytes.items = omega arith in
    Prints-refused c.from_residual.ensures.0 (Prints-stopped c.args.segment.now.bytes.items
    (Prints-as (c.command.ensures.bytes ∙ ap (command_bytes 0 c.args.segment.now.base) size) c.in_err-write.ensures.prints))

pub returns-clause-prints : goal.returns-clause-prints
returns-clause-prints g c =
    let size : c.len.result ≡ length c.args.segment.now.bytes.items = omega arith in
    Prints-joined (Prints-as (c.command.ensures.bytes ∙ ap (command_bytes 0 c.args.segment.now.base) size) c.in_ok-write.ensures.prints)
    (Prints-as c.deref.ensures.value c.write-2.ensures.prints)
