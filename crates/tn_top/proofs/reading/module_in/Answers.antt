use Rattle.std.proofs.Common.{Ok, Err, arith}
use Rattle.tn_modtext.specs.ModuleReading.{module_read}
use Rattle.tn_modtext.proofs.ModuleReading.{reads-given}
use Rattle.tn_top.proofs.LibraryTexts.{given-ok, given-fault}
use Rattle.tn_system.proofs.FromTexts.{few_lines}
use Rattle.tn_top.proofs.reading.module_in.Goals as goal

pub returns-in-Ok-clause-made : goal.returns-in-Ok-clause-made
returns-in-Ok-clause-made c =
    given-ok c.args.source.now (module_read c.args.text.now) c.in-Ok.read (reads-given c.args.text.now (Ok c.in-Ok.read) c.in-Ok.ensures)

pub returns-in-Ok-clause-few_lines : goal.returns-in-Ok-clause-few_lines
returns-in-Ok-clause-few_lines c = few_lines c.args.text.now c.in-Ok.read c.in-Ok.ensures.found (omega (arith, c.requires))

pub returns-in-Err-Fault-clause-made : goal.returns-in-Err-Fault-clause-made
returns-in-Err-Fault-clause-made c =
    rw (c.copied.ensures, c.in-Err-Fault.first-is) (given-fault c.args.source.now (module_read c.args.text.now) c.in-Err-Fault.first
    (rw c.in-Err-Fault.field-0-is at (reads-given c.args.text.now (Err c.in-Err-Fault.field-0) c.in-Err-Fault.ensures)))
