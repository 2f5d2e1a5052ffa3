use Rattle.std.proofs.Common.{arith, Result, sym}
use Rattle.tn_text.specs.declared.faults.ReadFault.{ReadFault}
use Rattle.tn_text.proofs.Results.{of-error}
use Rattle.tn_module.specs.Modules.{Parts, module_of}
use Rattle.tn_modtext.specs.ModuleTexts.{IsModuleText, IsModuleTextFault}
use Rattle.tn_modtext.specs.Readers.{Reads}
use Rattle.tn_modtext.specs.Inner.Drafts.{parts_read}
use Rattle.tn_modtext.proofs.ReadLaws.{parts_reading}
use Rattle.tn_modtext.proofs.CheckLaws.{stopped-given}
use Rattle.tn_modtext.proofs.ModuleLaws.{room-spelled, length-lines, module-read, module-stopped}
use Rattle.tn_modtext.proofs.modules.read_module.Goals as goal

pub returns-in_err-raw : goal.returns-in_err-raw
returns-in_err-raw c =
    of-error (λ (r : Result Parts ReadFault). Reads (IsModuleText c.args.text.now) (IsModuleTextFault c.args.text.now) r)
    c.from_residual.result c.in_err-raw.field-0.0 c.from_residual.ensures.1
    (module-stopped c.args.text.now c.in_err-raw.field-0.0
    (stopped-given module_of (parts_read c.args.text.now) c.in_err-raw.field-0.0 c.in_err-raw.ensures))

pub checked-requires-clause-short : goal.checked-requires-clause-short
checked-requires-clause-short c =
    (room-spelled c.args.text.now (module_of c.in_ok-raw.raw)
    ((parts_reading c.args.text.now).found (module_of c.in_ok-raw.raw) (sym c.in_ok-raw.ensures)).1 c.requires).short

pub checked-requires-clause-room : goal.checked-requires-clause-room
checked-requires-clause-room c =
    let room = (room-spelled c.args.text.now (module_of c.in_ok-raw.raw)
    ((parts_reading c.args.text.now).found (module_of c.in_ok-raw.raw) (sym c.in_ok-raw.ensures)).1 c.requires).room in
    omega (arith, room, length-lines (module_of c.in_ok-raw.raw))

pub returns : goal.returns
returns c = module-read c.args.text.now (module_of c.in_ok-raw.raw) c.checked.result (sym c.in_ok-raw.ensures) c.checked.ensures
