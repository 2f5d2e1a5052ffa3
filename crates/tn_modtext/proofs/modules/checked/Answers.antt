use Rattle.std.proofs.Common.{◌≡◌, arith}
use Rattle.tn_module.specs.Modules.{module_of}
use Rattle.tn_modtext.specs.ModuleTexts.{line_in, line_with}
use Rattle.tn_modtext.proofs.ModuleLaws.{place-within, length-lines}
use Rattle.tn_modtext.proofs.modules.checked.Goals as goal

pub line_with-requires : goal.line_with-requires
line_with-requires c =
    let first = rw c.in-Err-Fault.field-0-is at c.in-Err-Fault.ensures.fault in
    let within = place-within (module_of c.args.raw) c.in-Err-Fault.fault.place _ first.wrong in
    let same : line_with c.len-imports.result c.len-exports.result c.len-items.result c.in-Err-Fault.fault.place
    ≡ line_in (module_of c.args.raw) c.in-Err-Fault.fault.place = cc in
    omega (arith, within, same, length-lines (module_of c.args.raw), c.requires.room)

pub overflow_add-result : goal.overflow_add-result
overflow_add-result c =
    let first = rw c.in-Err-Fault.field-0-is at c.in-Err-Fault.ensures.fault in
    let within = place-within (module_of c.args.raw) c.in-Err-Fault.fault.place _ first.wrong in
    let same : c.line_with.result ≡ line_in (module_of c.args.raw) c.in-Err-Fault.fault.place = cc in
    omega (arith, within, same, length-lines (module_of c.args.raw), c.requires.room)
