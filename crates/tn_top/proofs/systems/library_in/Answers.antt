use Rattle.std.proofs.Common.{◌∙◌, ap, sym, Ok, Err, arith}
use Rattle.tn_text.specs.declared.limits.Limit.TheVariants.{Modules}
use Rattle.tn_modtext.proofs.LibraryReading.{library-given}
use Rattle.tn_system.proofs.FromTexts.{few_library_lines}
use Rattle.tn_top.specs.Plans.{limit}
use Rattle.tn_top.proofs.SystemTexts.{library-within, library-above, library-fault}
use Rattle.tn_top.proofs.systems.library_in.Goals as goal

pub returns-in-Err-Fault-clause-made : goal.returns-in-Err-Fault-clause-made
returns-in-Err-Fault-clause-made c =
    rw (c.copied.ensures, c.in-Err-Fault.first-is) (library-fault c.args.file.now c.args.text.now c.in-Err-Fault.first
    (rw c.in-Err-Fault.field-0-is at (library-given c.args.text.now (Err c.in-Err-Fault.field-0) c.in-Err-Fault.ensures)))

pub returns-then-len-gt-MODULE_LIMIT-clause-made : goal.returns-then-len-gt-MODULE_LIMIT-clause-made
returns-then-len-gt-MODULE_LIMIT-clause-made c =
    let modules = c.in-Ok.library.modules in
    library-above c.args.file.now c.args.text.now modules.items (library-given c.args.text.now (Ok modules.items) c.in-Ok.ensures)
    (omega (arith, modules.ok.0, c.len.ensures, c.if-len-gt-MODULE_LIMIT.true))
    ∙ ap (λ n. Err (limit Modules n)) (sym (c.len-then-len-gt-MODULE_LIMIT.ensures ∙ modules.ok.0))

pub returns-clause-made : goal.returns-clause-made
returns-clause-made c =
    let modules = c.in-Ok.library.modules in
    library-within c.args.file.now c.args.text.now modules.items (library-given c.args.text.now (Ok modules.items) c.in-Ok.ensures)
    (omega (arith, modules.ok.0, c.len.ensures, c.if-len-gt-MODULE_LIMIT.false))

pub returns-clause-short : goal.returns-clause-short
returns-clause-short c =
    let modules = c.in-Ok.library.modules in
    record {
      few = omega (arith, modules.ok.0, c.len.ensures, c.if-len-gt-MODULE_LIMIT.false);
      few_lines = few_library_lines c.args.text.now modules.items c.in-Ok.ensures.found (omega (arith, c.requires));
    }
