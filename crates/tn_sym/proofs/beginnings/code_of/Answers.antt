use Rattle.std.proofs.Common.{◌+◌, List, ℕ, length, ap, subst, ◌∙◌}
use Rattle.tn_module.specs.Modules.{Parts}
use Rattle.tn_sym.specs.ProgramStates.{program_of}
use Rattle.tn_sym.specs.Programs.{AreModules}
use Rattle.tn_sym.specs.Symbolic.{CodeState}
use Rattle.tn_sym.specs.Inner.Readings.{forms_of, read_from}
use Rattle.tn_sym.proofs.Begun.{table-made, code-made}
use Rattle.tn_sym.proofs.beginnings.code_of.Goals as goal

pub of-requires : goal.of-requires
of-requires c =
    let valid = subst AreModules c.deref-modules.ensures.value c.are_modules.ensures in
    let base = c.args.program.now.linked.code_base in
    let is = c.in_ok-instructions.ensures
    ∙ (ap (λ (bytes : List ℕ). read_from (base + length bytes) (forms_of c.deref-modules.result.now) bytes) c.deref.ensures.value
    ∙ ap (λ (modules : List Parts). read_from (base + length c.args.program.now.linked.code.items) (forms_of modules)
    c.args.program.now.linked.code.items) c.deref-modules.ensures.value) in
    table-made (program_of c.args.program.now) c.requires valid c.in_ok-instructions.instructions.items is

pub returns-in-Ok : goal.returns-in-Ok
returns-in-Ok c =
    let valid = subst AreModules c.deref-modules.ensures.value c.are_modules.ensures in
    let base = c.args.program.now.linked.code_base in
    let is = c.in_ok-instructions.ensures
    ∙ (ap (λ (bytes : List ℕ). read_from (base + length bytes) (forms_of c.deref-modules.result.now) bytes) c.deref.ensures.value
    ∙ ap (λ (modules : List Parts). read_from (base + length c.args.program.now.linked.code.items) (forms_of modules)
    c.args.program.now.linked.code.items) c.deref-modules.ensures.value) in
    code-made (program_of c.args.program.now) c.requires valid c.in_ok-instructions.instructions.items is c.of.result
    (ap (λ (code : CodeState). code.base) c.of.ensures) (ap (λ (code : CodeState). code.bytes) c.of.ensures ∙ c.in-Ok.ensures)
    (ap (λ (code : CodeState). code.instructions) c.of.ensures)
