use Rattle.std.specs.Prelude.{IfErr}
use Rattle.std.proofs.lemmas.Result.{on_ok_weaker, IfErr-weaker}
use Rattle.tn_text.proofs.Results.{of-error}
use Rattle.tn_symbols.specs.declared.choices.ChooseFault.{ChooseFault}
use Rattle.tn_symbols.specs.Faults.{ImportAt, fault_at, IfFault, IsFirstFault}
use Rattle.tn_symbols.specs.Inner.Searches.{IsFirstIn}
use Rattle.tn_symbols.proofs.FirstFaults.{first-export, first-import, all-sound, all-defined, if-fault}
use Rattle.tn_symbols.proofs.faults.check.Goals as goal

pub returns-in_err-definitions-clause-fault : goal.returns-in_err-definitions-clause-fault
returns-in_err-definitions-clause-fault c =
    of-error (λ r. IfErr r (λ (f : ChooseFault). IfFault f (IsFirstFault c.args.modules.now))) c.from_residual.result
    c.in_err-definitions.field-0.0 c.from_residual.ensures.1
    (if-fault c.in_err-definitions.field-0.0 (first-export c.args.modules.now) c.in_err-definitions.ensures.fault)

pub returns-clause-sound : goal.returns-clause-sound
returns-clause-sound c =
    on_ok_weaker c.check_imports.result (all-sound c.args.modules.now c.in_ok-definitions.ensures.sound) c.check_imports.ensures.sound

pub returns-clause-defined : goal.returns-clause-defined
returns-clause-defined c = on_ok_weaker c.check_imports.result (all-defined c.args.modules.now) c.check_imports.ensures.sound

pub returns-clause-fault : goal.returns-clause-fault
returns-clause-fault c =
    IfErr-weaker c.check_imports.result (λ (f : ChooseFault). IfFault f (IsFirstIn (λ m i. fault_at c.args.modules.now (ImportAt m i))))
    (λ (f : ChooseFault). IfFault f (IsFirstFault c.args.modules.now))
    (λ f h. if-fault f (first-import c.args.modules.now c.in_ok-definitions.ensures.sound) h) c.check_imports.ensures.fault
