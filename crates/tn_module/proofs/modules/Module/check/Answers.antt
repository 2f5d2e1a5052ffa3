use Rattle.tn_text.proofs.Results.{of-error}
use Rattle.tn_module.specs.Modules.{module_of}
use Rattle.tn_module.specs.Faults.{OnFault}
use Rattle.tn_module.specs.Validity.{IsValid}
use Rattle.tn_module.proofs.Order.{if-fault}
use Rattle.tn_module.proofs.Laws.{valid_from_sound, invalid_at_fault}
use Rattle.tn_module.proofs.modules.Module.check.Goals as goal

pub returns-in_err-check_places-clause-accepted : goal.returns-in_err-check_places-clause-accepted
returns-in_err-check_places-clause-accepted c =
    of-error (λ r. OnFault r (λ _. IsValid (module_of c.args.raw)
    → ⊥)) c.from_residual.result c.in_err-check_places.field-0.0 c.from_residual.ensures.1
    (if-fault c.in_err-check_places.field-0.0 (invalid_at_fault (module_of c.args.raw)) c.in_err-check_places.ensures.fault)

pub invariant_of-result : goal.invariant_of-result
invariant_of-result c = (valid_from_sound (module_of c.args.raw) c.in_ok-check_places.ensures.sound, c.in_ok-check_places.ensures.ranges)

pub returns-clause-valid : goal.returns-clause-valid
returns-clause-valid c = valid_from_sound (module_of c.args.raw) c.in_ok-check_places.ensures.sound
