use Rattle.std.proofs.Common.{[], ◌∷◌, not, ◌∙◌}
use Rattle.tn_text.specs.declared.faults.FaultCode.TheVariants.{DuplicateName, NoSuchName, Misaligned}
use Rattle.tn_text.specs.Firsts.{first_cause}
use Rattle.tn_module.specs.Faults.{named}
use Rattle.tn_module.specs.Names.{is_among}
use Rattle.tn_module.proofs.Places.{behind_none}
use Rattle.tn_module.proofs.causes.export_cause.Goals as goal

pub returns-clause-cause : goal.returns-clause-cause
returns-clause-cause c =
    c.first_cause.ensures
    ∙ (λ j. first_cause ((not (c.has.ensures j), c.named.ensures.cause j) ∷ (c.has-2.ensures j, c.named-2.ensures.cause j) ∷ []))
    ∙ behind_none (is_among c.args.seen.now.keys c.args.name.now) (named DuplicateName c.args.name.now) c.in_ok-cause.field-0
    ((not (is_among c.args.names.now.labels.keys c.args.name.now), named NoSuchName c.args.name.now)
    ∷ (is_among c.args.names.now.misaligned.keys c.args.name.now, named Misaligned c.args.name.now) ∷ [])
    c.in_ok-cause.ensures.cause c.in_default.is
