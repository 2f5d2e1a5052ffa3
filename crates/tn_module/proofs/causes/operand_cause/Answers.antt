use Rattle.std.proofs.Common.{[], ◌∷◌, not, ap, sym, ◌∙◌}
use Rattle.tn_text.specs.Firsts.{first_cause}
use Rattle.tn_module.specs.Faults.{operand_causes}
use Rattle.tn_module.specs.Names.{takes}
use Rattle.tn_module.specs.Inner.Sets.{known_by}
use Rattle.tn_module.proofs.causes.operand_cause.Goals as goal

pub returns-in-To-clause-cause : goal.returns-in-To-clause-cause
returns-in-To-clause-cause c =
    c.first_cause-in-To.ensures
    ∙ (λ j. first_cause (c.undefined.ensures.test j ∷ (not ((c.takes.ensures ∙ ap (takes c.args.fun) c.in-To.is) j), c.bare.ensures j)
    ∷ c.no_code.ensures j ∷ []))
    ∙ ap (λ o. first_cause (operand_causes (known_by c.args.names.now) c.args.fun o)) (sym c.in-To.is)
