use Rattle.std.proofs.Common.{Some, None, ap, sym, ◌∙◌, if◌then◌else◌}
use Rattle.tn_text.specs.declared.faults.FaultCode.TheVariants.{DuplicateName}
use Rattle.tn_module.specs.Faults.{named}
use Rattle.tn_module.proofs.causes.again.Goals as goal

pub returns-then-branch-clause-cause : goal.returns-then-branch-clause-cause
returns-then-branch-clause-cause c =
    ap Some c.named.ensures.cause
    ∙ ap (λ b. if b then Some (named DuplicateName c.args.name.now) else None) (sym c.if-branch.true ∙ c.in_ok-enter.ensures.was)
