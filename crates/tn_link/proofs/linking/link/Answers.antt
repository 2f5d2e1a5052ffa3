use Rattle.std.proofs.Common.{List, subst, IfOk, IfErr}
use Rattle.std.proofs.lemmas.Result.{IfOk-weaker}
use Rattle.tn_module.specs.Modules.{Parts}
use Rattle.tn_text.proofs.Results.{of-error}
use Rattle.tn_link.specs.declared.linking.LinkFault.{LinkFault}
use Rattle.tn_link.specs.Linking.{IsLinked, IsLinkFault}
use Rattle.tn_link.specs.PieceLookUps.{AreAdjacent}
use Rattle.tn_link.proofs.Adjacent.{linked-adjacent}
use Rattle.tn_link.proofs.Shortest.{IsShortest, shortest}
use Rattle.tn_link.proofs.linking.link.Goals as goal

pub returns-in_err-check_counts-clause-fault : goal.returns-in_err-check_counts-clause-fault
returns-in_err-check_counts-clause-fault c =
    of-error (λ r. IfErr r (λ (f : LinkFault). IsLinkFault c.args.chosen.now.modules.items c.args.cell_base f)) c.from_residual.result
    c.in_err-check_counts.field-0.0 c.from_residual.ensures.1
    (subst (λ (modules : List Parts). IsLinkFault modules c.args.cell_base c.in_err-check_counts.field-0.0) c.deref-modules.ensures.value
    (c.in_err-check_counts.ensures.fault c.args.cell_base))

pub returns-clause-shortest : goal.returns-clause-shortest
returns-clause-shortest c =
    subst (λ (modules : List Parts). IfOk c.link_modules.result (IsShortest modules c.args.cell_base)) c.deref-modules.ensures.value
    (IfOk-weaker c.link_modules.result (IsLinked c.deref-modules.result.now c.args.code_base c.args.cell_base)
    (IsShortest c.deref-modules.result.now c.args.cell_base)
    (λ linked k. shortest c.deref-modules.result.now c.args.code_base c.args.cell_base linked k) c.link_modules.ensures.linked)

pub returns-clause-adjacent : goal.returns-clause-adjacent
returns-clause-adjacent c =
    IfOk-weaker c.link_modules.result (IsLinked c.deref-modules.result.now c.args.code_base c.args.cell_base)
    (λ linked. AreAdjacent linked.placed.items)
    (λ linked k. linked-adjacent c.deref-modules.result.now c.args.code_base c.args.cell_base linked k) c.link_modules.ensures.linked
