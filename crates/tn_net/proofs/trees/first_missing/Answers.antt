use Rattle.std.proofs.Common.{sym, ◌∙◌}
use Rattle.tn_net.proofs.Growing.{there_more, not_there}
use Rattle.tn_net.proofs.trees.first_missing.Goals as goal

pub loop-p-preserved : goal.loop-p-preserved
loop-p-preserved c = there_more c.args.order.now c.loop-p.p c.loop-p.invariant (sym c.is_reached.ensures ∙ c.if-not-is_reached.false)

pub returns-then-not-is_reached : goal.returns-then-not-is_reached
returns-then-not-is_reached c =
    (c.loop-p-test.true, not_there c.loop-p.p c.args.order.now (sym c.is_reached.ensures ∙ c.if-not-is_reached.true), c.loop-p.invariant)
