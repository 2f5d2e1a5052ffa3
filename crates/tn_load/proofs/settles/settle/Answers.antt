use Rattle.std.proofs.Common.{◌≡◌, true, false, sym, ◌∙◌}
use Rattle.tn_load.proofs.SettleLaws.{going-first, going-more}
use Rattle.tn_load.proofs.settles.settle.Goals as goal

-- src/settles.rt:11:5
pub loop-steps-init : goal.loop-steps-init
loop-steps-init g c = going-first g.W.Walk.AtRest (g.W.Walk.next c.args.back) c.args.most c.args.net.now

-- src/settles.rt:11:5
pub loop-steps-preserved : goal.loop-steps-preserved
loop-steps-preserved g c =
    going-more g.W.Walk.AtRest (g.W.Walk.next c.args.back) c.args.most c.args.net.now c.loop-steps.net c.walk.new.self c.loop-steps.steps
    c.loop-steps.invariant c.loop-steps-test.true
    (λ rest. let clash : false ≡ true = sym c.if-at_rest.false ∙ c.at_rest.ensures.1 rest in cc)
    c.walk.ensures
