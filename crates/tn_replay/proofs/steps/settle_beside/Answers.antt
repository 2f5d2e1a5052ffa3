use Rattle.std.proofs.Common.{◌∙◌, sym, arith}
use Rattle.tn_replay.proofs.Settling.{so_none, so_more, over_made, over_net, over_goes, over_none, over_most, none_rests, told_rests}
use Rattle.tn_replay.proofs.steps.settle_beside.Goals as goal

pub loop-made-init : goal.loop-made-init
loop-made-init c = so_none c.args.most c.args.back c.args.net.now c.args.symbolic.now

pub loop-made-preserved : goal.loop-made-preserved
loop-made-preserved c =
    so_more c.args.most c.args.back c.args.net.now c.args.symbolic.now c.loop-made.net c.pick_beside-enabled.new.net c.loop-made.symbolic
    c.pick_beside-enabled.new.symbolic c.loop-made.made c.in-Some.pick c.pick_beside-enabled.result c.loop-made.invariant
    c.loop-made-test.true (sym c.in-Some.is ∙ c.first.ensures) c.pick_beside-enabled.ensures.enabled c.pick_beside-enabled.ensures.net
    c.pick_beside-enabled.ensures.symbolic

pub returns-in_default-clause-made : goal.returns-in_default-clause-made
returns-in_default-clause-made c =
    c.from.ensures
    ∙ over_made c.args.most c.args.back c.args.net.now c.args.symbolic.now c.loop-made.net c.loop-made.symbolic c.loop-made.made
    c.loop-made.invariant
    (over_none c.args.most c.args.back c.loop-made.net c.loop-made.made (sym c.in_default.is ∙ c.first.ensures))

pub returns-in_default-clause-net : goal.returns-in_default-clause-net
returns-in_default-clause-net c =
    over_net c.args.most c.args.back c.args.net.now c.args.symbolic.now c.loop-made.net c.loop-made.symbolic c.loop-made.made
    c.loop-made.invariant
    (over_none c.args.most c.args.back c.loop-made.net c.loop-made.made (sym c.in_default.is ∙ c.first.ensures))

pub returns-in_default-clause-symbolic : goal.returns-in_default-clause-symbolic
returns-in_default-clause-symbolic c =
    over_goes c.args.most c.args.back c.args.net.now c.args.symbolic.now c.loop-made.net c.loop-made.symbolic c.loop-made.made
    c.loop-made.invariant
    (over_none c.args.most c.args.back c.loop-made.net c.loop-made.made (sym c.in_default.is ∙ c.first.ensures))

pub returns-in_default-clause-rests : goal.returns-in_default-clause-rests
returns-in_default-clause-rests c = none_rests c.args.back c.loop-made.net (sym c.in_default.is ∙ c.first.ensures)

pub returns-clause-made : goal.returns-clause-made
returns-clause-made c =
    c.from-2.ensures
    ∙ over_made c.args.most c.args.back c.args.net.now c.args.symbolic.now c.loop-made.net c.loop-made.symbolic c.loop-made.made
    c.loop-made.invariant
    (over_most c.args.most c.args.back c.loop-made.net c.loop-made.made (omega (arith, c.loop-made-test.false)))

pub returns-clause-net : goal.returns-clause-net
returns-clause-net c =
    over_net c.args.most c.args.back c.args.net.now c.args.symbolic.now c.loop-made.net c.loop-made.symbolic c.loop-made.made
    c.loop-made.invariant
    (over_most c.args.most c.args.back c.loop-made.net c.loop-made.made (omega (arith, c.loop-made-test.false)))

pub returns-clause-symbolic : goal.returns-clause-symbolic
returns-clause-symbolic c =
    over_goes c.args.most c.args.back c.args.net.now c.args.symbolic.now c.loop-made.net c.loop-made.symbolic c.loop-made.made
    c.loop-made.invariant
    (over_most c.args.most c.args.back c.loop-made.net c.loop-made.made (omega (arith, c.loop-made-test.false)))

pub returns-clause-rests : goal.returns-clause-rests
returns-clause-rests c = told_rests c.loop-made.net c.at_rest.result c.at_rest.ensures
