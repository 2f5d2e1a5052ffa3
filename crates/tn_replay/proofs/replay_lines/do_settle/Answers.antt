use Rattle.std.proofs.Common.{inr, arith}
use Rattle.tn_replay.proofs.Settling.{settling_few}
use Rattle.tn_replay.proofs.LineLaws.{settle_done, settle_left}
use Rattle.tn_replay.proofs.replay_lines.do_settle.Goals as goal

pub overflow_add-result : goal.overflow_add-result
overflow_add-result c =
    omega (arith, c.requires, c.settle_beside-made.ensures.made, settling_few c.args.back c.args.most c.args.net.now, c.ranges.most.fits)

pub returns-in-Ok-clause-few : goal.returns-in-Ok-clause-few
returns-in-Ok-clause-few c =
    omega (arith, c.settle_beside-made.ensures.made, settling_few c.args.back c.args.most c.args.net.now, c.ranges.most.fits)

pub returns-in-Ok-clause-ends : goal.returns-in-Ok-clause-ends
returns-in-Ok-clause-ends c =
    λ k. settle_done k c.args.most c.args.back c.args.net.now c.settle_beside-made.new.net c.args.symbolic.now
    c.settle_beside-made.new.symbolic c.args.steps c.settle_beside-made.ensures.net c.settle_beside-made.ensures.symbolic
    c.settle_beside-made.result.0 c.settle_beside-made.result.1 c.args.text.now.items c.put_settled.new.out.items
    c.settle_beside-made.ensures.made c.settle_beside-made.ensures.rests c.in-Ok.ensures

pub returns-in-Err-clause-ends : goal.returns-in-Err-clause-ends
returns-in-Err-clause-ends c =
    λ k. inr (settle_left k c.args.most c.args.back c.args.net.now c.settle_beside-made.new.net c.args.symbolic.now
    c.settle_beside-made.new.symbolic c.args.steps c.settle_beside-made.ensures.net c.settle_beside-made.ensures.symbolic)
