use Rattle.std.proofs.Common.{sym}
use Rattle.tn_replay.proofs.LineLaws.{pick_done, pick_refused}
use Rattle.tn_replay.proofs.replay_lines.do_pick.Goals as goal

pub returns-in-Ok-clause-ends : goal.returns-in-Ok-clause-ends
returns-in-Ok-clause-ends c =
    λ k text. pick_done k c.args.pick c.args.net.now c.pick_beside.new.net c.args.symbolic.now c.pick_beside.new.symbolic c.args.steps text
    (sym c.in-Ok.ensures.enabled) c.in-Ok.ensures.net c.in-Ok.ensures.symbolic

pub returns-in-Err-clause-ends : goal.returns-in-Err-clause-ends
returns-in-Err-clause-ends c =
    λ k text. pick_refused k c.args.pick c.args.net.now c.pick_beside.new.net c.args.symbolic.now c.pick_beside.new.symbolic c.args.steps
    (sym c.in-Err.ensures.enabled) c.in-Err.ensures.refused
