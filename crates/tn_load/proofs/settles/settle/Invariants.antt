use Rattle.std.proofs.Common.{◌-◌}
use Rattle.tn_load.proofs.SettleLaws.{IsGoing}
use Rattle.tn_load.proofs.settles.settle.Given as goal

abbrev pub invariant-loop-steps : goal.invariant-loop-steps
invariant-loop-steps g l = IsGoing g.W.Walk.AtRest (g.W.Walk.next l.back) l.most l.fn.net l.net l.steps

abbrev pub decreases-loop-steps : goal.decreases-loop-steps
decreases-loop-steps g l = l.most - l.steps
