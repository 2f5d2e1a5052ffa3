use Rattle.std.proofs.Common.{◌-◌}
use Rattle.tn_replay.specs.Inner.Settling.{SettlesSoFar}
use Rattle.tn_replay.proofs.steps.settle_beside.Given as goal

-- so many picks were made
abbrev pub invariant-loop-made : goal.invariant-loop-made
invariant-loop-made l = SettlesSoFar l.most l.back l.fn.net l.net l.fn.symbolic l.symbolic l.made

abbrev pub decreases-loop-made : goal.decreases-loop-made
decreases-loop-made l = l.most - l.made
