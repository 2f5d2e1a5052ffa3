use Rattle.std.proofs.Common.{◌≡◌, ◌+◌, length, All}
use Rattle.tn_schedule.specs.Schedules.{IsPlaced}
use Rattle.tn_replay.specs.Replays.{beginning}
use Rattle.tn_replay.specs.Inner.LineEnds.{state_of}
use Rattle.tn_replay.specs.Inner.Lookups.{known_in}
use Rattle.tn_replay.specs.Inner.SoFar.{SoFar}
use Rattle.tn_replay.proofs.replays.do_lines.Given as goal

-- the lines so far were done, and the acts of the others that print are of processors
abbrev pub invariant-loop-line : goal.invariant-loop-line
invariant-loop-line g l =
    SoFar (known_in l.lookup) l.schedule.lines.items (beginning l.fn.net) (state_of l.net l.symbolic l.steps) l.rest l.index
    (g.O.Out.printed l.fn.out) (g.O.Out.printed l.out) × All (λ line. IsPlaced (length l.lookup.names.now) line.act) l.rest
    × (l.index + length l.rest ≡ length l.schedule.lines.items) × g.O.Out.goes_on l.fn.out l.out

abbrev pub decreases-loop-line : goal.decreases-loop-line
decreases-loop-line g l = length l.rest
