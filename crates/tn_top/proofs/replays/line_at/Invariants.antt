use Rattle.std.proofs.Common.{◌≡◌, [], length}
use Rattle.std.specs.Prelude.{slice_index_or}
use Rattle.std.specs.Str.Lines.{lines}
use Rattle.tn_top.specs.ReplayPlans.{line_at}
use Rattle.tn_top.proofs.replays.line_at.Given as goal

-- the line stands among those that are left
abbrev pub invariant-loop-line : goal.invariant-loop-line
invariant-loop-line l = slice_index_or (lines l.rest) l.left [] ≡ line_at l.text l.number

abbrev pub decreases-loop-line : goal.decreases-loop-line
decreases-loop-line l = length l.rest
