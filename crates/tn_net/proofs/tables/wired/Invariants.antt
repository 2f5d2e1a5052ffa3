use Rattle.std.proofs.Common.{ℕ, ◌-◌, ◌^◌, ◌≤◌, ◌<◌, length}
use Rattle.tn_net.specs.Lines.{line_at}
use Rattle.tn_net.specs.Faults.{IsRight}
use Rattle.tn_net.specs.Inner.Tables.{IsTable}
use Rattle.tn_net.proofs.tables.wired.Given as goal

-- the table shows what the lines with lower numbers say, and nothing is wrong with those
abbrev pub invariant-loop-k : goal.invariant-loop-k
invariant-loop-k l =
    IsTable l.names l.lines l.from l.fars.items × ((k : ℕ) → k < length l.lines → (line_at l.lines k).line < l.from
    → IsRight l.names l.lines (line_at l.lines k)) × (l.from ≤ 2 ^ 32)

abbrev pub decreases-loop-k : goal.decreases-loop-k
decreases-loop-k l = 2 ^ 32 - l.from
