use Rattle.std.proofs.Common.{◌≡◌, ◌*◌, ◌^◌, ◌≤◌, take}
use Rattle.std.specs.Prelude.{sum_by, slice_index_or}
use Rattle.tn_stream.specs.Lengths.{steps_to}
use Rattle.tn_stream.specs.Inner.LowLengths.{no_lengths}
use Rattle.tn_stream.proofs.counts.forwards_steps.Given as goal

-- the steps of the FORWARDs so far
abbrev pub invariant-loop-child : goal.invariant-loop-child
invariant-loop-child l =
    (l.steps ≡ sum_by (λ c. steps_to (slice_index_or l.fn.table c no_lengths)) (take l.child-index l.fn.children))
    × (l.steps ≤ l.child-index * 2 ^ 30)
