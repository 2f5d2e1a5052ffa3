use Rattle.std.proofs.Common.{◌≡◌, ◌*◌, ◌^◌, ◌≤◌, take}
use Rattle.std.specs.Prelude.{sum_by}
use Rattle.std.specs.List.{enumerate_from}
use Rattle.tn_stream.specs.Images.{images_of}
use Rattle.tn_stream.specs.Lengths.{node_steps}
use Rattle.tn_stream.proofs.counts.steps.Given as goal

-- the steps of the nodes so far
abbrev pub invariant-loop-k : goal.invariant-loop-k
invariant-loop-k l =
    (l.steps ≡ sum_by (λ x. node_steps (images_of l.fn.images) l.fn.tree.nodes.items x.0 x.1)
    (enumerate_from 0 (take l.k l.fn.tree.nodes.items)))
    × (l.steps ≤ l.k * 2 ^ 40)
