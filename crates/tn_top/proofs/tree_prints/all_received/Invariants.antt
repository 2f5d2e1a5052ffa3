use Rattle.std.proofs.Common.{◌≡◌, map}
use Rattle.std.specs.List.{range_with_len}
use Rattle.tn_stream.specs.Images.{images_of}
use Rattle.tn_stream.specs.LoadBranches.{branch_at}
use Rattle.tn_stream.specs.Lengths.{bytes_received}
use Rattle.tn_top.proofs.tree_prints.all_received.Given as goal

-- the nodes so far were counted
abbrev pub invariant-loop-k : goal.invariant-loop-k
invariant-loop-k l =
    l.counts.items ≡ map (λ k. bytes_received (branch_at (images_of l.images) l.tree.nodes.items k)) (range_with_len 0 l.k)
