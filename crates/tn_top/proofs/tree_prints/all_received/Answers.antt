use Rattle.tn_stream.specs.Images.{images_of}
use Rattle.tn_stream.specs.LoadBranches.{branch_at}
use Rattle.tn_stream.specs.Lengths.{bytes_received}
use Rattle.tn_top.proofs.TreeTexts.{counts-more}
use Rattle.tn_top.proofs.tree_prints.all_received.Goals as goal

pub loop-k-preserved : goal.loop-k-preserved
loop-k-preserved c =
    counts-more (λ k. bytes_received (branch_at (images_of c.args.images.now) c.args.tree.now.nodes.items k)) c.loop-k.k
    c.loop-k.counts.items c.push.new.self.items c.received.result c.loop-k.invariant c.in_ok-push.ensures.items c.received.ensures
