use Rattle.std.proofs.Common.{ℕ, ◌<◌, [], length, None, arith}
use Rattle.tn_net.specs.Trees.{LoadNode}
use Rattle.tn_stream.specs.Images.{images_of}
use Rattle.tn_stream.specs.Lengths.{node_steps}
use Rattle.tn_stream.proofs.CountLaws.{numbered-more, sum-step}
use Rattle.tn_stream.proofs.counts.steps.Goals as goal

pub loop-k-preserved : goal.loop-k-preserved
loop-k-preserved c =
    let inside : c.loop-k.k < length c.args.tree.now.nodes.items = omega arith in (
      sum-step _ _ _ _ _ c.loop-k.invariant.0 c.node_steps-steps.ensures.value
          (numbered-more (λ (x : ℕ × LoadNode). node_steps (images_of c.args.images.now) c.args.tree.now.nodes.items x.0 x.1)
          c.args.tree.now.nodes.items c.loop-k.k
          (record { processor = 0; parent = None; parent_link = 0; boot_link = 0; children = [] }) inside),
      omega (arith, c.loop-k.invariant.1, c.node_steps-steps.ensures.bound),
    )
