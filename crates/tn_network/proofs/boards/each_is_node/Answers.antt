use Rattle.std.proofs.Common.{arith}
use Rattle.tn_node.specs.Nodes.{IsNode}
use Rattle.tn_network.proofs.NodeLists.{each_more, each_all}
use Rattle.tn_network.proofs.boards.each_is_node.Goals as goal

pub loop-node-preserved : goal.loop-node-preserved
loop-node-preserved g c =
    each_more (λ n. IsNode n) c.args.nodes.now c.loop-node.node-index c.node-item.result c.loop-node-test.true c.node-item.is
    c.mode-mode.ensures.node c.loop-node.invariant

pub returns : goal.returns
returns g c = each_all (λ n. IsNode n) c.args.nodes.now (λ p n small at. c.loop-node.invariant p n (omega arith) at)
