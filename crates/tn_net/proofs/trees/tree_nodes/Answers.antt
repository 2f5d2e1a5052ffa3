use Rattle.std.proofs.Common.{length, sym, subst}
use Rattle.tn_net.specs.Networks.{NetworkState}
use Rattle.tn_net.specs.Inner.Walks.{AreReached}
use Rattle.tn_net.specs.Trees.{IsLoadTree}
use Rattle.tn_net.specs.Inner.Loads.{AreThere, IsInLoadOrder, AreParents, AreNodes}
use Rattle.tn_net.proofs.Growing.{ok_more, tree_made}
use Rattle.tn_net.proofs.trees.tree_nodes.Goals as goal

pub returns-clause-tree : goal.returns-clause-tree
returns-clause-tree c =
    ok_more c.nodes.result (λ nodes. AreNodes c.args.order.now c.deref-2.result.now c.deref-3.result.now nodes.items
    (length c.deref-2.result.now)) (λ nodes. (n : NetworkState) → AreReached n c.args.order.now → AreThere n c.args.order.now
    → IsLoadTree n nodes.items) c.nodes.ensures
    (λ nodes made n reached there. tree_made n c.args.order.now c.deref-2.result.now c.deref-3.result.now nodes.items reached there loaded
    parents made)
  where
    loaded : IsInLoadOrder c.args.order.now c.deref-2.result.now (length c.args.order.now)
    loaded =
        subst (λ load. IsInLoadOrder c.args.order.now load (length c.args.order.now)) (sym c.deref-2.ensures.value) c.in_ok-load.ensures

    parents : AreParents c.args.order.now c.deref-2.result.now c.deref-3.result.now (length c.deref-2.result.now)
    parents =
        subst (λ parents. AreParents c.args.order.now c.deref-2.result.now parents (length c.deref-2.result.now))
        (sym c.deref-3.ensures.value)
        (subst (λ load. AreParents c.args.order.now load c.in_ok-parents.parents.items (length load)) (sym c.deref-2.ensures.value)
        (subst (λ load. AreParents c.args.order.now load c.in_ok-parents.parents.items
        (length load)) c.deref.ensures.value c.in_ok-parents.ensures))
