use Rattle.std.proofs.Common.{◌≡◌, sym, subst, arith}
use Rattle.tn_net.specs.Inner.Walks.{AreReached}
use Rattle.tn_net.specs.Trees.{IsFirstUnreachable}
use Rattle.tn_net.specs.Inner.Loads.{ArePaths, AreThere}
use Rattle.tn_net.proofs.Growing.{are_paths, tree_whole, unreachable}
use Rattle.tn_net.proofs.Whole.{load_tree_whole}
use Rattle.tn_net.proofs.trees.load_tree.Goals as goal

pub returns-in-Some-clause-unreachable : goal.returns-in-Some-clause-unreachable
returns-in-Some-clause-unreachable c =
    λ p e. let same : c.in-Some.p ≡ p = cc in subst (λ x. IsFirstUnreachable c.args.network.now x) same first
  where
    first : IsFirstUnreachable c.args.network.now c.in-Some.p
    first =
        unreachable c.args.network.now c.deref.result.now c.in-Some.p
        (subst (λ order. AreReached c.args.network.now order) (sym c.deref.ensures.value) c.in_ok-order.ensures.reached)
        (omega (arith, c.in-Some.ensures.0, c.count.ensures.value)) c.in-Some.ensures.1 c.in-Some.ensures.2

pub tree_nodes-requires-clause-paths : goal.tree_nodes-requires-clause-paths
tree_nodes-requires-clause-paths c = (
  c.in_ok-order.ensures.reached.paths,
  subst (λ order. ArePaths order c.in_ok-order.ensures.reached.paths)
      (sym c.deref-2.ensures.value) (are_paths c.args.network.now c.in_ok-order.order.items c.in_ok-order.ensures.reached),
)

pub returns-clause-tree : goal.returns-clause-tree
returns-clause-tree c =
    c.in_ok-tree_nodes.ensures.tree c.args.network.now
    (subst (λ order. AreReached c.args.network.now order) (sym c.deref-2.ensures.value) c.in_ok-order.ensures.reached) there
  where
    there : AreThere c.args.network.now c.deref-2.result.now
    there =
        subst (λ order. AreThere c.args.network.now order) (sym c.deref-2.ensures.value)
        (subst (λ order. AreThere c.args.network.now order) c.deref.ensures.value
        (λ q h. c.in_default.ensures q (omega (arith, h, c.count.ensures.value))))

pub returns-clause-reachable : goal.returns-clause-reachable
returns-clause-reachable c = tree_whole c.args.network.now c.in_ok-tree_nodes.field-0.items (returns-clause-tree c)

pub returns-clause-whole : goal.returns-clause-whole
returns-clause-whole c =
    load_tree_whole c.args.network.now c.count.ensures.pairing c.in_ok-tree_nodes.field-0.items c.in_ok-tree_nodes.ensures.few
    (returns-clause-tree c)
