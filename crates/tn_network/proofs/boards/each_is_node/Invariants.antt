use Rattle.std.proofs.Common.{◌≡◌, ℕ, ◌<◌, Some}
use Rattle.std.specs.Prelude.{slice_get}
use Rattle.tn_node.specs.Nodes.{NodeState, IsNode}
use Rattle.tn_network.proofs.boards.each_is_node.Given as goal

abbrev pub invariant-loop-node : goal.invariant-loop-node
invariant-loop-node g l = (p : ℕ) (n : NodeState g.row.M.Denot) → p < l.node-index → slice_get l.nodes p ≡ Some n → IsNode n
