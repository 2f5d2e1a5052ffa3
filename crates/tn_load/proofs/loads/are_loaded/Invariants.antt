use Rattle.std.proofs.Common.{◌≡◌, ℕ, ◌<◌, List, Some}
use Rattle.std.specs.Prelude.{slice_get}
use Rattle.tn_node.specs.Nodes.{NodeState}
use Rattle.tn_network.specs.Loads.{Target, IsLoadedNode}
use Rattle.tn_stream.specs.Images.{images_of}
use Rattle.tn_load.specs.Targets.{targets_of}
use Rattle.tn_load.proofs.loads.are_loaded.Given as goal

abbrev pub invariant-loop-p : goal.invariant-loop-p
invariant-loop-p l =
    (q : ℕ) (n : NodeState (List ℕ)) (t : Target) → q < l.p → slice_get l.board.state.nodes q ≡ Some n
    → slice_get (targets_of (images_of l.images)) q ≡ Some t → IsLoadedNode (λ m. m) n t
