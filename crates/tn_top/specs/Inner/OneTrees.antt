-- The load tree of a processor alone.
use Rattle.std.specs.Prelude.{◌≡◌, ℕ, [], ◌∷◌}
use Rattle.tn_net.specs.declared.trees.Tree.{Tree}
use Rattle.tn_stream.proofs.SingleTrees.{single_node}

abbrev pub IsOneTree : ℕ → Tree → Type 0
IsOneTree link tree = tree.nodes.items ≡ single_node link ∷ []
