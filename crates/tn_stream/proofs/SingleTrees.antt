-- The load tree of one processor is whole, and its branch is that processor alone.
use Rattle.std.proofs.Common.{◌≡◌, ℕ, zero, suc, ◌<◌, List, [], ◌∷◌, None, refl, arith}
use Rattle.tn_net.specs.Trees.{LoadNode, node_at, children_below}
use Rattle.tn_net.specs.WholeTrees.{IsPlaced, IsWholeTree}
use Rattle.tn_stream.specs.Images.{ImageBytes}
use Rattle.tn_stream.specs.Streams.{one_processor}
use Rattle.tn_stream.specs.LoadBranches.{hung, branches_from, whole_branch}

-- the one node of the tree, which boots by link k
abbrev pub single_node : ℕ → LoadNode
single_node k = record { processor = 0; parent = None; parent_link = 0; boot_link = k; children = [] }

pub single-branch : (k : ℕ) (image : ImageBytes) → whole_branch (image ∷ []) (single_node k ∷ []) ≡ one_processor k image
unfolding branches_from hung
single-branch k image = refl

pub single-whole : (k : ℕ) → k < 4 → IsWholeTree (single_node k ∷ []) 1
single-whole k low =
    record {
      some = omega arith;
      few = omega arith;
      top = refl;
      no_link = refl;
      below = λ j h g. absurd (omega arith);
      children = λ j h. at j h;
      rising = λ i j p h g _ _. absurd (omega arith);
      placed = λ j h. place j h;
      distinct = λ i j h g. absurd (omega arith);
    }
  where
    at : (j : ℕ) → j < 1 → (node_at (single_node k ∷ []) j).children
        ≡ children_below (λ c. (node_at (single_node k ∷ []) c).parent) j 1
    at zero h = refl
    at (suc j) h = absurd (omega arith)

    place : (j : ℕ) → j < 1 → IsPlaced (node_at (single_node k ∷ []) j) 1
    place zero h = record { processor = omega arith; parent_link = omega arith; boot_link = low }
    place (suc j) h = absurd (omega arith)
