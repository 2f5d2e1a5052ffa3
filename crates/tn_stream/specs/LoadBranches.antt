-- The branches of processors of a load tree: its list of nodes, made a tree by plain recursion.
use Rattle.std.specs.Prelude.{ℕ, ◌+◌, ◌-◌, List, [], ◌∷◌, map, slice_index_or}
use Rattle.tn_net.specs.Trees.{LoadNode}
use Rattle.tn_stream.specs.Images.{ImageBytes}
use Rattle.tn_stream.specs.Branches.{Children, Branch}
use Rattle.tn_stream.specs.Branches.Children.{none, child}
use Rattle.tn_stream.specs.Streams.{Site, one_processor}

-- what stands where no image does, and where no branch does
abbrev pub no_image : ImageBytes
no_image = record { segments = []; entry = 0; wptr = 0 }

abbrev pub no_branch : ℕ × Branch Site
no_branch = (0, one_processor 0 no_image)

-- the processor of a node, with the link that it boots by and its image
abbrev pub site_of : List ImageBytes → LoadNode → Site
site_of images node = record { boot = node.boot_link; image = slice_index_or images node.processor no_image }

-- branches as children, each behind the link that leads to it
unfoldable pub hung : List (ℕ × Branch Site) → Children Site
hung [] = none
hung (x ∷ xs) = child x.0 x.1.root x.1.below (hung xs)

-- The branches of the nodes from place k on, each with the link that leads to it. Children stand behind
-- their parent, so the branch of a node is made of branches behind it.
unfoldable pub branches_from : List ImageBytes → ℕ → List LoadNode → List (ℕ × Branch Site)
branches_from images k [] = []
branches_from images k (node ∷ nodes) =
    let behind : List (ℕ × Branch Site) = branches_from images (k + 1) nodes in (
      node.parent_link,
      record {
        root = site_of images node;
        below = hung (map (λ c. slice_index_or behind (c - (k + 1)) no_branch) node.children);
      },
    ) ∷ behind

-- the branches of all nodes, in load order, and that of the node at a place
abbrev pub branches : List ImageBytes → List LoadNode → List (ℕ × Branch Site)
branches images nodes = branches_from images 0 nodes

abbrev pub branch_at : List ImageBytes → List LoadNode → ℕ → Branch Site
branch_at images nodes k = (slice_index_or (branches images nodes) k no_branch).1

-- the branch of all processors
abbrev pub whole_branch : List ImageBytes → List LoadNode → Branch Site
whole_branch images nodes = branch_at images nodes 0
