-- Load trees: the processors in load order, each with its parent and its children.
use Rattle.std.specs.Prelude.{◌≡◌, ⊤, ℕ, zero, suc, ◌<◌, ◌⊎◌, ◌++◌, Bool, false, List, [], ◌∷◌, length, slice_index_or, Option, Some, None}
use Rattle.std.specs.Prelude.{nat_eq, if◌then◌else◌}
use Rattle.tn_net.specs.declared.networks.Far.TheVariants.{Link}
use Rattle.tn_net.specs.Networks.{NetworkState, far_at}
use Rattle.tn_net.specs.Paths.{Leads, IsPath, path_at}

-- A node: its processor, the place of its parent, the parent's link that leads to it, its own link at
-- that wire, and the places of its children.
pub record LoadNode : Type 0 where
  pub processor : ℕ
  pub parent : Option ℕ
  pub parent_link : ℕ
  pub boot_link : ℕ
  pub children : List ℕ

-- the node at a place
abbrev pub node_at : List LoadNode → ℕ → LoadNode
node_at nodes k = slice_index_or nodes k (record { processor = 0; parent = None; parent_link = 0; boot_link = 0; children = [] })

-- the first of two lists precedes the second in a dictionary
abbrev pub PrecedesInDictionary : List ℕ → List ℕ → Type 0
PrecedesInDictionary [] [] = ⊥
PrecedesInDictionary [] (k ∷ ks) = ⊤
PrecedesInDictionary (l ∷ ls) [] = ⊥
PrecedesInDictionary (l ∷ ls) (k ∷ ks) = (l < k) ⊎ ((l ≡ k) × PrecedesInDictionary ls ks)

-- whether the parent is the node at place k
abbrev pub is_parent : Option ℕ → ℕ → Bool
is_parent None k = false
is_parent (Some p) k = nat_eq p k

-- the places below c, rising, whose parent is the node at place k
abbrev pub children_below : (ℕ → Option ℕ) → ℕ → ℕ → List ℕ
children_below parent_at k zero = []
children_below parent_at k (suc c) =
    if is_parent (parent_at c) k then children_below parent_at k c ++ c ∷ [] else children_below parent_at k c

-- the node at the place k hangs by its links below that at the place of its parent
pub record HangsBelow (n : NetworkState) (nodes : List LoadNode) (paths : List (List ℕ)) (k : ℕ) (node : LoadNode) : Type 0 where
  pub place : ℕ
  pub here : place < length nodes
  pub parent : node.parent ≡ Some place
  pub path : path_at paths k ≡ path_at paths place ++ node.parent_link ∷ []
  pub link : node.parent_link < 4
  pub wire : far_at n (node_at nodes place).processor node.parent_link ≡ Link node.processor node.boot_link

-- The nodes are those of all processors, in the order of their paths in a dictionary. The first is
-- the root, which has no parent, has 0 for the link of one, and boots from the host; the parent of
-- each other is the node whose path is its own without the last link.
pub record IsLoadTree (n : NetworkState) (nodes : List LoadNode) : Type 0 where
  pub paths : List (List ℕ)
  pub room : length paths ≡ length nodes
  pub path : (k : ℕ) → k < length nodes → IsPath n (path_at paths k) (node_at nodes k).processor
  pub order : (j k : ℕ) → j < k → k < length nodes → PrecedesInDictionary (path_at paths j) (path_at paths k)
  pub all : (q : ℕ) → q < length n.sizes → (k : ℕ) × (k < length nodes) × ((node_at nodes k).processor ≡ q)
  pub root : 0 < length nodes
  pub top : (node_at nodes 0).parent ≡ None
  pub no_link : (node_at nodes 0).parent_link ≡ 0
  pub boot : (node_at nodes 0).boot_link ≡ n.root_link
  pub below : (k : ℕ) → 0 < k → k < length nodes → HangsBelow n nodes paths k (node_at nodes k)
  pub children : (k : ℕ) → k < length nodes → (node_at nodes k).children ≡ children_below (λ c. (node_at nodes c).parent) k (length nodes)

-- the first processor that no list of links leads to
pub record IsFirstUnreachable (n : NetworkState) (p : ℕ) : Type 0 where
  pub processor : p < length n.sizes
  pub unreachable : (path : List ℕ) → Leads n n.root path p → ⊥
  pub earlier : (q : ℕ) → q < p → (path : List ℕ) × Leads n n.root path q
