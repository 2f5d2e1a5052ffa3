-- Whole trees: what holds of the nodes of each load tree, whatever network they are of.
use Rattle.std.specs.Prelude.{◌≡◌, ◌≢◌, ℕ, ◌<◌, ◌≤◌, List, length, Some, None}
use Rattle.tn_text.specs.declared.limits.TheConstants.{PROCESSOR_LIMIT}
use Rattle.tn_net.specs.Trees.{LoadNode, node_at, children_below}

-- the node at the place k has a parent, which stands before it; and between the two stand only nodes
-- that are below that parent
pub record IsBelow (nodes : List LoadNode) (k : ℕ) : Type 0 where
  pub parent : ℕ
  pub is : (node_at nodes k).parent ≡ Some parent
  pub before : parent < k
  pub between : (j q : ℕ) → parent < j → j < k → (node_at nodes j).parent ≡ Some q → parent ≤ q

-- the links and the processor of a node
pub record IsPlaced (node : LoadNode) (count : ℕ) : Type 0 where
  pub processor : node.processor < count
  pub parent_link : node.parent_link < 4
  pub boot_link : node.boot_link < 4

-- The nodes of a whole tree of processors below the count, at least one and at most as many as a
-- configuration may have. The first alone has no parent, and has 0 for the link of one; the others
-- stand below their parents, in load order; the children of each are the nodes whose parent it is, in
-- rising order of its links to them; and no processor is that of two nodes.
pub record IsWholeTree (nodes : List LoadNode) (count : ℕ) : Type 0 where
  pub some : 1 ≤ length nodes
  pub few : length nodes ≤ PROCESSOR_LIMIT
  pub top : (node_at nodes 0).parent ≡ None
  pub no_link : (node_at nodes 0).parent_link ≡ 0
  pub below : (k : ℕ) → 0 < k → k < length nodes → IsBelow nodes k
  pub children : (k : ℕ) → k < length nodes → (node_at nodes k).children ≡ children_below (λ c. (node_at nodes c).parent) k (length nodes)
  pub rising : (j k p : ℕ) → j < k → k < length nodes → (node_at nodes j).parent ≡ Some p → (node_at nodes k).parent ≡ Some p
      → (node_at nodes j).parent_link < (node_at nodes k).parent_link
  pub placed : (k : ℕ) → k < length nodes → IsPlaced (node_at nodes k) count
  pub distinct : (j k : ℕ) → j < k → k < length nodes → (node_at nodes j).processor ≢ (node_at nodes k).processor
