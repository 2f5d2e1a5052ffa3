-- Steps on the way to a load tree.
use Rattle.std.specs.Prelude.{◌≡◌, ℕ, ◌-◌, ◌<◌, ◌≤◌, ◌⊎◌, ◌++◌, List, [], ◌∷◌, length, slice_index_or, Option, None, MatchOption}
use Rattle.tn_net.specs.declared.paths.Reached.{Reached}
use Rattle.tn_net.specs.Networks.{NetworkState}
use Rattle.tn_net.specs.Paths.{IsLess, path_at}
use Rattle.tn_net.specs.Inner.Walks.{step_at}
use Rattle.tn_net.specs.Trees.{LoadNode, PrecedesInDictionary, children_below, node_at}

-- some step is to the processor
abbrev pub IsThere : List Reached → ℕ → Type 0
IsThere order q = (k : ℕ) × (k < length order) × ((step_at order k).processor ≡ q)

-- some step is to each processor of the network
abbrev pub AreThere : NetworkState → List Reached → Type 0
AreThere n order = (q : ℕ) → q < length n.sizes → IsThere order q

-- the paths rise, and each but the first, which is empty, extends that of its parent
pub record ArePaths (order : List Reached) (paths : List (List ℕ)) : Type 0 where
  pub rising : (j k : ℕ) → j < k → k < length order → IsLess (path_at paths j) (path_at paths k)
  pub root : 0 < length order
  pub begins : path_at paths 0 ≡ []
  pub before : (k : ℕ) → 0 < k → k < length order → (step_at order k).parent < k
  pub path : (k : ℕ) → 0 < k → k < length order
      → path_at paths k ≡ path_at paths (step_at order k).parent ++ (step_at order k).parent_link ∷ []

-- the number at a place
abbrev pub place_at : List ℕ → ℕ → ℕ
place_at load t = slice_index_or load t 0

-- these are the numbers below k, with 0 first
pub record HasEachPlace (load : List ℕ) (k : ℕ) : Type 0 where
  pub room : length load ≡ k
  pub places : (t : ℕ) → t < length load → place_at load t < k
  pub all : (j : ℕ) → j < k → (t : ℕ) × (t < length load) × (place_at load t ≡ j)
  pub first : place_at load 0 ≡ 0

-- the paths stand in the order of a dictionary
abbrev pub AreRising : List (List ℕ) → List ℕ → Type 0
AreRising paths load =
    (s t : ℕ) → s < t → t < length load → PrecedesInDictionary (path_at paths (place_at load s)) (path_at paths (place_at load t))

-- the steps below k stand in load order
pub record IsInLoadOrder (order : List Reached) (load : List ℕ) (k : ℕ) : Type 0 where
  pub whole : HasEachPlace load k
  pub rising : (paths : List (List ℕ)) → ArePaths order paths → AreRising paths load

-- the step is the parent or a child of it
abbrev pub IsFamily : List Reached → ℕ → ℕ → Type 0
IsFamily order parent place = (place ≡ parent) ⊎ ((0 < place) × ((step_at order place).parent ≡ parent))

-- the family of a parent ends here
pub record EndsAt (order : List Reached) (load : List ℕ) (parent seen end : ℕ) : Type 0 where
  pub bound : end ≤ seen
  pub last : 0 < end → IsFamily order parent (place_at load (end - 1))
  pub rest : (t : ℕ) → end ≤ t → t < seen → IsFamily order parent (place_at load t) → ⊥

-- where the parent of a step stands; the first has none
abbrev pub IsParentAt : List Reached → List ℕ → ℕ → Option ℕ → Type 0
IsParentAt order load place parent =
    MatchOption parent (place ≡ 0) (λ t. (0 < place) × (t < length load) × (place_at load t ≡ (step_at order place).parent))

-- the parent at a place
abbrev pub parent_at : List (Option ℕ) → ℕ → Option ℕ
parent_at parents k = slice_index_or parents k None

-- where the parents of the first steps stand
pub record AreParents (order : List Reached) (load : List ℕ) (parents : List (Option ℕ)) (count : ℕ) : Type 0 where
  pub room : length parents ≡ count
  pub each : (k : ℕ) → k < count → IsParentAt order load (place_at load k) (parent_at parents k)

-- the node of a step
pub record IsNodeOf (step : Reached) (parents : List (Option ℕ)) (k : ℕ) (node : LoadNode) : Type 0 where
  pub processor : node.processor ≡ step.processor
  pub parent : node.parent ≡ parent_at parents k
  pub parent_link : node.parent_link ≡ step.parent_link
  pub boot_link : node.boot_link ≡ step.boot_link
  pub children : node.children ≡ children_below (λ c. parent_at parents c) k (length parents)

-- the nodes of the first steps
pub record AreNodes (order : List Reached) (load : List ℕ) (parents : List (Option ℕ)) (nodes : List LoadNode) (count : ℕ) : Type 0 where
  pub room : length nodes ≡ count
  pub each : (k : ℕ) → k < count → IsNodeOf (step_at order (place_at load k)) parents k (node_at nodes k)
