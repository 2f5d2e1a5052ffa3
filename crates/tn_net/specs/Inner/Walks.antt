-- The steps of a walk over a network.
use Rattle.std.specs.Prelude.{◌≡◌, ℕ, ◌<◌, ◌++◌, List, [], ◌∷◌, length, slice_index_or}
use Rattle.tn_net.specs.declared.networks.Far.TheVariants.{Link}
use Rattle.tn_net.specs.declared.paths.Reached.{Reached}
use Rattle.tn_net.specs.Networks.{NetworkState, far_at}
use Rattle.tn_net.specs.Paths.{Leads, IsPath, IsLess, path_at}

-- the step at a place
abbrev pub step_at : List Reached → ℕ → Reached
step_at order k = slice_index_or order k (record { processor = 0; parent = 0; parent_link = 0; boot_link = 0 })

-- a wire leads by the step to its processor from the one at an earlier place than k, whose path that
-- at the place k extends
pub record Extends (n : NetworkState) (order : List Reached) (paths : List (List ℕ)) (k : ℕ) (step : Reached) : Type 0 where
  pub before : step.parent < k
  pub link : step.parent_link < 4
  pub wire : far_at n (step_at order step.parent).processor step.parent_link ≡ Link step.processor step.boot_link
  pub path : path_at paths k ≡ path_at paths step.parent ++ step.parent_link ∷ []

-- The processors that a path leads to, each once, in the order of their paths; the first is the root,
-- and the others extend the paths of earlier ones.
pub record AreReached (n : NetworkState) (order : List Reached) : Type 0 where
  pub paths : List (List ℕ)
  pub room : length paths ≡ length order
  pub path : (k : ℕ) → k < length order → IsPath n (path_at paths k) (step_at order k).processor
  pub rising : (j k : ℕ) → j < k → k < length order → IsLess (path_at paths j) (path_at paths k)
  pub all : (q : ℕ) (path : List ℕ) → Leads n n.root path q → (k : ℕ) × (k < length order) × ((step_at order k).processor ≡ q)
  pub root : 0 < length order
  pub boot : (step_at order 0).boot_link ≡ n.root_link
  pub no_link : (step_at order 0).parent_link ≡ 0
  pub extends : (k : ℕ) → 0 < k → k < length order → Extends n order paths k (step_at order k)
