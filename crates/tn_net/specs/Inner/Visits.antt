-- Going on from processor to processor.
use Rattle.std.specs.Prelude.{◌≡◌, ℕ, ◌+◌, ◌*◌, ◌<◌, ◌≤◌, ◌⊎◌, List, [], ◌∷◌, length, map, nat_eq}
use Rattle.std.specs.List.{IsDistinct}
use Rattle.tn_net.specs.declared.networks.Far.TheVariants.{Link}
use Rattle.tn_net.specs.declared.paths.Reached.{Reached}
use Rattle.tn_net.specs.Networks.{NetworkState, far_at}
use Rattle.tn_net.specs.Paths.{Leads, path_at}
use Rattle.tn_net.specs.Inner.Walks.{step_at, Extends}

-- The rank of a list of links below 4 behind a list of this rank: shorter lists have lower ranks, and
-- among lists of one length those that come before.
abbrev pub rank_from : ℕ → List ℕ → ℕ
rank_from c [] = c
rank_from c (l ∷ ls) = rank_from (4 * c + l) ls

-- the rank of the path at a place
abbrev pub rank_at : List (List ℕ) → ℕ → ℕ
rank_at paths k = rank_from 1 (path_at paths k)

-- a path to the processor was found, of at most this rank
pub record IsFound (order : List Reached) (paths : List (List ℕ)) (rank q : ℕ) : Type 0 where
  pub place : ℕ
  pub here : place < length order
  pub is : (step_at order place).processor ≡ q
  pub soon : rank_at paths place ≤ rank

-- All links of the processors before the place i, and those below l of the one there, were followed.
pub record IsVisited (n : NetworkState) (order : List Reached) (i l : ℕ) : Type 0 where
  pub paths : List (List ℕ)
  pub room : length paths ≡ length order
  pub distinct : IsDistinct nat_eq (map (λ reached. reached.processor) order)
  pub processors : (k : ℕ) → k < length order → (step_at order k).processor < length n.sizes
  pub leads : (k : ℕ) → k < length order → Leads n n.root (path_at paths k) (step_at order k).processor
  pub rising : (j k : ℕ) → j < k → k < length order → rank_at paths j < rank_at paths k
  pub below : i < length order → (k : ℕ) → k < length order → rank_at paths k < 4 * rank_at paths i + l
  pub done : (j m q b : ℕ) → j < length order → m < 4 → (j < i) ⊎ ((j ≡ i) × (m < l)) → far_at n (step_at order j).processor m ≡ Link q b
      → IsFound order paths (4 * rank_at paths j + m) q
  pub root : 0 < length order
  pub begins : path_at paths 0 ≡ []
  pub first : (step_at order 0).processor ≡ n.root
  pub boot : (step_at order 0).boot_link ≡ n.root_link
  pub no_link : (step_at order 0).parent_link ≡ 0
  pub extends : (k : ℕ) → 0 < k → k < length order → Extends n order paths k (step_at order k)
