-- Paths of links from the root: of the shortest that lead to a processor the least one.
use Rattle.std.specs.Prelude.{◌≡◌, ℕ, ◌<◌, ◌⊎◌, List, [], ◌∷◌, length, slice_index_or}
use Rattle.tn_net.specs.declared.networks.Far.TheVariants.{Link}
use Rattle.tn_net.specs.Networks.{NetworkState, far_at}

-- the links lead from processor p to processor q
abbrev pub Leads : NetworkState → ℕ → List ℕ → ℕ → Type 0
Leads n p [] q = p ≡ q
Leads n p (l ∷ ls) q = (r : ℕ) × (m : ℕ) × (l < 4) × (far_at n p l ≡ Link r m) × Leads n r ls q

-- the first of two lists of one length has the lower link where they first differ
abbrev pub ComesBefore : List ℕ → List ℕ → Type 0
ComesBefore [] ks = ⊥
ComesBefore (l ∷ ls) [] = ⊥
ComesBefore (l ∷ ls) (k ∷ ks) = (l < k) ⊎ ((l ≡ k) × ComesBefore ls ks)

-- a list is shorter than another, or as long and before it
abbrev pub IsLess : List ℕ → List ℕ → Type 0
IsLess ls ks = (length ls < length ks) ⊎ ((length ls ≡ length ks) × ComesBefore ls ks)

-- the path of a processor is the least among the shortest lists that lead to it from the root
pub record IsPath (n : NetworkState) (path : List ℕ) (p : ℕ) : Type 0 where
  pub leads : Leads n n.root path p
  pub least : (other : List ℕ) → Leads n n.root other p → IsLess path other ⊎ (path ≡ other)

-- the path at a place
abbrev pub path_at : List (List ℕ) → ℕ → List ℕ
path_at paths k = slice_index_or paths k []
