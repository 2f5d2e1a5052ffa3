-- Numbers as the leaves of a tree, whose nodes are joined of their two children: node 1 is the root, and
-- nodes 2v and 2v + 1 are the children of node v.
use Rattle.std.specs.Prelude.{◌≡◌, ℕ, zero, suc, ◌+◌, ◌*◌, ◌<◌, List, get_or}

-- the leaves are the nodes from the width on
abbrev pub leaf : List ℕ → ℕ → ℕ → ℕ
leaf nodes width i = get_or nodes (width + i) 0

-- each node above the leaves is joined of its children
abbrev pub IsJoined : (ℕ → ℕ → ℕ) → List ℕ → ℕ → Type 0
IsJoined join nodes width = (v : ℕ) → 0 < v → v < width → get_or nodes v 0 ≡ join (get_or nodes (2 * v) 0) (get_or nodes (2 * v + 1) 0)

-- the sum of so many numbers, from a place on
unfoldable pub sum_from : List ℕ → ℕ → ℕ → ℕ
sum_from xs first zero = 0
sum_from xs first (suc n) = sum_from xs first n + get_or xs (first + n) 0
