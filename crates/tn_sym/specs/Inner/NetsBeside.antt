-- Networks of nodes of one kind beside networks of nodes of another.
use Rattle.std.specs.Prelude.{◌≡◌, ◌⊎◌, ℕ, Bool, true, false, List, length, slice_get, Some}
use Rattle.tn_net.specs.declared.networks.Far.{Far}
use Rattle.tn_net.specs.declared.networks.Far.TheVariants.{Nothing, Host, Link}
use Rattle.tn_net.specs.Networks.{NetworkState}
use Rattle.tn_node.specs.declared.modes.Made.{Made}
use Rattle.tn_node.specs.declared.modes.Made.TheVariants as made
use Rattle.tn_network.specs.declared.picks.Pick.{Pick}
use Rattle.tn_network.specs.Boards.{BoardState}
use Rattle.tn_network.specs.NodeOps.{NodeOps}
use Rattle.tn_network.specs.Locality.{actor, other_end}

-- a step was a prefix byte
abbrev pub is_prefix : Made → Bool
is_prefix made.Prefix = true
is_prefix made.Whole = false
is_prefix made.Link = false

-- as many nodes of both kinds, and each beside the one at its place
pub record AreBeside {N K : Type 0} (R : ℕ → N → K → Type 0) (nodes : List N) (others : List K) : Type 0 where
  pub count : length nodes ≡ length others
  pub each : (p : ℕ) (x : N) (y : K) → slice_get nodes p ≡ Some x → slice_get others p ≡ Some y → R p x y

-- such boards that are otherwise the same
pub record IsBeside {N K : Type 0} (R : ℕ → N → K → Type 0) (s : BoardState N) (t : BoardState K) : Type 0 where
  pub nodes : AreBeside R s.nodes t.nodes
  pub latches : s.latches ≡ t.latches
  pub host : s.host ≡ t.host

-- What nodes of two kinds need so that a network of the one is beside one of the other after each pick,
-- until a node of the other has stopped. A step of the one that is a prefix byte is none of the other.
pub record NodesFollow {N K : Type 0} (ops : NodeOps N) (others : NodeOps K) (R : ℕ → N → K → Type 0) (IsOver : K → Type 0) : Type 0 where
  pub runs : (p : ℕ) (x : N) (y : K) → R p x y → ops.runs x ≡ others.runs y
  pub wants : (p l : ℕ) (x : N) (y : K) → R p x y → ops.wants l x ≡ others.wants l y
  pub offers : (p l : ℕ) (x : N) (y : K) → R p x y → ops.offers l x ≡ others.offers l y
  pub send : (p l byte : ℕ) (x : N) (y : K) → R p x y → others.offers l y ≡ Some byte → R p (ops.send l x) (others.send l y)
  pub take : (p l byte : ℕ) (x : N) (y : K) → R p x y → IsOver (others.take l byte y) ⊎ R p (ops.take l byte x) (others.take l byte y)
  pub acknowledge : (p l : ℕ) (x : N) (y : K) → R p x y → IsOver (others.acknowledge l y) ⊎ R p (ops.acknowledge l x)
      (others.acknowledge l y)
  pub prefix : (p clock : ℕ) (slice : Bool) (x : N) (y : K) → R p x y → ops.runs x ≡ true → is_prefix (ops.made p slice clock x) ≡ true
      → R p (ops.run p slice clock x) y
  pub whole : (p clock : ℕ) (slice : Bool) (x : N) (y : K) → R p x y → ops.runs x ≡ true → is_prefix (ops.made p slice clock x) ≡ false
      → IsOver (others.run p slice clock y) ⊎ R p (ops.run p slice clock x) (others.run p slice clock y)
  pub acknowledge_over : (l : ℕ) (y : K) → IsOver y → IsOver (others.acknowledge l y)

-- the node of processor p is such
abbrev pub IsAt : {K : Type 0} → (K → Type 0) → List K → ℕ → Type 0
IsAt {K} IsOver nodes p = (y : K) × (slice_get nodes p ≡ Some y) × IsOver y

abbrev pub IsThere : {K : Type 0} → (K → Type 0) → List K → Far → Type 0
IsThere IsOver nodes Nothing = ⊥
IsThere IsOver nodes Host = ⊥
IsThere IsOver nodes (Link q m) = IsAt IsOver nodes q

-- one of the two nodes that a pick changes is
abbrev pub IsOneOver : {K : Type 0} → (K → Type 0) → NetworkState → Pick → BoardState K → Type 0
IsOneOver IsOver network pick s = IsAt IsOver s.nodes (actor network pick) ⊎ IsThere IsOver s.nodes (other_end network pick)
