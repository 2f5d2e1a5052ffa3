-- Networks: the memories of the processors, what is at the far end of each link, and the host's end.
use Rattle.std.specs.Prelude.{◌≡◌, ℕ, ◌+◌, ◌*◌, ◌<◌, ◌≤◌, ◌≢◌, ◌↔◌, List, map, length, slice_index, slice_index_or, Some}
use Rattle.tn_text.specs.declared.limits.TheConstants.{PROCESSOR_LIMIT}
use Rattle.tn_mem.specs.Sizes.{IsMemorySize}
use Rattle.tn_net.specs.declared.lines.LinkEnd.{LinkEnd}
use Rattle.tn_net.specs.declared.networks.Far.{Far}
use Rattle.tn_net.specs.declared.networks.Far.TheVariants.{Nothing, Host, Link}
use Rattle.tn_net.specs.RawNetworks.{RawLists}
use Rattle.tn_net.specs.Lines.{name_at, end_lines, line_at, Wires}

-- the sizes of the memories by processor, the far ends of the links, four for each processor in
-- order, and the processor and the link that the host is wired to
pub record NetworkState : Type 0 where
  pub sizes : List ℕ
  pub fars : List Far
  pub root : ℕ
  pub root_link : ℕ

-- what is at the far end of link l of processor p
abbrev pub far_at : NetworkState → ℕ → ℕ → Far
far_at n p l = slice_index_or n.fars (4 * p + l) Nothing

-- link l of processor p
pub record IsEnd (n : NetworkState) (p l : ℕ) : Type 0 where
  pub processor : p < length n.sizes
  pub link : l < 4

-- The links are paired one to one and both ways, no link with itself; the host has one end, which is
-- paired with no other.
pub record IsPairing (n : NetworkState) : Type 0 where
  pub few : length n.sizes ≤ PROCESSOR_LIMIT
  pub sizes : (p : ℕ) → p < length n.sizes → IsMemorySize (slice_index n.sizes p)
  pub room : length n.fars ≡ 4 * length n.sizes
  pub root : IsEnd n n.root n.root_link
  pub ends : (p l q m : ℕ) → IsEnd n p l → far_at n p l ≡ Link q m → IsEnd n q m
  pub ways : (p l q m : ℕ) → IsEnd n p l → far_at n p l ≡ Link q m → far_at n q m ≡ Link p l
  pub apart : (p l : ℕ) → IsEnd n p l → far_at n p l ≢ Link p l
  pub hosted : far_at n n.root n.root_link ≡ Host
  pub once : (p l : ℕ) → IsEnd n p l → far_at n p l ≡ Host → (p ≡ n.root) × (l ≡ n.root_link)

-- link l of processor p, as lines name it
abbrev pub end_of : List (List ℕ × ℕ × ℕ) → ℕ → ℕ → LinkEnd
end_of names p l = record { name = name_at names p; link = l }

-- some line wires link l of processor p to link m of processor q
pub record Joined (raw : RawLists) (p l q m : ℕ) : Type 0 where
  pub one : p < length raw.names
  pub two : q < length raw.names
  pub place : ℕ
  pub here : place < length (end_lines raw)
  pub wires : Wires (line_at (end_lines raw) place) (end_of raw.names p l) (end_of raw.names q m)

-- the host line names link l of processor p
abbrev pub HostAt : RawLists → ℕ → ℕ → Type 0
HostAt raw p l = (line : ℕ) × (raw.host ≡ Some (name_at raw.names p, l, line))

-- the network that is described
pub record IsNetwork (raw : RawLists) (n : NetworkState) : Type 0 where
  pub sizes : n.sizes ≡ map (λ processor. processor.1) raw.names
  pub links : (p l q m : ℕ) → IsEnd n p l → (far_at n p l ≡ Link q m) ↔ Joined raw p l q m
  pub host : (p l : ℕ) → IsEnd n p l → (far_at n p l ≡ Host) ↔ HostAt raw p l
  pub root : HostAt raw n.root n.root_link
