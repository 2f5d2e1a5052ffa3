-- What is loaded into a network: a load tree of it, and for each processor an image that its memory can hold.
use Rattle.std.specs.Prelude.{◌≡◌, ℕ, suc, ◌<◌, ◌≤◌, ◌==◌, List, [], ◌∷◌, length, slice_index, true, if◌then◌else◌}
use Rattle.tn_word.specs.Words.{load_base}
use Rattle.tn_net.specs.Networks.{NetworkState, IsPairing, far_at}
use Rattle.tn_net.specs.declared.networks.Far.{Far}
use Rattle.tn_net.specs.declared.networks.Far.TheVariants.{Nothing, Host, Link}
use Rattle.tn_net.specs.Trees.{LoadNode, IsLoadTree}
use Rattle.tn_net.specs.WholeTrees.{IsWholeTree}
use Rattle.tn_stream.specs.Images.{ImageBytes, AreImages}
use Rattle.tn_network.specs.Holds.{HoldState, entry_of}
use Rattle.tn_network.specs.Resets.{PowerState, AreSized}
use Rattle.tn_load.specs.Boots.{image_at}
use Rattle.tn_load.specs.Inner.Lives.{Fits}

-- what comes from a far end of a host that has these bytes; and the bytes that never come to an end, where
-- the host lacks these of its stream
abbrev pub from_host : List ℕ → Far → List ℕ
from_host bytes Nothing = []
from_host bytes Host = bytes
from_host bytes (Link q m) = []

abbrev pub unsent : NetworkState → List ℕ → Far → List ℕ
unsent network rest Nothing = []
unsent network rest Host = []
unsent network rest (Link p l) = from_host rest (far_at network p l)

-- the place of a processor among the nodes
unfoldable pub place_of : List LoadNode → ℕ → ℕ
place_of [] p = 0
place_of (node ∷ nodes) p = if node.processor == p then 0 else suc (place_of nodes p)

-- a load tree of a network, images that fit, power-ups of the sizes of the memories, and holds at the entries
pub record IsLoading (network : NetworkState) (nodes : List LoadNode) (images : List ImageBytes) (powers : List PowerState)
    (holds : HoldState) : Type 0 where
  pub pairing : IsPairing network
  pub tree : IsLoadTree network nodes
  pub whole : IsWholeTree nodes (length network.sizes)
  pub count : length images ≡ length network.sizes
  pub segments : AreImages images
  pub fits : (p : ℕ) → p < length network.sizes → Fits (slice_index network.sizes p) (image_at images p)
  pub above : (p : ℕ) → p < length network.sizes → load_base ≤ (image_at images p).entry
  pub sized : AreSized powers network
  pub entries : (p : ℕ) → p < length network.sizes → entry_of holds p ≡ (image_at images p).entry
  pub held : holds.held ≡ true
